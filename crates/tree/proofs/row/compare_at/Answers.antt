-- `row::compare_at` meets its contract. Assumes nothing.
use mathlib.Core.Path.{◌∙◌, ap, sym}
use Rattle.rules.specs.Order.{order_n}
use Rattle.rules.specs.Replica.{revision}
use Rattle.rules.proofs.OrderLaws.{order_n_same}
use Rattle.tree.proofs.RowLaws.{order_n_cmp, rev_apart, rev_hash, rev_is, rev_level}
use Rattle.tree.specs.Rows.{rev_at}
use Rattle.tree.proofs.row.compare_at.Goals as goal

pub returns-in-Equal : goal.returns-in-Equal
returns-in-Equal c =
    let a = c.args in
    let n = ap (order_n a.number.0) (sym (c.number-y.ensures.is ∙ ap (λ r. r.number.0) (rev_is a.at a.s.now))) ∙ (order_n_cmp a.number.0 c.number-y.result.0 ∙ sym c.cmp.ensures) in
    c.order_hash_at.ensures ∙ rw (sym (rev_hash a.at a.s.now)) (sym (rev_level (revision a.number.0 a.hash) (rev_at a.at a.s.now) (order_n_same a.number.0 (rev_at a.at a.s.now).number.0 (n ∙ c.in-Equal.is))))

pub returns-in_default : goal.returns-in_default
returns-in_default c =
    let a = c.args in
    let n = ap (order_n a.number.0) (sym (c.number-y.ensures.is ∙ ap (λ r. r.number.0) (rev_is a.at a.s.now))) ∙ (order_n_cmp a.number.0 c.number-y.result.0 ∙ sym c.cmp.ensures) in
    sym (rev_apart (revision a.number.0 a.hash) (rev_at a.at a.s.now) (λ e. c.in_default.not-Equal (sym n ∙ e)) ∙ n)
