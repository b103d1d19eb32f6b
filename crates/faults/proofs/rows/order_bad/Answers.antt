-- `rows::order_bad` meets its contract. Assumes nothing.
use mathlib.Core.Path.{◌≡◌, refl, ◌∙◌}
use borrow.Author.Tests.{lt-leb}
use Rattle.std.proofs.Common.{rules}
use mathlib.Core.Bool.{not}
use Rattle.rules.specs.Order.{is_less}
use Rattle.faults.proofs.RowLaws.{order_less, order_told}
use Rattle.faults.proofs.rows.order_bad.Goals as goal

pub returns-then-y-x : goal.returns-then-y-x
returns-then-y-x c =
    let a = c.args in
    let not_less : c.is_ge.result ≡ not (is_less c.compare_at.result) = search rules in
    not_less ∙ order_told a.base a.j _ _ a.s.now c.if-j-eq0.false refl c.number-x.ensures.is _ c.hash.ensures.is _ c.compare_at.ensures

pub returns-else-y-x : goal.returns-else-y-x
returns-else-y-x c =
    let a = c.args in
    lt-leb _ _ c.if-y-x.false ∙ order_less a.base a.j _ _ a.s.now c.if-j-eq0.false refl c.number-x.ensures.is _ c.number-y.ensures.is c.if-y-x.false
