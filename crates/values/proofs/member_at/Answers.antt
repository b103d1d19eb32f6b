-- `values::member_at` meets its contract. Assumes nothing.
use mathlib.Core.Path.{refl, sym, ◌∙◌}
use Rattle.std.specs.Prelude.{None, Some}
use Rattle.values.proofs.PlaceLaws.{no_name, no_colon, no_value}
use Rattle.values.proofs.member_at.Goals as goal

pub returns-in_err-name_end : goal.returns-in_err-name_end
returns-in_err-name_end c =
    let a = c.args in rw c.from_residual.ensures (no_name a.depth a.s.now a.at None c.in_err-name_end.ensures refl)

pub returns-then-peek-ne58 : goal.returns-then-peek-ne58
returns-then-peek-ne58 c =
    let a = c.args in
    let n = c.in_ok-name_end in
    let w = c.skip_ws-colon in
    no_colon a.depth a.s.now a.at (Some n.name_end) n.ensures n.name_end refl w.result w.ensures (λ e. c.if-peek-ne58.true (c.peek.ensures ∙ e))

pub returns-in_err-value_end : goal.returns-in_err-value_end
returns-in_err-value_end c =
    let a = c.args in
    let n = c.in_ok-name_end in
    let w = c.skip_ws-colon in
    let v = c.skip_ws-value in
    rw c.from_residual-in_err-value_end.ensures
    (no_value a.depth a.s.now a.at (Some n.name_end) n.ensures n.name_end refl w.result w.ensures (sym c.peek.ensures ∙ c.if-peek-ne58.false)
    v.result v.ensures None c.in_err-value_end.ensures refl)
