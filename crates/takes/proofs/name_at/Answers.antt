-- `name_at` meets its contract. Assumes nothing.
use mathlib.Core.Path.{◌∙◌}
use Rattle.takes.specs.Walk.{NoMember}
use Rattle.values.proofs.PlaceLaws.{no_name, no_colon}
use Rattle.takes.proofs.name_at.Goals as goal

pub returns-in_err-to : goal.returns-in_err-to
unfolding NoMember
returns-in_err-to c = rw c.from_residual.ensures (λ d. no_name d c.args.s.now c.args.at c.skip_string.result c.skip_string.ensures c.in_err-to.was)

pub returns-then-peek-ne-COLON : goal.returns-then-peek-ne-COLON
unfolding NoMember
returns-then-peek-ne-COLON c =
    λ d. no_colon d c.args.s.now c.args.at c.skip_string.result c.skip_string.ensures _ c.in_ok-to.was
    c.skip_ws-colon.result c.skip_ws-colon.ensures (λ e. c.if-peek-ne-COLON.true (c.peek.ensures ∙ e))
