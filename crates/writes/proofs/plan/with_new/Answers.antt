-- `plan::with_new` meets its contract. Assumes nothing.
use Rattle.std.specs.Prelude.{Bool}
use Rattle.std.proofs.Common.{ap, ◌∙◌}
use Rattle.rules.specs.Choice.{pick}
use Rattle.writes.proofs.PassLaws.{from_bool_is, with_new}
use Rattle.writes.proofs.plan.with_new.Goals as goal

pub returns : goal.returns
returns c =
    λ t e.
    let a = c.args in
    with_new t a.k a.p a.given c.from.result e (c.from.ensures ∙ (from_bool_is _ ∙ ap (λ (b : Bool). pick b 1 0) c.is_some.ensures))
