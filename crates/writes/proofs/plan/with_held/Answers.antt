-- `plan::with_held` meets its contract. Assumes nothing.
use Rattle.writes.proofs.PassLaws.{from_bool_is, with_held}
use mathlib.Core.Bool.{Bool, ◌||◌}
use mathlib.Core.Path.{ap, ◌∙◌}
use Rattle.writes.proofs.plan.with_held.Goals as goal

pub returns : goal.returns
returns c =
    λ t e.
    let a = c.args in
    let l = c.lacks_parent-lacks in
    let x = ap (λ (v : Bool). a.p.crossed || v) c.other_parent.ensures in
    let y = ap (λ (v : Bool). a.p.other || v) c.other_content.ensures in
    with_held t a.k a.p a.held a.given _ _ l.result _ _ e l.ensures x y (c.from.ensures ∙ from_bool_is _) c.reach.ensures
