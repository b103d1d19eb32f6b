-- `plan::is_settled` meets its contract. Assumes nothing.
use mathlib.Core.Path.{◌∙◌}
use borrow.Author.Tests.{eq-eqb, ne_eqb}
use Rattle.writes.specs.Plan.{settled}
use Rattle.writes.proofs.plan.is_settled.Goals as goal

pub returns-then-k-eq0 : goal.returns-then-k-eq0
unfolding settled
returns-then-k-eq0 c = rw (eq-eqb _ _ c.if-k-eq0.true)

pub returns-then-body-eq0 : goal.returns-then-body-eq0
unfolding settled
returns-then-body-eq0 c = rw (ne_eqb _ _ c.if-k-eq0.false, eq-eqb _ _ c.if-body-eq0.true)

pub returns : goal.returns
unfolding settled
returns c = c.is_held.ensures ∙ rw (ne_eqb _ _ c.if-k-eq0.false, ne_eqb _ _ c.if-body-eq0.false)
