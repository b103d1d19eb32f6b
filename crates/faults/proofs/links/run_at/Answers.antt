-- `links::run_at` meets its contract. Assumes nothing.
use Rattle.faults.proofs.LinkLaws.{run_stays, run_moves}
use Rattle.faults.proofs.links.run_at.Goals as goal

pub returns-then-x-y : goal.returns-then-x-y
returns-then-x-y c = run_stays _ _ _ _ _ _ c.number-x.ensures.is c.number-y.ensures.is c.if-x-y.true

pub returns : goal.returns
returns c = run_moves _ _ _ _ _ _ c.number-x.ensures.is c.number-y.ensures.is c.if-x-y.false
