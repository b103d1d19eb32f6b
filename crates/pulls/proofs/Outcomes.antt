-- Each public function has one outcome. Assumes nothing.
use Rattle.rules.specs.Outcome.{OneOutcome}
use Rattle.rules.proofs.OutcomeLaws.{fixed}
use Rattle.pulls.proofs.pull.Kinds as pull
use Rattle.pulls.proofs.pull.Reads as pull'

pub pull_outcome : OneOutcome _ pull.ps pull.r pull'.Asked pull'.Learnt (λ κs s. s.0.now)
pull_outcome κs a x y s t h p q = (fixed p.counts q.counts, fixed p.bytes q.bytes)
