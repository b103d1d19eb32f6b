-- Each public function has one outcome. Assumes nothing.
use Rattle.rules.specs.Outcome.{OneOutcome}
use Rattle.rules.proofs.OutcomeLaws.{fixed}
use Rattle.writes.proofs.settle.write_to.Kinds as write-to
use Rattle.writes.proofs.settle.write_to.Reads as write-to'
use Rattle.writes.proofs.write.Kinds as write
use Rattle.writes.proofs.write.Reads as write'

pub write_outcome : OneOutcome _ write.ps write.r write'.Asked write'.Learnt (λ κs s. s.0.now)
write_outcome κs a x y s t h p q = (fixed p.answer q.answer, fixed p.left q.left)

pub write_to_outcome : OneOutcome _ write-to.ps write-to.r write-to'.Asked write-to'.Learnt (λ κs s. s.0.now)
write_to_outcome κs a x y s t h p q = (fixed p.answer q.answer, fixed p.left q.left)
