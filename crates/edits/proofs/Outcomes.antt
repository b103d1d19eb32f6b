-- Each public function has one outcome. Assumes nothing.
use Rattle.rules.specs.Outcome.{OneOutcome}
use Rattle.rules.proofs.OutcomeLaws.{fixed}
use Rattle.edits.proofs.edit.Kinds as edit
use Rattle.edits.proofs.edit.Reads as edit'

pub edit_outcome : OneOutcome _ edit.ps edit.r edit'.Asked edit'.Learnt (λ κs s. s.0.now)
edit_outcome κs a x y s t h p q = (fixed p.answer q.answer, fixed p.left q.left)
