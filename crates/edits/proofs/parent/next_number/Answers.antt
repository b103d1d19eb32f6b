-- `parent::next_number` meets its contract. Assumes nothing.
use Rattle.edits.proofs.ParentLaws.{after_known, after_none}
use Rattle.edits.proofs.parent.next_number.Goals as goal

pub returns-in-Some : goal.returns-in-Some
returns-in-Some c = λ r e t. after_known _ r e t _ c.in-Some.is

pub returns-in-None : goal.returns-in-None
returns-in-None c = λ r e t. after_none _ r e t c.in-None.is
