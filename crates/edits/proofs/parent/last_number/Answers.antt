-- `parent::last_number` meets its contract. Assumes nothing.
use Rattle.edits.proofs.ParentLaws.{last_known, last_none}
use Rattle.edits.proofs.parent.last_number.Goals as goal

pub returns-in-Some : goal.returns-in-Some
returns-in-Some c = λ r e t. last_known _ r e t _ c.in-Some.is

pub returns-in-None : goal.returns-in-None
returns-in-None c = λ r e t. last_none _ r e t c.in-None.is
