-- `replica::changes` meets its contract. Assumes nothing.
use Rattle.reads.proofs.OpenLaws.{has_tree}
use Rattle.reads.proofs.NextLaws.{next_within, changes_none, changes_next}
use Rattle.reads.proofs.replica.changes.Goals as goal

pub returns-in_default : goal.returns-in_default
returns-in_default c = changes_none _ _ _ c.in_default.is c.next_after.ensures

pub answer_change-requires : goal.answer_change-requires
answer_change-requires c = has_tree _ _ c.requires (next_within _ _ c.in-Some.is c.next_after.ensures)

pub returns : goal.returns
returns c = changes_next _ _ _ c.in-Some.is c.next_after.ensures c.answer_change.ensures
