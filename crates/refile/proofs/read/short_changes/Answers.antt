-- `short_changes` meets its contract. Assumes nothing.
use Rattle.refile.proofs.ReadCallLaws.{short_none, short_next}
use Rattle.refile.proofs.read.short_changes.Goals as goal

pub returns-in-None : goal.returns-in-None
returns-in-None c = short_none _ _ _ c.next_after.ensures c.in-None.is

pub returns-in-Some : goal.returns-in-Some
returns-in-Some c = short_next _ _ _ c.next_after.ensures _ _ _ c.in-Some.is c.refused.ensures
