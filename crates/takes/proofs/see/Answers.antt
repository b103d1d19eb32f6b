-- `see` meets its contract. Assumes nothing.
use Rattle.takes.proofs.SpotLaws.{tag_place, see_some, see_none}
use Rattle.takes.proofs.see.Goals as goal

pub returns-in-Some : goal.returns-in-Some
returns-in-Some c = see_some _ _ _ _ _ c.in-Some.is (tag_place c.in-Some.name) c.seen.ensures

pub returns-in_default : goal.returns-in_default
returns-in_default c = see_none _ _ _ _ c.in_default.is
