-- `refile_is_replica` meets its contract. Assumes nothing.
use Rattle.refile.proofs.CallLaws.{says_yes, says_no}
use Rattle.refile.proofs.about.refile_is_replica.Goals as goal

pub returns-then-is_replica : goal.returns-then-is_replica
returns-then-is_replica c = says_yes c.is_replica.ensures c.if-is_replica.true

pub returns : goal.returns
returns c = says_no c.is_replica.ensures c.if-is_replica.false
