-- `refile_take_in` meets its contract. Assumes nothing.
use Rattle.refile.proofs.CallLaws.{none_first, lent_stands}
use Rattle.refile.proofs.LineLaws.{take_refuses, take_done}
use Rattle.refile.proofs.change.refile_take_in.Goals as goal

pub returns-in-Err : goal.returns-in-Err
returns-in-Err c = take_refuses _ _ c.check_replica.ensures c.in-Err.is c.unfit.ensures

pub take_in-requires : goal.take_in-requires
take_in-requires c = lent_stands _ (none_first _ c.check_replica.ensures c.in_default.is) c.requires

pub returns : goal.returns
returns c = take_done _ _ c.check_replica.ensures c.in_default.is c.take_in.ensures c.written.ensures
