-- `refile_put_out_size` meets its contract. Assumes nothing.
use Rattle.refile.proofs.CallLaws.{none_first, lent_stands}
use Rattle.refile.proofs.LineLaws.{size_refuses, size_answers}
use Rattle.refile.proofs.read.refile_put_out_size.Goals as goal

pub returns-in-Err : goal.returns-in-Err
returns-in-Err c = size_refuses _ _ c.check_replica.ensures c.in-Err.is c.unfit.ensures

pub put_out_size-requires : goal.put_out_size-requires
put_out_size-requires c = lent_stands _ (none_first _ c.check_replica.ensures c.in_default.is) c.requires

pub returns : goal.returns
returns c = size_answers _ _ c.check_replica.ensures c.in_default.is c.put_out_size.ensures c.answered.ensures
