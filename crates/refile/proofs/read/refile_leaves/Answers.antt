-- `refile_leaves` meets its contract. Assumes nothing.
use Rattle.refile.proofs.CallLaws.{none_first, lent_stands}
use Rattle.refile.proofs.ReadCallLaws.{leaves_reads, read_refuses, read_answers}
use Rattle.refile.proofs.read.refile_leaves.Goals as goal

pub returns-in-Err : goal.returns-in-Err
returns-in-Err c = read_refuses (leaves_reads _ _ _) c.check_replica.ensures c.in-Err.is c.unfit.ensures

pub leaves-requires : goal.leaves-requires
leaves-requires c = lent_stands _ (none_first _ c.check_replica.ensures c.in_default.is) c.requires

pub returns : goal.returns
returns c = read_answers (leaves_reads _ _ _) c.check_replica.ensures c.in_default.is c.leaves.ensures c.answered.ensures
