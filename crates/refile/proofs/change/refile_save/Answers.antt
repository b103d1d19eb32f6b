-- `refile_save` meets its contract. Assumes nothing.
use Rattle.refile.proofs.CallLaws.{none_first, lent_stands}
use Rattle.refile.proofs.ReadCallLaws.{save_reads, read_refuses, read_answers}
use Rattle.refile.proofs.change.refile_save.Goals as goal

pub returns-in-Err : goal.returns-in-Err
returns-in-Err c = read_refuses (save_reads _ _) c.check_replica.ensures c.in-Err.is c.unfit.ensures

pub save-requires : goal.save-requires
save-requires c = lent_stands _ (none_first _ c.check_replica.ensures c.in_default.is) c.requires

pub returns : goal.returns
returns c = read_answers (save_reads _ _) c.check_replica.ensures c.in_default.is c.save.ensures c.answered.ensures
