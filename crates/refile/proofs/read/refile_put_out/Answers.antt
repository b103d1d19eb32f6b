-- `refile_put_out` meets its contract. Assumes nothing.
use Rattle.refile.proofs.CallLaws.{none_first, lent_stands}
use Rattle.refile.proofs.LineLaws.{put_out_reads}
use Rattle.refile.proofs.ReadCallLaws.{read_refuses, read_answers}
use Rattle.refile.proofs.read.refile_put_out.Goals as goal

pub returns-in-Err : goal.returns-in-Err
returns-in-Err c = read_refuses (put_out_reads _ _ _) c.check_replica.ensures c.in-Err.is c.unfit.ensures

pub put_out-requires : goal.put_out-requires
put_out-requires c = lent_stands _ (none_first _ c.check_replica.ensures c.in_default.is) c.requires

pub returns : goal.returns
returns c = read_answers (put_out_reads _ _ _) c.check_replica.ensures c.in_default.is c.put_out.ensures c.answered.ensures
