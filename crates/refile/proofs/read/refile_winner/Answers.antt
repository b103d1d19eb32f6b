-- `refile_winner` meets its contract. Assumes nothing.
use Rattle.refile.proofs.CallLaws.{none_first, lent_stands}
use Rattle.refile.proofs.ReadCallLaws.{winner_reads, read_refuses, read_answers}
use Rattle.refile.proofs.read.refile_winner.Goals as goal

pub returns-in-Err : goal.returns-in-Err
returns-in-Err c = read_refuses (winner_reads _ _ _) c.check_replica.ensures c.in-Err.is c.unfit.ensures

pub winner-requires : goal.winner-requires
winner-requires c = lent_stands _ (none_first _ c.check_replica.ensures c.in_default.is) c.requires

pub returns : goal.returns
returns c = read_answers (winner_reads _ _ _) c.check_replica.ensures c.in_default.is c.winner.ensures c.answered.ensures
