-- `refile_counts` meets its contract. Assumes nothing.
use Rattle.refile.specs.Boundary.{held_bytes, counts_call}
use Rattle.refile.proofs.CallLaws.{none_first, lent_stands, lent_refuses}
use Rattle.refile.proofs.ReadCallLaws.{counts_short, counts_answer}
use Rattle.refile.proofs.read.refile_counts.Goals as goal

pub returns-in-Err : goal.returns-in-Err
unfolding counts_call
returns-in-Err c = lent_refuses _ _ c.check_replica.ensures c.in-Err.is c.unfit.ensures

pub returns-then-answer-lt-COUNTS : goal.returns-then-answer-lt-COUNTS
returns-then-answer-lt-COUNTS c = counts_short _ _ (none_first _ c.check_replica.ensures c.in_default.is) _ c.if-answer-lt-COUNTS.true c.refused.ensures

pub counts-held-requires : goal.counts-held-requires
counts-held-requires c = lent_stands _ (none_first _ c.check_replica.ensures c.in_default.is) c.requires

pub returns : goal.returns
unfolding held_bytes
returns c = counts_answer _ _ (none_first _ c.check_replica.ensures c.in_default.is) _ _ c.if-answer-lt-COUNTS.false c.counts-held.ensures c.put_numbers.ensures
