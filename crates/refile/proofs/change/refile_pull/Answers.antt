-- `refile_pull` meets its contract. Assumes nothing.
use native.Mathlib.Omega.{arith}
use Rattle.refile.specs.Boundary.{count_bytes, pull_call}
use Rattle.refile.proofs.CallLaws.{none_first, lent_stands, unfit_keeps, lent_refuses, more_refuses}
use Rattle.refile.proofs.ChangeLaws.{pull_short, pull_done}
use Rattle.refile.proofs.change.refile_pull.Goals as goal

pub returns-in-Err : goal.returns-in-Err
unfolding pull_call
returns-in-Err c = unfit_keeps _ c.unfit.ensures (lent_refuses _ _ c.check_replica.ensures c.in-Err.is c.unfit.ensures)

pub returns-in-Err-check_replica : goal.returns-in-Err-check_replica
unfolding pull_call
returns-in-Err-check_replica c =
    unfit_keeps _ c.unfit-in-Err-check_replica.ensures
    (more_refuses _ _ (none_first _ c.check_replica.ensures c.in_default.is) c.check_replica-2.ensures c.in-Err-check_replica.is c.unfit-in-Err-check_replica.ensures)

pub returns-then-answer-lt-COUNTS : goal.returns-then-answer-lt-COUNTS
returns-then-answer-lt-COUNTS c =
    pull_short _ _ _ _ (none_first _ c.check_replica.ensures c.in_default.is) (none_first _ c.check_replica-2.ensures c.in_default-check_replica.is)
    _ c.if-answer-lt-COUNTS.true c.refused.ensures

pub pull-c-requires : goal.pull-c-requires
pull-c-requires c =
    record {
      source = lent_stands _ (none_first _ c.check_replica-2.ensures c.in_default-check_replica.is) c.requires.1;
      target = lent_stands _ (none_first _ c.check_replica.ensures c.in_default.is) c.requires.0;
    }

pub put_numbers-requires : goal.put_numbers-requires
put_numbers-requires c = omega arith

pub returns : goal.returns
unfolding count_bytes
returns c =
    pull_done _ _ _ _ (none_first _ c.check_replica.ensures c.in_default.is) (none_first _ c.check_replica-2.ensures c.in_default-check_replica.is)
    _ _ _ c.if-answer-lt-COUNTS.false
    c.pull-c.ensures c.put_numbers.ensures
