-- `head::head_bad` meets its contract. Assumes nothing.
use Rattle.std.proofs.Common.{rules, tests, arith}
use Rattle.faults.proofs.JudgeLaws.{head_given}
use Rattle.faults.proofs.head.head_bad.Goals as goal

pub returns-else-given-d : goal.returns-else-given-d
returns-else-given-d c =
    head_given c.args.s.now _ (omega arith) (omega arith) (omega arith) (search rules) (λ e. search (rules, tests, arith)) (λ e f. search (rules, tests, arith))
