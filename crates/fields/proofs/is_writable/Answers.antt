-- `fields::is_writable` meets its contract. Assumes nothing.
use Rattle.std.proofs.Common.{rules, tests}
use native.Mathlib.Omega.{arith}
use Rattle.lines.specs.Take.{is_writable}
use Rattle.fields.proofs.NameLaws.{in_range}
use Rattle.fields.proofs.is_writable.Goals as goal

pub returns-then-c-ne34 : goal.returns-then-c-ne34
returns-then-c-ne34 c = in_range c.args.c (omega arith) (omega arith) (λ e. omega arith)

pub returns-else-c-ne34 : goal.returns-else-c-ne34
unfolding is_writable
returns-else-c-ne34 c = search (rules, tests)
