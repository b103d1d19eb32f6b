-- `contents::entry_bad` meets its contract. Assumes nothing.
use Rattle.std.proofs.Common.{rules, tests}
use Rattle.rules.specs.Faults.{bad_entry}
use Rattle.faults.proofs.contents.entry_bad.Goals as goal

pub returns-then-place-due : goal.returns-then-place-due
unfolding bad_entry
returns-then-place-due c = search (rules, tests)

pub returns-else-place-due : goal.returns-else-place-due
unfolding bad_entry
returns-else-place-due c = search (rules, tests)
