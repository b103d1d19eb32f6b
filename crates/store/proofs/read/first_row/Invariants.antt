-- `read::first_row` meets its contract. The sum is that of the documents passed. Assumes nothing.
use mathlib.Core.Path.{◌≡◌}
use Rattle.store.specs.Documents.{documents_of, first_row}
use Rattle.store.proofs.read.first_row.Given as goal

abbrev pub invariant-loop-i : goal.invariant-loop-i
invariant-loop-i l = l.sum ≡ first_row (documents_of l.b) l.i
