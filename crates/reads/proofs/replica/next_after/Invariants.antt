-- `replica::next_after` meets its contract. Assumes nothing.
use Rattle.store.specs.Documents.{documents_of}
use Rattle.reads.specs.Next.{IsNext}
use Rattle.reads.proofs.replica.next_after.Given as goal

abbrev pub invariant-loop-d : goal.invariant-loop-d
invariant-loop-d l = IsNext l.after l.d (documents_of l.b) l.found
