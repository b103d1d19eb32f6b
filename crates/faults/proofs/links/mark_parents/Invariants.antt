-- `links::mark_parents` meets its contract. Assumes nothing.
use Rattle.faults.proofs.LinkLaws.{Looked}
use Rattle.faults.proofs.links.mark_parents.Given as goal

abbrev pub invariant-loop-j : goal.invariant-loop-j
invariant-loop-j l = Looked l.base l.n l.s l.j l.run l.marks l.missing
