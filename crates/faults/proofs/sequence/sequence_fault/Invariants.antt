-- `sequence::sequence_fault` meets its contract. Assumes nothing.
use mathlib.Core.Path.{◌≡◌}
use Rattle.rules.specs.Faults.{bad_sequence}
use Rattle.rules.specs.Layout.{head_of}
use Rattle.faults.proofs.FirstLaws.{sequence_from}
use Rattle.faults.proofs.sequence.sequence_fault.Given as goal

abbrev pub invariant-loop-i : goal.invariant-loop-i
invariant-loop-i l = bad_sequence l.s ≡ sequence_from l.s l.d (head_of l.s).seq l.i l.most
