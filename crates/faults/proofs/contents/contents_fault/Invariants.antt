-- `contents::contents_fault` meets its contract. Assumes nothing.
use mathlib.Core.Path.{◌≡◌}
use Prim.Native.Nat.{◌*◌, ◌≤◌}
use Rattle.rules.specs.Faults.{bad_contents}
use Rattle.rules.specs.Layout.{head_of}
use Rattle.layout.specs.Fields.{two_bytes}
use Rattle.faults.specs.Places.{FitsBefore}
use Rattle.faults.proofs.FirstLaws.{contents_from}
use Rattle.faults.proofs.contents.contents_fault.Given as goal

abbrev pub invariant-loop-i : goal.invariant-loop-i
invariant-loop-i l = (l.sum ≤ two_bytes * l.i) × FitsBefore l.i l.s × (bad_contents l.s ≡ contents_from l.s l.d (head_of l.s).revisions l.i l.sum)
