-- `put_numbers` meets its contract. Assumes nothing.
use mathlib.Core.Path.{◌≡◌}
use lib.ListN.{take}
use Rattle.rules.specs.Read.{front}
use Rattle.refile.specs.Boundary.{numbers}
use Rattle.refile.proofs.answer.put_numbers.Given as goal

abbrev pub invariant-loop-i : goal.invariant-loop-i
invariant-loop-i l = l.out ≡ front (numbers (take l.i l.ns)) l.initial.out
