-- `fields::read_number` meets its contract. Assumes nothing.
use mathlib.Core.Path.{◌≡◌}
use Prim.Native.Nat.{◌≤◌}
use lib.ListN.{drop}
use Rattle.lines.specs.Said.{read_number}
use Rattle.fields.proofs.NumberLaws.{rest}
use Rattle.fields.proofs.read_number.Given as goal

abbrev pub invariant-loop-c : goal.invariant-loop-c
invariant-loop-c l = (l.v ≤ l.most) × (read_number l.most l.t ≡ rest l.most l.v (drop l.c-index l.t))
