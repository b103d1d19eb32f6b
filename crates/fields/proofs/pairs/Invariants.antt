-- `fields::pairs` meets its contract. Assumes nothing.
use mathlib.Core.Path.{◌≡◌}
use Prim.Native.Nat.{◌+◌}
use lib.ListN.{length, take}
use Rattle.rules.specs.Room.{hash_size}
use Rattle.fields.specs.Fields.{pairs}
use Rattle.fields.proofs.pairs.Given as goal

abbrev pub invariant-loop-i : goal.invariant-loop-i
invariant-loop-i l = (length l.hash ≡ hash_size) × (take l.i l.hash ≡ pairs (take (l.i + l.i) l.values))
