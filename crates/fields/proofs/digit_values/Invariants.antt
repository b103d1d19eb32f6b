-- `fields::digit_values` meets its contract. Assumes nothing.
use mathlib.Core.Path.{◌≡◌}
use mathlib.Core.List.{map}
use Prim.Native.Nat.{◌+◌}
use lib.ListN.{length, take}
use Rattle.rules.specs.Room.{hash_size}
use Rattle.lines.specs.Said.{hex_digit_value}
use Rattle.fields.proofs.digit_values.Given as goal

abbrev pub invariant-loop-i : goal.invariant-loop-i
invariant-loop-i l = (length l.values ≡ hash_size + hash_size) × (take l.i l.values ≡ map hex_digit_value (take l.i l.t))
