-- `copy_entries` meets its contract. The loop's invariant: the entries that are left, put behind those that are done,
use mathlib.Core.Path.{◌≡◌}
use Prim.Native.Nat.{◌+◌, ◌-◌, ◌*◌, ◌≤◌}
use lib.ListN.{length}
use Rattle.rules.specs.Layout.{head_size, row_size}
use Rattle.octets.specs.Splice.{splice}
use Rattle.layout.specs.Fields.{two_bytes, entry_place}
use Rattle.codec.specs.Codec.{moved}
use Rattle.codec.proofs.copy_entries.Given as goal

abbrev pub invariant-loop-i : goal.invariant-loop-i
invariant-loop-i l = (length l.dst ≡ length l.initial.dst)
    × (l.place ≤ l.first + row_size * two_bytes * l.i)
    × (splice l.initial.dst head_size (moved l.step l.first l.d head_size l.src) ≡ splice l.dst (entry_place l.i) (moved l.step l.place (l.d - l.i) (entry_place l.i) l.src))
