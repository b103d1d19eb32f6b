-- `ids_at` meets its contract. The loop's invariant: the values before i are hashes, and those are laid down. Assumes nothing.
use Prim.Native.Nat.{◌-◌}
use lib.ListN.{length}
use Rattle.takes.proofs.IdsLaws.{ReadingIds}
use Rattle.takes.proofs.ids_at.Given as goal

abbrev pub invariant-loop-hash : goal.invariant-loop-hash
invariant-loop-hash l = ReadingIds 12 l.s l.at l.i l.n l.path

abbrev pub decreases-loop-hash : goal.decreases-loop-hash
decreases-loop-hash l = length l.s - l.i
