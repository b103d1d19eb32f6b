-- `walk_object` meets its contract. The loop's invariant: the members before i are read, and their spots kept. Assumes nothing.
use Prim.Native.Nat.{◌-◌}
use lib.ListN.{length}
use Rattle.takes.proofs.ReadLaws.{Reading}
use Rattle.takes.proofs.walk_object.Given as goal

abbrev pub invariant-loop-to : goal.invariant-loop-to
invariant-loop-to g l = Reading (g.R.Reads.read l.s) g.R.Reads.of_name g.R.Reads.first_byte g.R.Reads.depth l.s l.at l.i l.path l.spots l.got

abbrev pub decreases-loop-to : goal.decreases-loop-to
decreases-loop-to g l = length l.s - l.i
