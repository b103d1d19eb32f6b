-- `leaf::leaf_count` meets its contract. Assumes nothing.
use mathlib.Core.Path.{◌≡◌}
use Prim.Native.Nat.{◌≤◌}
use lib.ListN.{length}
use Rattle.rules.specs.Read.{leaves}
use Rattle.tree.specs.Table.{tree_at}
use Rattle.tree.proofs.leaf.leaf_count.Given as goal

abbrev pub invariant-loop-i : goal.invariant-loop-i
invariant-loop-i l = (l.count ≤ l.i) × (l.count ≡ length (leaves (tree_at l.body.base l.i l.s)))
