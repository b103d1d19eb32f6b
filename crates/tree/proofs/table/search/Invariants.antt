-- `table::search` meets its contract. Assumes nothing.
use Prim.Native.Nat.{◌-◌, ◌≤◌}
use Rattle.rules.specs.Replica.{revision}
use Rattle.tree.proofs.SearchLaws.{Over, Under}
use Rattle.tree.specs.Table.{tree_in}
use Rattle.tree.proofs.table.search.Given as goal

abbrev pub invariant-loop-lo : goal.invariant-loop-lo
invariant-loop-lo l = (l.lo ≤ l.hi) × (l.hi ≤ l.body.rows) × Under (tree_in l.body l.s) (revision l.number.0 l.hash) l.lo × Over (tree_in l.body l.s) (revision l.number.0 l.hash) l.hi

abbrev pub decreases-loop-lo : goal.decreases-loop-lo
decreases-loop-lo l = l.hi - l.lo
