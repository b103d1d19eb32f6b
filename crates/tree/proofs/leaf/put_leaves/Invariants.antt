-- `leaf::put_leaves` meets its contract. Assumes nothing.
use Rattle.rules.specs.Read.{leaves}
use Rattle.tree.proofs.LeafLaws.{Written, rest}
use Rattle.tree.proofs.leaf.put_leaves.Given as goal

abbrev pub invariant-loop-i : goal.invariant-loop-i
invariant-loop-i l = Written (leaves (rest l.body l.i l.s)) l.initial.out l.at l.out
