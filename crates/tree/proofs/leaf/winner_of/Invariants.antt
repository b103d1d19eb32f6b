-- `leaf::winner_of` meets its contract. Assumes nothing.
use Rattle.std.specs.Prelude.{None}
use mathlib.Core.Path.{◌≡◌}
use Rattle.rules.specs.Read.{leaves}
use Rattle.rules.specs.declared.Content.TheVariants.{Deleted}
use Rattle.tree.proofs.LeafLaws.{rest}
use Rattle.tree.proofs.WinnerLaws.{LastWithin, first_with, is_any, is_live, last_says}
use Rattle.tree.proofs.leaf.winner_of.Given as goal

abbrev pub invariant-loop-i : goal.invariant-loop-i
invariant-loop-i l = LastWithin l.body l.deleted × (first_with is_live (leaves (rest l.body l.i l.s)) ≡ None) × (last_says l.body l.s l.deleted Deleted ≡ first_with is_any (leaves (rest l.body l.i l.s)))
