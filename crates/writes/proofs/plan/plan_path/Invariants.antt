-- `plan::plan_path` meets its contract: what is left of the path goes on from the plan so far. Assumes nothing.
use mathlib.Core.Path.{◌≡◌}
use Rattle.tree.specs.Table.{tree_at}
use Rattle.writes.specs.Path.{count_of}
use Rattle.writes.proofs.PassLaws.{Passing}
use Rattle.writes.proofs.plan.plan_path.Given as goal

abbrev pub invariant-loop-k : goal.invariant-loop-k
invariant-loop-k l = (l.count ≡ count_of l.path) × Passing (tree_at l.base l.initial.top l.b) l.number l.path l.content l.k l.top l.p
