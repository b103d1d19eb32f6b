-- `size::is_rooted` meets its contract. Assumes nothing.
use Rattle.puts.specs.Puts.{Rooted}
use Rattle.puts.proofs.size.is_rooted.Given as goal

abbrev pub invariant-loop-i : goal.invariant-loop-i
invariant-loop-i l = Rooted l.body l.b l.i
