-- `size::lines_size` meets its contract. Assumes nothing.
use Rattle.puts.proofs.LinesLaws.{LinesSized}
use Rattle.puts.proofs.size.lines_size.Given as goal

abbrev pub invariant-loop-i : goal.invariant-loop-i
invariant-loop-i l = LinesSized l.id l.body l.b l.i l.size
