-- `put_lines` meets its contract. Assumes nothing.
use mathlib.Core.Path.{◌≡◌}
use lib.ListN.{length}
use Rattle.text.specs.Text.{Put}
use Rattle.puts.specs.Puts.{path_room}
use Rattle.puts.proofs.LinesLaws.{lines_from}
use Rattle.puts.proofs.put_lines.Given as goal

abbrev pub invariant-loop-i : goal.invariant-loop-i
invariant-loop-i l = (length l.path ≡ path_room) × Put (lines_from l.id l.body l.b l.i) l.initial.out 0 l.at l.out
