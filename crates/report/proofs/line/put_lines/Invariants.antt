-- `report::line::put_lines` meets its contract. Assumes nothing.
use mathlib.Core.Path.{◌≡◌}
use Prim.Native.Nat.{◌+◌, ◌*◌, ◌≤◌}
use lib.ListN.{length, take}
use Rattle.text.specs.Text.{Put}
use Rattle.store.specs.Documents.{documents_of}
use Rattle.report.specs.Lines.{line_most, lines_text}
use Rattle.report.proofs.line.put_lines.Given as goal

abbrev pub invariant-loop-d : goal.invariant-loop-d
invariant-loop-d l = (l.next ≤ l.at + line_most * l.d) × (length l.s ≡ length l.initial.s) × Put (lines_text (take l.d (documents_of l.b))) l.initial.s l.at l.next l.s
