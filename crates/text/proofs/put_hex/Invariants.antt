-- `text::put_hex` meets its contract. Assumes nothing.
use Rattle.std.proofs.Common.{◌≡◌, ◌+◌, ◌*◌, length, take}
use Rattle.rules.specs.Report.{hex}
use Rattle.octets.specs.Splice.{splice}
use Rattle.text.proofs.put_hex.Given as goal

abbrev pub invariant-loop-b : goal.invariant-loop-b
invariant-loop-b l = (l.next ≡ l.at + 2 * l.b-index) × (length l.s ≡ length l.initial.s) × (l.s ≡ splice l.initial.s l.at (hex (take l.b-index l.bytes)))
