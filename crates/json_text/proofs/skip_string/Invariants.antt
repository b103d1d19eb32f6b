-- `json_text::skip_string` meets its contract. The loop's invariant: what is left of the string is what stands at i.
use Prim.Native.Nat.{◌-◌, ◌≤◌}
use lib.ListN.{length}
use Rattle.json_text.specs.Grammar.{byte, ◌then◌, many, char, string}
use Rattle.json_text.proofs.StepLaws.{Leads}
use Rattle.json_text.proofs.skip_string.Given as goal

abbrev pub invariant-loop-i : goal.invariant-loop-i
invariant-loop-i l = (l.i ≤ length l.s) × Leads string (many char then byte 34) l.s l.at l.i

abbrev pub decreases-loop-i : goal.decreases-loop-i
decreases-loop-i l = length l.s - l.i
