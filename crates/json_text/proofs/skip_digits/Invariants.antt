-- `json_text::skip_digits` meets its contract. Assumes nothing.
use Rattle.json_text.specs.Grammar.{digit, many}
use lib.ListN.{length, drop}
use Prim.Native.Nat.{◌≤◌, ◌-◌}
use Rattle.json_text.proofs.skip_digits.Given as goal

abbrev pub invariant-loop-i : goal.invariant-loop-i
invariant-loop-i l = (l.at ≤ l.i) × ((l.i ≤ length l.s) × many digit (drop l.at l.s) (drop l.i l.s))

abbrev pub decreases-loop-i : goal.decreases-loop-i
decreases-loop-i l = length l.s - l.i
