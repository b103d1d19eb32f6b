-- `json_text::skip_ranges` meets its contract. The loop's invariant: what is left of the ranges is what stands at i.
use mathlib.Core.Path.{◌≡◌}
use Prim.Native.Nat.{◌+◌, ◌≤◌, ◌<◌}
use lib.ListN.{length, drop}
use Rattle.json_text.specs.Skips.{in_turn}
use Rattle.json_text.proofs.StepLaws.{Leads}
use Rattle.json_text.proofs.skip_ranges.Given as goal

abbrev pub invariant-loop-r : goal.invariant-loop-r
invariant-loop-r l = record {
  place : l.i ≡ l.at + l.r-index;
  within : 0 < l.r-index → l.i ≤ length l.s;
  leads : Leads (in_turn l.ranges) (in_turn (drop l.r-index l.ranges)) l.s l.at l.i;
}
