-- Each turn either takes bytes in or spends a try.
use Rattle.std.proofs.Common.{length, ◌-◌, ◌≡◌, ◌≤◌, ◌+◌}
use Rattle.check_main.proofs.read_input.Given as goal

abbrev pub invariant-loop-at : goal.invariant-loop-at
invariant-loop-at l = (l.at ≤ length l.buf) × (length l.buf ≡ length l.initial.buf)

abbrev pub decreases-loop-at : goal.decreases-loop-at
decreases-loop-at l = (length l.initial.buf - l.at) + l.tries
