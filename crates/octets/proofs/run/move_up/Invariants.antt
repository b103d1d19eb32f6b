-- `run::move_up` meets its contract. Assumes nothing.
use Rattle.std.proofs.Common.{◌≡◌, ◌≤◌, length}
use Rattle.octets.proofs.SpliceLaws.{moved}
use Rattle.octets.proofs.run.move_up.Given as goal

abbrev pub invariant-loop-k : goal.invariant-loop-k
invariant-loop-k l = (l.k ≤ l.len) × (l.s ≡ moved l.initial.s l.at l.len l.by l.k) × (length l.s ≡ length l.initial.s)
