-- `judge::revisions_full` meets its contract. Assumes nothing.
use Rattle.rules.specs.Room.{revisions_most}
use lib.Dec.{ltb}
use Prim.Native.Nat.{ℕ, ◌+◌}
use mathlib.Core.Path.{ap}
use Rattle.writes.proofs.judge.revisions_full.Goals as goal

pub returns : goal.returns
returns c = ap (λ (n : ℕ). ltb revisions_most (n + c.args.new)) c.revisions_held-held.ensures
