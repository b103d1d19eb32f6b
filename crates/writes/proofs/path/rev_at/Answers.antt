-- `path::rev_at` meets its contract. Assumes nothing.
use Rattle.writes.specs.Path.{count_of, hash_at, rev_at}
use Rattle.rules.specs.Replica.{revision}
use native.Mathlib.Omega.{arith}
use Prim.Native.Nat.{ℕ, ◌-◌}
use mathlib.Core.List.{List}
use mathlib.Core.Path.{ap}
use Rattle.writes.proofs.path.rev_at.Goals as goal

pub get_hash-hash-requires : goal.get_hash-hash-requires
unfolding count_of
get_hash-hash-requires c = let h = c.requires.within in omega arith

pub returns : goal.returns
unfolding rev_at hash_at
returns c = ap (λ (h : List ℕ). revision (c.args.number.0 - c.args.k) h) c.get_hash-hash.ensures.is
