-- Demand 3 of the compiled calls: pulls there and back, each by its promise, and what is then held on both sides.
use Rattle.std.specs.Prelude.{◌≡◌, List, ℕ}
use Rattle.rules.specs.declared.Counts.{Counts}
use Rattle.rules.specs.Read.{winner}
use Rattle.rules.specs.Replica.{Id, fresh, tree_of}
use Rattle.rules.specs.Union.{held, both, IsUnion, SameButSeq, all_from}
use Rattle.rules.specs.Write.{Write}
use Rattle.store.specs.Storage.{replica_of, stored}
use Rattle.writes.specs.Calls.{WriteCalls}
use Rattle.pulls.specs.Pulls.{Pulled}

-- "pulling all of one into the other": a pulled into b counted c and left b', and that pulled back into a
-- counted d and left a'
pub record BothWays (a b a' b' : List ℕ) (c d : Counts) : Type 0 where
  pub forth : Pulled all_from a b c b'
  pub back : Pulled all_from b' a d a'

-- writes us and vs made a and b from the fresh s
pub record BothMade (us vs : List Write) (s a b : List ℕ) : Type 0 where
  pub is_fresh : s ≡ stored fresh
  pub into_a : WriteCalls us s a
  pub into_b : WriteCalls vs s b

-- what pulls both ways left holds what a and b held, and they refused nothing
pub record BothHold (a b a' b' : List ℕ) (c d : Counts) : Type 1 where
  pub union_there : IsUnion (replica_of b') (both (held (replica_of a)) (held (replica_of b)))
  pub union_back : IsUnion (replica_of a') (both (held (replica_of a)) (held (replica_of b)))
  -- they are the same but for sequences
  pub same : SameButSeq (replica_of b') (replica_of a')
  pub winners : (i : Id) → winner (tree_of (replica_of b') i) ≡ winner (tree_of (replica_of a') i)
  pub none_refused : (c.refused ≡ 0) × (d.refused ≡ 0)
