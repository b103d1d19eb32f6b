-- Calls one after the other: writes, and pulls with the counts that they answer.
use Rattle.std.specs.Prelude.{◌≡◌, List, [], ◌∷◌, ℕ}
use Rattle.std.specs.Prelude.{Option}
use Rattle.rules.specs.declared.Counts.{Counts}
use Rattle.rules.specs.declared.Seq.{Seq}
use Rattle.rules.specs.Bytes.{value, part}
use Rattle.rules.specs.Union.{all_from}
use Rattle.rules.specs.Write.{Write}
use Rattle.lines.specs.Take.{Members}
use Rattle.demands.specs.Calls as C
use Rattle.demands.specs.Calls.{IsAccepted, Called, WriteCall}

-- ---- writes

-- the writes ws, the first of them to the replica in s and each to what the one before it left
abbrev pub WriteCalls : List Write → List ℕ → List ℕ → Type 0
WriteCalls [] s left = s ≡ left
WriteCalls (w ∷ ws) s left = (r : ℕ) × (m : List ℕ) × WriteCall s w r m × WriteCalls ws m left

-- none of them was refused
abbrev pub NoneRefused : (ws : List Write) (s left : List ℕ) → WriteCalls ws s left → Type 0
NoneRefused [] s left calls = Unit {0}
NoneRefused (w ∷ ws) s left calls = IsAccepted calls.0 × NoneRefused ws calls.1 left calls.3

-- refile_fresh made a replica of a buffer, and the writes ws were made to it
pub record Made (ws : List Write) (left : List ℕ) : Type 0 where
  pub buffer : List ℕ
  pub made : List ℕ
  pub result : ℕ
  pub fresh : Called C.fresh buffer result made
  pub accepted : IsAccepted result
  pub writes : WriteCalls ws made left

-- ---- lines

-- the lines ls taken in, the first of them into the replica in s and each into what the one before it left
abbrev pub TakeCalls : List (List ℕ) → List ℕ → List ℕ → Type 0
TakeCalls [] s left = s ≡ left
TakeCalls (l ∷ ls) s left = (ms : Option Members) × (r : ℕ) × (m : List ℕ) × Called C.take_in (s, l, ms) r m × TakeCalls ls m left

-- the result of each of them is one of which P holds
abbrev pub EachResult : (P : ℕ → Type 0) (ls : List (List ℕ)) (s left : List ℕ) → TakeCalls ls s left → Type 0
EachResult P [] s left calls = Unit {0}
EachResult P (l ∷ ls) s left calls = P calls.1 × EachResult P ls calls.2 left calls.4

-- ---- pulls

-- the three counts, four bytes each, that a pull writes to the front of its answer
abbrev pub counts_in : List ℕ → Counts
counts_in answer = record {
  changed = value (part 0 4 answer);
  unchanged = value (part 4 4 answer);
  refused = value (part 8 4 answer);
}

-- an accepted refile_pull of the source after q into the target, which answered the counts c
pub record Pulls (source : List ℕ) (q : Seq) (target : List ℕ) (c : Counts) (left : List ℕ) : Type 0 where
  pub answer : List ℕ
  pub answered : List ℕ
  pub result : ℕ
  pub pull : Called C.pull (target, source, q, answer) result (left, answered)
  pub accepted : IsAccepted result
  pub counts : counts_in answered ≡ c

-- all of a pulled into b counted c and left b', and all of that pulled back into a counted d and left a'
pub record BothWays (a b a' b' : List ℕ) (c d : Counts) : Type 0 where
  pub forth : Pulls a all_from b c b'
  pub back : Pulls b' all_from a d a'
