-- "Proved examples", run by calls: the steps of the table, each with what the reads of document "lot" then say.
use Rattle.std.specs.Prelude.{◌≡◌, List, [], ◌∷◌, map, ℕ, ◌*◌, ◌/◌, ◌≤◌, length, take, get_or, replicate}
use Rattle.rules.specs.Bytes.{value, pieces}
use Rattle.rules.specs.Examples.{lot, Step, Seen, then, anew, fresh_saved, wrote, saved}
use Rattle.rules.specs.Read.{first_of}
use Rattle.rules.specs.Room.{revisions_most}
use Rattle.rules.specs.Write.{Write}
use Rattle.tree.specs.Leaf.{leaf_size}
use Rattle.refile.specs.Decode.{value_in, decode}
use Rattle.demands.specs.Calls as C
use Rattle.demands.specs.Calls.{IsAccepted, Called, WriteCall}

-- the reads of the replica in s: its update sequence, and of document "lot" the leaves and the winner, with
-- room for every leaf
pub record Reads (s : List ℕ) : Type 0 where
  pub out : List ℕ
  pub room : revisions_most * leaf_size ≤ length out
  pub sequence : ℕ
  pub asks_sequence : Called C.sequence s sequence tt
  pub count : ℕ
  pub leaves : List ℕ
  pub asks_leaves : Called C.leaves (s, lot, out) count leaves
  pub size : ℕ
  pub winner : List ℕ
  pub asks_winner : Called C.winner (s, lot, out) size winner

-- a leaf's number and the first byte of its hash, from its 29 bytes
abbrev pub pair_in : List ℕ → ℕ × ℕ
pair_in leaf = (value (take 4 leaf), get_or leaf 4 0)

-- of n leaves
unfoldable pub pairs_in : ℕ → List ℕ → List (ℕ × ℕ)
pairs_in n bytes = map pair_in (pieces n leaf_size bytes)

-- what is seen after a write that gave the result r
abbrev pub seen_in : ℕ → (s : List ℕ) → Reads s → Seen
seen_in r s k =
    wrote (decode r) (value_in k.sequence) (pairs_in (value_in k.count) k.leaves)
    (first_of (pairs_in (value_in k.size / leaf_size) k.winner))

-- ---- the steps

pub record Fresh (s left : List ℕ) : Type 0 where
  pub result : ℕ
  pub fresh : Called C.fresh s result left
  pub accepted : IsAccepted result

pub record Writes (s : List ℕ) (w : Write) (left : List ℕ) (seen : Seen) : Type 0 where
  pub result : ℕ
  pub write : WriteCall s w result left
  pub reads : Reads left
  pub sees : seen ≡ seen_in result left reads

pub record Saves (s : List ℕ) (seen : Seen) : Type 0 where
  pub result : ℕ
  pub left : List ℕ
  pub save : Called C.save (s, replicate 16 0xee) result left
  pub sees : seen ≡ saved (decode result) left

-- the steps run from the bytes s, and what is seen after each
abbrev pub Plays : List Step → List ℕ → List Seen → Type 0
Plays [] s seen = seen ≡ []
Plays (then w ∷ steps) s seen =
    (o : Seen) × (rest : List Seen) × (m : List ℕ) × Writes s w m o × Plays steps m rest × (seen ≡ o ∷ rest)
Plays (anew w ∷ steps) s seen =
    (o : Seen) × (rest : List Seen) × (f : List ℕ) × (m : List ℕ) × Fresh s f × Writes f w m o × Plays steps m rest × (seen ≡ o ∷ rest)
Plays (fresh_saved ∷ steps) s seen =
    (o : Seen) × (rest : List Seen) × (f : List ℕ) × Fresh s f × Saves f o × Plays steps f rest × (seen ≡ o ∷ rest)
