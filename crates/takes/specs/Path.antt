-- The hashes of a path laid down.
use Rattle.std.specs.Prelude.{true, false, not, ◌&&◌, ◌||◌, List, [], ◌∷◌, ◌⊎◌, ◌≡◌, ℕ, suc, ◌+◌, ◌*◌, ◌≤◌, ◌<◌, eqb, leb, length, take, drop, get_or}
use Rattle.std.specs.Prelude.{Option, None, Some, Result, Ok, Err}
use Rattle.rules.specs.declared.Revision.{Revision}
use Rattle.rules.specs.Bytes.{join, part}
use Rattle.rules.specs.Order.{order_bytes, is_equal}
use Rattle.rules.specs.Choice.{pick, maybe}
use Rattle.rules.specs.Read.{first_of}
use Rattle.rules.specs.Replica.{Hash}
use Rattle.rules.specs.Room.{hash_size, hashes_most}
use Rattle.json_text.specs.Members.{Json, array_of, value_of}
use Rattle.values.specs.Reading.{ListAt}
use Rattle.lines.specs.Said.{each, of_string, read_hash, quote}
use Rattle.lines.specs.Take.{Revisions, read_revisions, optional, other_revisions}
use Rattle.takes.specs.declared.Spot.{Spot}
use Rattle.rules.specs.declared.Refusal.{Refusal}
use Rattle.rules.specs.declared.Refusal.TheVariants.{BadMember, OtherRevisions}
use Rattle.takes.specs.Spots.{SpotIs}

-- one hash more than a path may have, so that a longer path is refused by the write itself
abbrev pub laid_most : ℕ
laid_most = hashes_most + 1

abbrev pub laid_room : ℕ
laid_room = laid_most * hash_size

-- a hash with its quotation marks
abbrev pub hash_text : ℕ
hash_text = hash_size + hash_size + 2

-- the hash that stands at i as a string
unfoldable pub hash_in : List ℕ → ℕ → Option Hash
hash_in s i =
    pick (leb (i + hash_text) (length s) && (eqb (get_or s i 0) quote && eqb (get_or s (i + (hash_size + hash_size + 1)) 0) quote))
    (read_hash (take (hash_size + hash_size) (drop (i + 1) s)))
    None

-- each has a hash's size
abbrev pub Hashes : List Hash → Type 0
Hashes [] = Unit {0}
Hashes (h ∷ hs) = (length h ≡ hash_size) × Hashes hs

-- n of the hashes hs are laid down: all of them, or more than a path may have
pub record Laid (hs : List Hash) (n : ℕ) (path : List ℕ) : Type 0 where
  pub room : length path ≡ laid_room
  pub most : n ≤ laid_most
  pub sized : Hashes hs
  pub none_is : n ≡ 0 → hs ≡ []
  pub first : (h : Hash) → first_of hs ≡ Some h → take hash_size path ≡ h
  pub held : ((length hs ≡ n) × (take (n * hash_size) path ≡ join hs)) ⊎ ((hashes_most < length hs) × (n ≡ laid_most))

-- ---- the ids

-- what reading ids says, where o is what they say
abbrev pub IdsSay : Option (List Hash) → List ℕ → Option (ℕ × ℕ) → Type 0
IdsSay o after (Some (n, e)) = (hs : List Hash) × (o ≡ Some hs) × Laid hs n after
IdsSay o after None = o ≡ None

-- what the ids of the array at v say
unfoldable pub IdsAt : ℕ → List ℕ → ℕ → List ℕ → Option (ℕ × ℕ) → Type 0
IdsAt d s v path r = (vs : List (Json (suc d))) (b : List ℕ) → array_of (value_of (suc d)) vs (drop v s) b → IdsSay (each (of_string read_hash) vs) path r

-- the ids of the array at `at`, and where it ends
pub record IdsRead (d : ℕ) (s : List ℕ) (at : ℕ) (before : List ℕ) (r : Option (ℕ × ℕ)) (after : List ℕ) : Type 0 where
  pub room : length after ≡ length before
  pub say : IdsAt d s at after r
  pub ends : (n e : ℕ) → r ≡ Some (n, e) → (us : List (Json (suc d))) × ListAt (array_of (value_of (suc d))) us s at e

-- ---- beside the revision of `_rev`

-- the newest of the hashes laid down is that of the revision
unfoldable pub beside_rev : Revision → ℕ → ℕ → List ℕ → Result ℕ Refusal
beside_rev v first n path =
    pick (not (eqb first v.number.0) || (eqb n 0 || not (is_equal (order_bytes v.hash (part 0 hash_size path))))) (Err OtherRevisions) (Ok n)

-- "Without `_revisions` the path is the one revision of `_rev`."
abbrev pub hashes_said : Revision → Option Revisions → List Hash
hashes_said v o = maybe (v.hash ∷ []) (λ rs. rs.ids) o

-- what `_revisions` says beside the revision v, where o is what it says
abbrev pub PathSays : Option (Option Revisions) → Revision → List ℕ → Result ℕ Refusal → Type 0
PathSays o v after (Ok n) =
    (x : Option Revisions) × (o ≡ Some x) × (maybe false (other_revisions v) x ≡ false) × Laid (hashes_said v x) n after
PathSays o v after (Err n) =
    (o ≡ None × (n ≡ BadMember)) ⊎ ((rs : Revisions) × (o ≡ Some (Some rs)) × (other_revisions v rs ≡ true) × (n ≡ OtherRevisions))

-- the path of a spot
pub record PathRead (d : ℕ) (s : List ℕ) (p : Spot) (v : Revision) (before : List ℕ) (r : Result ℕ Refusal) (after : List ℕ) : Type 0 where
  pub room : length after ≡ length before
  pub say : (vs : List (Json (suc (suc (suc d))))) → SpotIs (suc (suc (suc d))) s vs p → PathSays (optional read_revisions vs) v after r
