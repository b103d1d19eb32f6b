-- What a pull and its steps ask for and promise.
use Rattle.std.specs.Prelude.{◌≡◌, List, [], ◌∷◌, ℕ, ◌+◌, ◌*◌, ◌<◌, ◌≤◌, length}
use Rattle.rules.specs.declared.Refusal.{Refusal}
use Rattle.rules.specs.declared.Outcome.{Outcome}
use Rattle.std.specs.Prelude.{Result}
use Rattle.rules.specs.declared.Counts.{Counts}
use Rattle.rules.specs.declared.Revision.{Revision}
use Rattle.rules.specs.declared.Seq.{Seq}
use Rattle.rules.specs.Pull.{take_in, pull}
use Rattle.rules.specs.Read.{leaves, path_of}
use Rattle.rules.specs.Replica.{Id, Document}
use Rattle.rules.specs.Room.{revisions_most, hashes_most, hash_size}
use Rattle.rules.specs.Union.{In}
use Rattle.rules.specs.Write.{Write, write}
use Rattle.union.specs.Said.{total}
use Rattle.tree.specs.declared.table.Body.{Body}
use Rattle.tree.specs.Table.{tree_in, Searchable}
use Rattle.store.specs.Storage.{replica_of, stored, IsStored}
use Rattle.store.specs.Documents.{documents_of, document_at}

-- ---- the pull

-- "Documents come in order of their sequence": each has a lower one than all that follow
abbrev pub Rising : List (Id × Document) → Type 0
Rising [] = Unit {0}
Rising (d ∷ ds) = ((y : Id × Document) → In y ds → d.1.seq.0 < y.1.seq.0) × Rising ds

pub record CanPull (s t : List ℕ) : Type 0 where
  pub source : IsStored s
  pub target : IsStored t

-- what pulling s after q into t counts, and what is left of t, to its last byte
pub record Pulled (q : Seq) (s t : List ℕ) (c : Counts) (left : List ℕ) : Type 0 where
  pub counts : c ≡ (pull q (replica_of s) (replica_of t)).0
  pub bytes : left ≡ stored (pull q (replica_of s) (replica_of t)).1
  pub means : replica_of left ≡ (pull q (replica_of s) (replica_of t)).1
  pub is_stored : IsStored left

-- ---- its steps

-- the longest path
abbrev pub path_room : ℕ
path_room = hashes_most * hash_size

-- the offers ws are made to t one by one, and the scratch place p stays as long as it was
pub record Offered (ws : List Write) (c : Counts) (t p : List ℕ) (after : Counts) (left p' : List ℕ) : Type 0 where
  pub is : take_in ws (c, replica_of t) ≡ (after, replica_of left)
  pub is_stored : IsStored left
  pub room : length p' ≡ length p

-- the offer w is made to t: it is written, and the scratch place p stays as long as it was
pub record Made (w : Write) (t p : List ℕ) (r : Result Outcome Refusal) (left p' : List ℕ) : Type 0 where
  pub answer : r ≡ (write (replica_of t) w).0
  pub means : replica_of left ≡ (write (replica_of t) w).1
  pub is_stored : IsStored left
  pub room : length p' ≡ length p

-- one leaf: there is room for the longest path, and its own is no longer
pub record CanOffer (s : List ℕ) (b : Body) (v : Revision) (t p : List ℕ) : Type 0 where
  pub rows : Searchable b s
  pub few : length (path_of (tree_in b s) v) ≤ hashes_most
  pub room : path_room ≤ length p
  pub target : IsStored t

-- all leaves of document d
pub record CanOfferAll (s : List ℕ) (d : ℕ) (c : Counts) (t p : List ℕ) : Type 0 where
  pub source : IsStored s
  pub within : d < length (documents_of s)
  pub room : path_room ≤ length p
  pub few : total c + length (leaves (document_at (documents_of s) d).1.tree) ≤ revisions_most
  pub target : IsStored t
