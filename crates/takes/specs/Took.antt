-- What taking a line in promises.
use Rattle.std.specs.Prelude.{List, ◌≡◌, ℕ, length}
use Rattle.rules.specs.declared.Refusal.{Refusal}
use Rattle.rules.specs.declared.Outcome.{Outcome}
use Rattle.std.specs.Prelude.{Result, Err}
use Rattle.std.specs.Prelude.{Option, None, Some}
use Rattle.rules.specs.declared.Refusal.TheVariants.{UnwritableId}
use Rattle.rules.specs.declared.Revision.{Revision}
use Rattle.rules.specs.Choice.{pick, maybe}
use Rattle.rules.specs.Replica.{Id, Replica}
use Rattle.rules.specs.Write.{Write, write}
use Rattle.store.specs.Storage.{stored, replica_of, IsStored}
use Rattle.lines.specs.Said.{once, of_string, named, read_rev}
use Rattle.lines.specs.Take.{Members, Holds, unwritable, take_in}
use Rattle.fields.specs.declared.Name.TheVariants as name
use Rattle.takes.specs.declared.Walk.{Walk}
use Rattle.takes.specs.Spots.{Spots, SpotsAre, spot}
use Rattle.takes.specs.Path.{laid_room}
use Rattle.takes.specs.Read.{RevsKept}

-- the answer and the replica that are left, to the last byte
pub record Left (o : Result Outcome Refusal × Replica) (r : Result Outcome Refusal) (after : List ℕ) : Type 0 where
  pub answer : r ≡ o.0
  pub left : after ≡ stored o.1
  pub means : replica_of after ≡ o.1
  pub is : IsStored after

-- 43, and the write
unfoldable pub written : Replica → Write → Result Outcome Refusal × Replica
written r w = pick (unwritable w.id) (Err UnwritableId, r) (write r w)

-- they are the spots of the members of a line
pub record Stand (line : List ℕ) (p : Spots) : Type 0 where
  pub members : Members
  pub are : SpotsAre 15 line members p

-- a replica, the spots of a line's members, and what was read of `_revisions`
pub record CanTake (s line : List ℕ) (x : Walk (ℕ × ℕ)) (path : List ℕ) : Type 0 where
  pub stored : IsStored s
  pub stand : Stand line x.spots
  pub kept : RevsKept 12 line (spot x.spots name.Revisions) path x.got
  pub room : length path ≡ laid_room

-- what the members of these spots leave, where they say this id and this revision
unfoldable pub TakesRest : List ℕ → List ℕ → Id → Revision → Spots → Result Outcome Refusal → List ℕ → Type 0
TakesRest s line i v p r after =
    (ms : Members) → SpotsAre 15 line ms p
    → maybe None (of_string Some) (once (named "_id" ms)) ≡ Some i
    → maybe None (of_string read_rev) (once (named "_rev" ms)) ≡ Some v
    → Left (take_in (replica_of s) (Some ms)) r after

-- what the members of these spots leave
unfoldable pub TakesSpots : List ℕ → List ℕ → Spots → Result Outcome Refusal → List ℕ → Type 0
TakesSpots s line p r after = (ms : Members) → SpotsAre 15 line ms p → Left (take_in (replica_of s) (Some ms)) r after

-- the line was taken into what s held: what it holds, the answer, every byte that is left, and that they are a replica
pub record Took (s line : List ℕ) (r : Result Outcome Refusal) (after : List ℕ) : Type 0 where
  pub members : Option Members
  pub holds : Holds line members
  pub answer : r ≡ (take_in (replica_of s) members).0
  pub left : after ≡ stored (take_in (replica_of s) members).1
  pub means : replica_of after ≡ (take_in (replica_of s) members).1
  pub is : IsStored after
