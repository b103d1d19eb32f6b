-- The refusals 4 to 8 from a plan, and what a write promises.
use Rattle.std.specs.Prelude.{◌≡◌, Bool, true, false, not, ◌&&◌, List, [], ◌∷◌, ℕ, ◌+◌, eqb, leb, ltb, length}
use Rattle.rules.specs.declared.Outcome.{Outcome}
use Rattle.std.specs.Prelude.{Result, Ok, Err}
use Rattle.std.specs.Prelude.{None}
use Rattle.rules.specs.declared.Refusal.{Refusal}
use Rattle.rules.specs.declared.Refusal.TheVariants.{OtherParent, OtherContent, DocumentsFull, RevisionsFull, SequenceSpent}
use Rattle.rules.specs.Choice.{first_that}
use Rattle.rules.specs.Replica.{Replica, revisions_held}
use Rattle.rules.specs.Room.{documents_most, revisions_most, seq_most}
use Rattle.rules.specs.Write.{Write, form_refusals, write}
use Rattle.store.specs.Storage.{stored, replica_of, IsStored}
use Rattle.store.specs.Change.{Holds}
use Rattle.store.specs.Documents.{documents_of, place_of_id}
use Rattle.writes.specs.declared.plan.Plan.{Plan}

-- whether a document that was looked for is absent
abbrev pub is_absent : Result ℕ ℕ → Bool
is_absent (Ok d) = false
is_absent (Err d) = true

-- 4 to 8 of a write whose plan is p, on a document that is absent or not
unfoldable pub judged : Replica → Bool → Plan → List (Bool × Refusal)
judged r absent p =
    (p.crossed, OtherParent)
    ∷ (p.other, OtherContent)
    ∷ (absent && leb documents_most (length r.documents), DocumentsFull)
    ∷ (ltb revisions_most (revisions_held r.documents + p.revisions), RevisionsFull)
    ∷ (not (eqb p.reach 0) && eqb r.seq.0 seq_most, SequenceSpent)
    ∷ []

-- the answer of a write to what s holds, and the replica that is held after it
pub record Does (s : List ℕ) (w : Write) (r : Result Outcome Refusal) (after : List ℕ) : Type 0 where
  pub answer : r ≡ (write (replica_of s) w).0
  pub holds : Holds (write (replica_of s) w).1 after

-- a write of a good form, once its document was looked for
pub record CanWrite (s : List ℕ) (found : Result ℕ ℕ) (w : Write) : Type 0 where
  pub stored : IsStored s
  pub place : place_of_id 0 w.id (documents_of s) ≡ found
  pub form : first_that (form_refusals w) ≡ None

-- what a write promises: the answer, every byte that it leaves, and that they are a replica
pub record Wrote (s : List ℕ) (w : Write) (r : Result Outcome Refusal) (after : List ℕ) : Type 0 where
  pub answer : r ≡ (write (replica_of s) w).0
  pub left : after ≡ stored (write (replica_of s) w).1
  pub means : replica_of after ≡ (write (replica_of s) w).1
  pub is : IsStored after
