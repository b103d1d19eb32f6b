-- "A write to one document changes no answer about another document's revisions, parents, leaves, contents, winner or own sequence": of the C calls. Assumes nothing.
use mathlib.Core.Path.{◌≡◌, sym, ap, ◌∙◌, subst}
use Rattle.rules.specs.declared.Refusal.{Refusal}
use Rattle.rules.specs.declared.Outcome.{Outcome}
use Rattle.std.specs.Prelude.{Result}
use mathlib.Core.List.{List}
use Prim.Native.Nat.{ℕ}
use Rattle.rules.specs.declared.Counts.{Counts}
use Rattle.rules.specs.declared.Seq.{Seq}
use Rattle.rules.specs.Answer.{written_number}
use Rattle.rules.specs.Edit.{Edit}
use Rattle.rules.specs.Read.{documents_after}
use Rattle.rules.specs.Replica.{Id, Document, Replica}
use Rattle.rules.specs.Union.{In}
use Rattle.rules.specs.Write.{Write}
use Rattle.union.specs.Said.{SameAnswers, AlikeAt}
use Rattle.union.proofs.Demand3 as union
use Rattle.store.specs.Storage.{replica_of, IsStored}
use Rattle.refile.specs.Boundary.{result_number}
use Rattle.demands.specs.Calls.{IsAccepted, WriteCall, EditCall}
use Rattle.demands.specs.Runs.{Pulls}
use Rattle.demands.specs.Alike.{AnswerAlike}
use Rattle.demands.proofs.CallLaws.{write_from, write_does, write_answers, edit_from, edit_does, pull_target}
use Rattle.demands.proofs.PullLaws.{pulls_does}
use Rattle.demands.proofs.ReadLaws.{alike}

-- what holds r answers as r does
held_alike : (j : Id) (s left : List ℕ) (r : Replica) → IsStored s → IsStored left → replica_of left ≡ r → SameAnswers j r (replica_of s) → AnswerAlike j s left
held_alike j s left r i h m a = alike j s left i h (subst (λ (q : Replica). SameAnswers j q (replica_of s)) (sym m) a)

-- after an accepted refile_write, every read of another document answers and writes what it did before
pub write_frame : {s : List ℕ} {w : Write} {r : ℕ} {left : List ℕ} → WriteCall s w r left → IsAccepted r → (j : Id) → (j ≡ w.id → ⊥) → AnswerAlike j s left
write_frame {s} {w} {r} {left} k a j n =
    let i = write_from k a in
    let d = (write_does k i).1 in
    held_alike j s left _ i d.is d.means (union.write_answers (replica_of s) w j n)

-- after an accepted refile_edit too
pub edit_frame : {s : List ℕ} {e : Edit} {r : ℕ} {left : List ℕ} → EditCall s e r left → IsAccepted r → (j : Id) → (j ≡ e.id → ⊥) → AnswerAlike j s left
edit_frame {s} {e} {r} {left} k a j n =
    let d = (edit_does k a).1 in
    held_alike j s left _ (edit_from k a) d.is d.means (union.edit_answers (replica_of s) e j n)

-- and after an accepted refile_pull, of a document that it offers nothing of
pub pull_frame : {s : List ℕ} {q : Seq} {t : List ℕ} {c : Counts} {left : List ℕ} → Pulls s q t c left
    → (j : Id) → ((d : Id × Document) → In d (documents_after q (replica_of s).documents) → j ≡ d.0 → ⊥) → AnswerAlike j t left
pull_frame {s} {q} {t} {c} {left} k j n =
    let d = pulls_does k in
    held_alike j t left _ (pull_target k.pull k.accepted) d.is_stored d.means (union.pull_answers q (replica_of s) (replica_of t) j n)

-- "Only the update sequence and the shared room connect them.": on replicas alike in the document, in update
-- sequence and in both counts, refile_write answers alike and leaves them alike
pub write_alike : {s t : List ℕ} {w : Write} {x y : ℕ} {m n : List ℕ} → WriteCall s w x m → WriteCall t w y n → IsStored s → IsStored t
    → AlikeAt w.id (replica_of s) (replica_of t) → (x ≡ y) × AlikeAt w.id (replica_of m) (replica_of n)
write_alike {s} {t} {w} k l i h a =
    let e = union.write_alike w (replica_of s) (replica_of t) a in (
      write_answers k i ∙ (ap (λ (o : Result Outcome Refusal). result_number (written_number o)) e.0 ∙ sym (write_answers l h)),
      rw ((write_does k i).1.means, (write_does l h).1.means) e.1,
    )
