-- What each read answers and writes, lent a replica. Assumes nothing.
use mathlib.Core.Path.{◌≡◌, refl, sym, ap, ◌∙◌}
use Rattle.rules.specs.declared.Refusal.{Refusal}
use Rattle.std.specs.Prelude.{Result}
use mathlib.Core.Bool.{Bool}
use mathlib.Core.List.{List, [], ◌∷◌}
use Prim.Native.Nat.{ℕ}
use Rattle.rules.specs.declared.Revision.{Revision}
use Rattle.rules.specs.Answer.{Numbered, answered_number}
use Rattle.rules.specs.Choice.{first_that}
use Rattle.rules.specs.Read.{read_winner, read_leaves, read_path, read_missing}
use Rattle.rules.specs.Replica.{Id}
use Rattle.union.specs.Said.{SameAnswers}
use Rattle.store.specs.Storage.{replica_of, IsStored}
use Rattle.reads.proofs.AnswerLaws.{first_past}
use Rattle.refile.specs.Boundary.{result_number, CCall, outcome, Calls, read_call, lent_house, bad_hash, winner_call, leaves_call, path_call, missing_call, sequence_call}
use Rattle.refile.specs.Decode.{value_in, decode}
use Rattle.refile.proofs.FairLaws.{told_does}
use Rattle.refile.proofs.Keeps.{replica_passes, replica_past}
use Rattle.demands.specs.Calls as C
use Rattle.demands.specs.Calls.{Called}
use Rattle.demands.specs.Alike.{AnswerAlike}
use Rattle.demands.proofs.ChangeLaws.{changes_same, changes_comes}
use Rattle.demands.proofs.Results.{winner_tells, leaves_tells, path_tells, missing_tells, sequence_tells}

-- ---- the answers, as numbers and bytes

pub winner_does : {s : List ℕ} {i : Id} {out : List ℕ} {r : ℕ} {left : List ℕ} → Called C.winner (s, i, out) r left → IsStored s
    → (decode r ≡ answered_number (read_winner (replica_of s) i out).0) × (left ≡ (read_winner (replica_of s) i out).1)
unfolding winner_call first_that
winner_does {s} k h = told_does (winner_tells.told k) (replica_past s [] h refl)

pub leaves_does : {s : List ℕ} {i : Id} {out : List ℕ} {r : ℕ} {left : List ℕ} → Called C.leaves (s, i, out) r left → IsStored s
    → (decode r ≡ answered_number (read_leaves (replica_of s) i out).0) × (left ≡ (read_leaves (replica_of s) i out).1)
unfolding leaves_call first_that
leaves_does {s} k h = told_does (leaves_tells.told k) (replica_past s [] h refl)

-- refile_update_sequence answers the update sequence
pub sequence_does : {s : List ℕ} {r : ℕ} → Called C.sequence s r tt → IsStored s → value_in r ≡ (replica_of s).seq.0
unfolding sequence_call first_that
sequence_does {s} k h = ap (λ (m : Numbered). m.value) (told_does (sequence_tells.told k) (replica_past s [] h refl)).0

-- ---- reads of two replicas that answer alike

-- two calls of one outcome
same_calls : {c d : CCall (List ℕ)} {x y : ℕ} {m n : List ℕ} → Calls c x m → Calls d y n → outcome c ≡ outcome d → (x ≡ y) × (m ≡ n)
same_calls p q e = (
  p.answers ∙ (ap (λ (o : Numbered × List ℕ). result_number o.0) e ∙ sym q.answers),
  p.left ∙ (ap (λ (o : Numbered × List ℕ). o.1) e ∙ sym q.left),
)

module _ (j : Id) (s t : List ℕ) (hs : IsStored s) (ht : IsStored t) (a : SameAnswers j (replica_of t) (replica_of s)) where
  -- a read of either is the same
  same_read : (us : List (Bool × ℕ)) (out : List ℕ) (o p : Result ℕ Refusal × List ℕ) → p ≡ o → outcome (read_call s us out o) ≡ outcome (read_call t us out p)
  unfolding outcome
  same_read us out o p e = rw (first_past (lent_house s) us (replica_passes s hs), first_past (lent_house t) us (replica_passes t ht), e) refl

  winner_same : (out : List ℕ) → outcome (winner_call s j out) ≡ outcome (winner_call t j out)
  unfolding winner_call
  winner_same out = same_read [] out (read_winner (replica_of s) j out) (read_winner (replica_of t) j out) (a.winner out)

  leaves_same : (out : List ℕ) → outcome (leaves_call s j out) ≡ outcome (leaves_call t j out)
  unfolding leaves_call
  leaves_same out = same_read [] out (read_leaves (replica_of s) j out) (read_leaves (replica_of t) j out) (a.leaves out)

  missing_same : (asked out : List ℕ) → outcome (missing_call s j asked out) ≡ outcome (missing_call t j asked out)
  unfolding missing_call
  missing_same asked out = same_read [] out (read_missing (replica_of s) j asked out) (read_missing (replica_of t) j asked out) (a.missing asked out)

  path_same : (v : Revision) (out : List ℕ) → outcome (path_call s j v.number.0 v.hash out) ≡ outcome (path_call t j v.number.0 v.hash out)
  unfolding path_call
  path_same v out = same_read (bad_hash v.hash ∷ []) out (read_path (replica_of s) j v out) (read_path (replica_of t) j v out) (a.path v out)

  pub alike : AnswerAlike j s t
  alike = record {
    winner = λ out x y m n k l. same_calls (winner_tells.told k).calls (winner_tells.told l).calls (winner_same out);
    leaves = λ out x y m n k l. same_calls (leaves_tells.told k).calls (leaves_tells.told l).calls (leaves_same out);
    path = λ v out x y m n k l. same_calls (path_tells.told k).calls (path_tells.told l).calls (path_same v out);
    missing = λ asked out x y m n k l. same_calls (missing_tells.told k).calls (missing_tells.told l).calls (missing_same asked out);
    changes = λ p q out out' answer answer' x y m n b c k l u v. changes_same j s t hs ht a.change k l u v;
    comes = λ p q out out' answer answer' x y m n b c k u l h f g. changes_comes j s t hs ht a.change k u l h f g;
  }
