-- What each call does to the replicas in its buffers: of an accepted call, or of one that is lent a replica. Assumes nothing.
use mathlib.Core.Path.{◌≡◌, refl, sym, ap, ◌∙◌, subst}
use Rattle.rules.specs.declared.Refusal.{Refusal}
use Rattle.rules.specs.declared.Outcome.{Outcome}
use Rattle.std.specs.Prelude.{Result, Ok, Err}
use mathlib.Core.Bool.{Bool, true, false}
use mathlib.Core.List.{List, [], ◌∷◌}
use Rattle.std.specs.Prelude.{Option, None, Some}
use Prim.Native.Nat.{ℕ}
use borrow.Author.Tests.{eq-eqb}
use lib.Dec.{ltb}
use lib.ListN.{length}
use Rattle.rules.specs.declared.Content.{Content}
use Rattle.rules.specs.declared.Content.TheVariants.{Live, Deleted}
use Rattle.rules.specs.declared.Fault.{Fault}
use Rattle.rules.specs.declared.Refusal.TheVariants.{ShortBuffer}
use Rattle.rules.specs.declared.Revision.{Revision}
use Rattle.rules.specs.declared.Seq.{Seq}
use Rattle.rules.specs.Answer.{Numbered, accepted, written_number, edited_number, answered_number, loaded_number}
use Rattle.rules.specs.Choice.{pick, first_that}
use Rattle.rules.specs.Edit.{Edit, edit}
use Rattle.rules.specs.Faults.{faults}
use Rattle.rules.specs.Image.{replica_in, save}
use Rattle.rules.specs.Pull.{pull}
use Rattle.rules.specs.Read.{content_kind, content_label, front}
use Rattle.rules.specs.Replica.{Replica, IsReplica, fresh, revision}
use Rattle.rules.specs.Room.{hash_size}
use Rattle.rules.specs.Union.{IsAccepted}
use Rattle.rules.specs.Write.{Write, write}
use Rattle.writes.specs.Path.{write_of}
use Rattle.union.proofs.Demand3 as union
use Rattle.store.specs.Storage.{store_size, stored, replica_of, IsStored}
use Rattle.store.proofs.StoredLaws.{stored_back}
use Rattle.store.proofs.FitLaws.{replica_fits}
use Rattle.images.proofs.Theorems.{loaded_is_replica}
use Rattle.codec.specs.Codec.{load_bytes}
use Rattle.refile.specs.Boundary.{result_number, CCall, lent_call, Lent, bad_replica, lent_house, bad_kind, bad_label, bad_flag, bad_hash, bad_no_parent, parent_house}
use Rattle.refile.specs.Boundary.{edit_house, content_from, parent_from, short_answer, count_bytes, fresh_call, load_call, save_call, write_call, edit_call, pull_call}
use Rattle.refile.specs.Decode.{value_in, decode, Told}
use Rattle.refile.proofs.CallLaws.{first_both, lent_stands, sized, passes}
use Rattle.refile.proofs.FairLaws.{told_does}
use Rattle.refile.proofs.Keeps.{replica_past}
use Rattle.refile.proofs.NumberLaws.{no_refusal, no_fault}
use Rattle.demands.specs.Calls as C
use Rattle.demands.specs.Calls.{Called, LoadCall, for_write, WriteCall, parent_named, parent_number, parent_hash, for_edit, EditCall}
use Rattle.demands.proofs.Results.{fresh_tells, load_tells, save_tells, write_tells, edit_tells, pull_tells, save_lent, write_lent, edit_lent, pull_lent}

-- ---- bytes that hold a replica

pub record Holding (r : Replica) (s : List ℕ) : Type 0 where
  pub bytes : s ≡ stored r
  pub means : replica_of s ≡ r
  pub is : IsStored s

pub holding : (r : Replica) (s : List ℕ) → IsReplica r → s ≡ stored r → Holding r s
holding r s k e =
    let m : replica_of s ≡ r = ap replica_of e ∙ stored_back r (replica_fits r k) in
    record { bytes = e; means = m; is = record { same = e ∙ ap stored (sym m); replica = subst IsReplica (sym m) k } }

-- ---- what an accepted result says

module _ (x : ℕ) where
  -- of a read or a save: it counts
  pub counted : (a : Result ℕ Refusal) → decode x ≡ answered_number a → C.IsAccepted x → a ≡ Ok (value_in x)
  counted (Ok n) d h = ap Ok (sym (ap (λ (m : Numbered). m.value) d))
  counted (Err n) d h = absurd (no_refusal n (sym (ap (λ (m : Numbered). m.refusal) d) ∙ h))

  -- of an accepted write: it is accepted
  pub accepted_if : (o : Result Outcome Refusal) → decode x ≡ written_number o → IsAccepted o → C.IsAccepted x
  accepted_if (Ok o) d h = ap (λ (m : Numbered). m.refusal) d
  accepted_if (Err n) d h = absurd h

-- an accepted call was lent a replica
pub lent_one : {L : Type 0} (s : List ℕ) (us : List (Bool × ℕ)) {lent : L} {o : Numbered × L} {r : ℕ} {left : L}
    → Told (lent_call s us lent o) r left → Lent s → C.IsAccepted r → IsStored s
lent_one s us t l a = lent_stands s (first_both (lent_house s) us (t.past a)).0 l

-- ---- fresh

module _ {s : List ℕ} {r : ℕ} {left : List ℕ} (k : Called C.fresh s r left) where
  -- an accepted call leaves the fresh replica
  pub fresh_does : C.IsAccepted r → Holding fresh left
  unfolding fresh_call
  fresh_does a = let t = fresh_tells.told k in holding fresh left union.fresh_is_replica (told_does t (t.past a)).1

-- ---- load

module _ {s image : List ℕ} {r : ℕ} {left : List ℕ} (k : LoadCall s image r left) where
  load_past : first_that (bad_replica s ∷ []) ≡ None
      → (decode r ≡ loaded_number (load_bytes s image (first_that (faults image))).0) × (left ≡ (load_bytes s image (first_that (faults image))).1)
  unfolding load_call
  load_past e = told_does (load_tells.told k.call) e

  -- an image with no fault loads into any buffer of the right size
  pub load_fine : length s ≡ store_size → first_that (faults image) ≡ None → C.IsAccepted r × (left ≡ stored (replica_in image))
  load_fine e f =
      let d = load_past (sized s e) in
      let a : decode r ≡ accepted 0 = d.0 ∙ rw f in
      (ap (λ (m : Numbered). m.refusal) a, d.1 ∙ rw f)

  -- an accepted call was given an image with no fault, and leaves its replica
  pub load_does : C.IsAccepted r → (first_that (faults image) ≡ None) × Holding (replica_in image) left
  unfolding load_call
  load_does a = let d = load_past ((load_tells.told k.call).past a) in go (first_that (faults image)) refl d.0 d.1
    where
      go : (o : Option (Fault × ℕ)) → first_that (faults image) ≡ o → decode r ≡ loaded_number (load_bytes s image o).0 → left ≡ (load_bytes s image o).1
          → (first_that (faults image) ≡ None) × Holding (replica_in image) left
      go None e d l = (e, holding (replica_in image) left (loaded_is_replica image k.given e).0 l)
      go (Some f) e d l = absurd (no_fault f.0 (sym (ap (λ (m : Numbered). m.refusal) d) ∙ a))

-- ---- save

module _ {s out : List ℕ} {r : ℕ} {left : List ℕ} (k : Called C.save (s, out) r left) where
  pub save_does : IsStored s → (decode r ≡ answered_number (save (replica_of s) out).0) × (left ≡ (save (replica_of s) out).1)
  unfolding save_call first_that
  save_does i = told_does (save_tells.told k) (replica_past s [] i refl)

  pub save_from : C.IsAccepted r → IsStored s
  unfolding save_call
  save_from a = lent_one s [] (save_tells.told k) (save_lent k) a

-- ---- write

-- a content from its kind and label
content_back : (c : Content) → content_from (content_kind c) (content_label c) ≡ c
content_back (Live n) = refl
content_back Deleted = refl

-- which pass 101 and 102
content_passes : (c : Content) → first_that (bad_kind (content_kind c) ∷ bad_label (content_kind c) (content_label c) ∷ []) ≡ None
unfolding first_that bad_kind bad_label
content_passes (Live n) = refl
content_passes Deleted = refl

-- the call that is a write of w
abbrev pub writing : List ℕ → Write → CCall (List ℕ)
writing s w = (C.write).means (for_write s w)

-- lent a replica, it does what w does
module _ (s : List ℕ) (w : Write) where
  pub write_passes : IsStored s → first_that (writing s w).house ≡ None
  unfolding write_call
  write_passes i = replica_past s _ i (content_passes w.content)

  pub write_is : (writing s w).does ≡ (written_number (write (replica_of s) w).0, stored (write (replica_of s) w).1)
  unfolding write_call
  write_is =
      let same : write_of w.id w.number w.path (content_from (content_kind w.content) (content_label w.content)) ≡ w
      = λ j. write_of w.id w.number w.path (content_back w.content j) in
      ap {B = Numbered × List ℕ} (λ (v : Write). (written_number (write (replica_of s) v).0, stored (write (replica_of s) v).1)) same

module _ {s : List ℕ} {w : Write} {r : ℕ} {left : List ℕ} (k : WriteCall s w r left) where
  write_told : Told (writing s w) r left
  write_told = write_tells.told k.call

  -- lent a replica, it answers and leaves what the write of w does
  pub write_does : IsStored s → (decode r ≡ written_number (write (replica_of s) w).0) × Holding (write (replica_of s) w).1 left
  write_does i =
      let d = told_does write_told (write_passes s w i) in (
        d.0 ∙ ap (λ (o : Numbered × List ℕ). o.0) (write_is s w),
        holding (write (replica_of s) w).1 left (union.write_keeps (replica_of s) w i.replica k.given)
            (d.1 ∙ ap (λ (o : Numbered × List ℕ). o.1) (write_is s w)),
      )

  pub write_answers : IsStored s → r ≡ result_number (written_number (write (replica_of s) w).0)
  write_answers i = write_told.calls.answers ∙ ap (λ (o : Numbered × List ℕ). result_number o.0) (passes (writing s w) (write_passes s w i) ∙ write_is s w)

  pub write_from : C.IsAccepted r → IsStored s
  unfolding write_call
  write_from a = lent_one s _ write_told (write_lent k.call) a

-- ---- edit

-- a parent from its flag, number and hash
parent_back : (p : Option Revision) → parent_from (parent_named p) (revision (parent_number p) (parent_hash p)) ≡ p
parent_back None = refl
parent_back (Some v) = refl

-- the call that is an edit e
abbrev pub editing : List ℕ → Edit → CCall (List ℕ)
editing s e = (C.edit).means (for_edit s e)

module _ (s : List ℕ) (e : Edit) where
  -- lent a replica, and of hashes of sixteen bytes, it is not refused by the house
  pub edit_passes : IsStored s → length e.hash ≡ hash_size → ((v : Revision) → e.parent ≡ Some v → length v.hash ≡ hash_size) → first_that (editing s e).house ≡ None
  unfolding edit_call first_that edit_house bad_kind bad_label bad_flag bad_hash parent_house bad_no_parent
  edit_passes i z y = replica_past s _ i (go e.content e.parent y)
    where
      go : (c : Content) (p : Option Revision) → ((v : Revision) → p ≡ Some v → length v.hash ≡ hash_size)
          → first_that (edit_house e.hash (content_kind c) (content_label c) (parent_named p) (parent_number p) (parent_hash p)) ≡ None
      go (Live n) None f = rw (eq-eqb (length e.hash) hash_size z)
      go (Live n) (Some v) f = rw (eq-eqb (length e.hash) hash_size z, eq-eqb (length v.hash) hash_size (f v refl))
      go Deleted None f = rw (eq-eqb (length e.hash) hash_size z)
      go Deleted (Some v) f = rw (eq-eqb (length e.hash) hash_size z, eq-eqb (length v.hash) hash_size (f v refl))

  -- and does what e does
  pub edit_is : (editing s e).does ≡ (edited_number (edit (replica_of s) e).0, stored (edit (replica_of s) e).1)
  unfolding edit_call
  edit_is =
      ap {B = Numbered × List ℕ} (λ (v : Edit). (edited_number (edit (replica_of s) v).0, stored (edit (replica_of s) v).1))
      (λ j. record { id = e.id; hash = e.hash; content = content_back e.content j; parent = parent_back e.parent j })

module _ {s : List ℕ} {e : Edit} {r : ℕ} {left : List ℕ} (k : EditCall s e r left) where
  edit_told : Told (editing s e) r left
  edit_told = edit_tells.told k.call

  pub edit_from : C.IsAccepted r → IsStored s
  unfolding edit_call
  edit_from a = lent_one s _ edit_told (edit_lent k.call) a

  -- accepted, it answers and leaves what the edit e does
  pub edit_does : C.IsAccepted r → (decode r ≡ edited_number (edit (replica_of s) e).0) × Holding (edit (replica_of s) e).1 left
  edit_does a =
      let d = told_does edit_told (edit_told.past a) in (
        d.0 ∙ ap (λ (o : Numbered × List ℕ). o.0) (edit_is s e),
        holding (edit (replica_of s) e).1 left (union.edit_keeps (replica_of s) e (edit_from a).replica k.given)
            (d.1 ∙ ap (λ (o : Numbered × List ℕ). o.1) (edit_is s e)),
      )

-- ---- pull

module _ {t s : List ℕ} {q : Seq} {answer : List ℕ} {r : ℕ} {left answered : List ℕ} (k : Called C.pull (t, s, q, answer) r (left, answered)) where
  pull_past : C.IsAccepted r → (first_that (lent_house t) ≡ None) × (first_that (lent_house s) ≡ None)
  unfolding pull_call
  pull_past a = first_both (lent_house t) (lent_house s) ((pull_tells.told k).past a)

  -- an accepted pull was lent two replicas
  pub pull_target : C.IsAccepted r → IsStored t
  pull_target a = lent_stands t (pull_past a).0 (pull_lent k).0

  pub pull_source : C.IsAccepted r → IsStored s
  pull_source a = lent_stands s (pull_past a).1 (pull_lent k).1

  -- it leaves what the pull does, and the counts at the front of the answer
  pub pull_does : C.IsAccepted r → Holding (pull q (replica_of s) (replica_of t)).1 left × (answered ≡ front (count_bytes (pull q (replica_of s) (replica_of t)).0) answer)
  unfolding pull_call short_answer
  pull_does a =
      let f = told_does (pull_tells.told k) ((pull_tells.told k).past a) in
      let d = go (ltb (length answer) (length (count_bytes (pull q (replica_of s) (replica_of t)).0))) f.0 f.1 in (
        holding (pull q (replica_of s) (replica_of t)).1 left (union.pull_keeps q (replica_of s) (replica_of t) (pull_source a).replica (pull_target a).replica)
            (ap (λ (b : List ℕ × List ℕ). b.0) d),
        ap (λ (b : List ℕ × List ℕ). b.1) d,
      )
    where
      done : List ℕ × List ℕ
      done = (stored (pull q (replica_of s) (replica_of t)).1, front (count_bytes (pull q (replica_of s) (replica_of t)).0) answer)

      go : (b : Bool) → decode r ≡ (pick {A = Numbered × (List ℕ × List ℕ)} b (short_answer, (t, answer)) (accepted 0, done)).0
          → (left, answered) ≡ (pick {A = Numbered × (List ℕ × List ℕ)} b (short_answer, (t, answer)) (accepted 0, done)).1 → (left, answered) ≡ done
      go true d e = absurd (no_refusal ShortBuffer (sym (ap (λ (m : Numbered). m.refusal) d) ∙ a))
      go false d e = e
