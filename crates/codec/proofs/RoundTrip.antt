-- What is saved loads back and what is loaded saves back: of every call of the compiled load and save, from
-- what they promise. Assumes nothing.
use mathlib.Core.Bool.{Bool, true, false}
use Rattle.rules.specs.declared.Refusal.{Refusal}
use Rattle.std.specs.Prelude.{Result, Ok, Err}
use mathlib.Core.Path.{◌≡◌, refl, sym, ap, ◌∙◌, subst}
use mathlib.Core.List.{List, ◌++◌}
use mathlib.Core.Logic.{◌↔◌}
use Rattle.std.specs.Prelude.{Option, None, Some}
use Prim.Native.Nat.{ℕ, ◌≤◌, ◌<◌}
use native.Mathlib.Nat.{zero-add}
use native.Mathlib.Omega.{arith}
use borrow.Author.Tests.{ltb-true, ltb-false}
use lib.Dec.{ltb}
use lib.ListN.{length, take, drop}
use lib.Seq.{take_at}
use Rattle.rules.specs.declared.Fault.{Fault}
use Rattle.rules.specs.declared.Refusal.TheVariants.{ShortBuffer}
use Rattle.rules.specs.Choice.{first_that}
use Rattle.rules.specs.Faults.{faults}
use Rattle.rules.specs.Image.{image, save, replica_in}
use Rattle.rules.specs.Outcome.{Does}
use Rattle.rules.specs.Replica.{Replica, IsReplica}
use Rattle.rules.proofs.OutcomeLaws.{does_one}
use Rattle.rules.proofs.ChoiceLaws.{NoneHolds, none_holds, holds_none, IsFirst, first_is, is_first}
use Rattle.images.proofs.Theorems.{loads, image_loads, image_injective}
use Rattle.octets.specs.Splice.{splice}
use Rattle.store.specs.Storage.{stored, replica_of, IsStored}
use Rattle.codec.specs.Codec.{load_bytes, Loads}
use Rattle.codec.proofs.SaveLaws.{save_short, save_written}

-- saving the replica in b into out answered so, and left `after` there: what save promises
pub record Saves (b out : List ℕ) (answer : Result ℕ Refusal) (after : List ℕ) : Type 0 where
  pub does : Does (save (replica_of b) out) answer after

-- ---- what a save leaves

module _ {b out after : List ℕ} {answer : Result ℕ Refusal} (k : Saves b out answer after) where
  -- with room for the image it stands at the front, and what follows it stays
  pub save_fits : length (image (replica_of b)) ≤ length out → (answer ≡ Ok (length (image (replica_of b)))) × (after ≡ image (replica_of b) ++ drop (length (image (replica_of b))) out)
  unfolding splice
  save_fits h =
      let d = does_one k.does (save_written (replica_of b) out (length (image (replica_of b))) refl _ h refl) in
      (d.0, d.1 ∙ ap (λ (n : ℕ). image (replica_of b) ++ drop n out) (zero-add (length (image (replica_of b)))))

  pub save_refuses : length out < length (image (replica_of b)) → (answer ≡ Err ShortBuffer) × (after ≡ out)
  save_refuses h = does_one k.does (save_short (replica_of b) out (length (image (replica_of b))) refl h)

-- what was counted was written
pub save_writes : {b out after : List ℕ} {n : ℕ} → Saves b out (Ok n) after → take n after ≡ image (replica_of b)
save_writes {b} {out} {after} {n} k = go (ltb (length out) (length (image (replica_of b)))) refl
  where
    go : (t : Bool) → ltb (length out) (length (image (replica_of b))) ≡ t → take n after ≡ image (replica_of b)
    go true e =
        let d : Ok n ≡ Err ShortBuffer = (save_refuses k (ltb-true _ _ e)).0 in
        absurd (let z : ◌≡◌ {A = ℕ} 0 1 = cc in omega arith)
    go false e =
        let d = save_fits k (ltb-false _ _ e) in
        let c : Ok n ≡ Ok (length (image (replica_of b))) = d.0 in
        let l : length (image (replica_of b)) ≡ n = cc in
        ap (take n) d.1 ∙ take_at (image (replica_of b)) _ n l

-- ---- what a load leaves

module _ {before s after : List ℕ} {answer : Result (Unit {0}) (Fault × ℕ)} (k : Loads before s answer after) where
  by : (o : Option (Fault × ℕ)) → first_that (faults s) ≡ o → Does (load_bytes before s o) answer after
  by o e = subst (λ (x : Option (Fault × ℕ)). Does (load_bytes before s x) answer after) e k.does

  fine : answer ≡ Ok tt → first_that (faults s) ≡ None
  fine q = go (first_that (faults s)) refl
    where
      go : (o : Option (Fault × ℕ)) → first_that (faults s) ≡ o → first_that (faults s) ≡ None
      go None e = e
      go (Some f) e =
          let a : answer ≡ Err f = (by (Some f) e).answers in
          absurd (let z : ◌≡◌ {A = ℕ} 0 1 = cc in omega arith)

  -- "An image loads exactly if it meets every rule."
  pub load_exactly : (answer ≡ Ok tt) ↔ NoneHolds (faults s)
  load_exactly = (λ q. none_holds (faults s) (fine q), λ h. (by None (holds_none (faults s) h)).answers)

  -- "Refusals, in order, each over the whole image": it gives the first fault and its place
  pub load_refuses : (f : Fault) (p : ℕ) → (answer ≡ Err (f, p)) ↔ IsFirst (faults s) (f, p)
  load_refuses f p = (λ q. first_is (faults s) (f, p) (go q (first_that (faults s)) refl), λ h. (by (Some (f, p)) (is_first (faults s) (f, p) h)).answers)
    where
      go : answer ≡ Err (f, p) → (o : Option (Fault × ℕ)) → first_that (faults s) ≡ o → first_that (faults s) ≡ Some (f, p)
      go q None e =
          let a : answer ≡ Ok tt = (by None e).answers in
          absurd (let z : ◌≡◌ {A = ℕ} 0 1 = cc in omega arith)
      go q (Some g) e =
          let a : answer ≡ Err (g.0, g.1) = (by (Some g) e).answers in
          let x : g.0 ≡ f = cc in
          let y : g.1 ≡ p = cc in
          e ∙ λ i. Some (x i, y i)

  -- "A failed load leaves the former replica": to the last byte
  pub load_fails : (answer ≡ Ok tt → ⊥) → after ≡ before
  load_fails n = go (first_that (faults s)) refl
    where
      go : (o : Option (Fault × ℕ)) → first_that (faults s) ≡ o → after ≡ before
      go None e = absurd (n (by None e).answers)
      go (Some f) e = (by (Some f) e).left

  -- an accepted image's replica stands in the buffer, and its image is the one that was loaded
  pub load_accepts : answer ≡ Ok tt → IsStored after × (replica_of after ≡ replica_in s) × (image (replica_of after) ≡ s)
  load_accepts q =
      let m = sym k.means ∙ loads (replica_of before) s (fine q) in
      (k.accepted q, ap (λ (x : Result (Unit {0}) (Fault × ℕ) × Replica). x.1) m, k.shows q)

-- ---- saved, then loaded

-- what was saved loads back, whatever the buffer held: it is that of the saved replica, to the last byte
pub saved_loads : {b out saved before after : List ℕ} {n : ℕ} {answer : Result (Unit {0}) (Fault × ℕ)} → IsStored b
    → Saves b out (Ok n) saved
    → Loads before (take n saved) answer after
    → (answer ≡ Ok tt) × (after ≡ b)
saved_loads {b} {out} {saved} {before} {after} {n} i k l =
    let r : Replica = replica_of b in
    let s : take n saved ≡ image r = save_writes k in
    let h = image_loads r i.replica in
    let d = by l None (ap (λ (x : List ℕ). first_that (faults x)) s ∙ h.0) in
    (d.answers, d.left ∙ (ap stored (ap replica_in s ∙ h.1) ∙ sym i.same))

-- ---- loaded, then saved

-- whatever loads is, saved, the same bytes again
pub loaded_saves : {before s after out saved : List ℕ} {answer : Result ℕ Refusal}
    → Loads before s (Ok tt) after
    → Saves after out answer saved
    → length s ≤ length out
    → (answer ≡ Ok (length s)) × (saved ≡ s ++ drop (length s) out)
loaded_saves {before} {s} {after} {out} {saved} {answer} l k h =
    subst (λ (x : List ℕ). length x ≤ length out → (answer ≡ Ok (length x)) × (saved ≡ x ++ drop (length x) out))
    (l.shows refl) (save_fits k) h

-- ---- one image for each replica

-- a replica's image loads as it, and nothing else does
pub one_image_loads : (r : Replica) → IsReplica r → {before s after : List ℕ} {answer : Result (Unit {0}) (Fault × ℕ)}
    → Loads before s answer after
    → ((answer ≡ Ok tt) × (replica_of after ≡ r)) ↔ (s ≡ image r)
one_image_loads r i {before} {s} {after} {answer} l = (
  λ h. sym (l.shows h.0) ∙ ap image h.1,
  λ e.
      let h = image_loads r i in
      let a : answer ≡ Ok tt = (by l None (ap (λ (x : List ℕ). first_that (faults x)) e ∙ h.0)).answers in
      (a, (load_accepts l a).1 ∙ (ap replica_in e ∙ h.1)),
)

-- two buffers that mean the same replica save the same bytes
pub same_saved : {b c out x y : List ℕ} {p q : Result ℕ Refusal} → replica_of b ≡ replica_of c
    → Saves b out p x
    → Saves c out q y
    → (p ≡ q) × (x ≡ y)
same_saved {b} {c} {out} {x} {y} {p} {q} e k l =
    does_one k.does (subst (λ (r : Replica). Does (save r out) q y) (sym e) l.does)

-- and two that save the same bytes mean the same replica, and are the same bytes
pub saved_same : {b c out lent x y : List ℕ} {m n : ℕ} → IsStored b
    → IsStored c
    → Saves b out (Ok m) x
    → Saves c lent (Ok n) y
    → take m x ≡ take n y
    → b ≡ c
saved_same {b} {c} i j k l e =
    let r : replica_of b ≡ replica_of c = image_injective (replica_of b) (replica_of c) i.replica j.replica (sym (save_writes k) ∙ (e ∙ save_writes l)) in
    i.same ∙ (ap stored r ∙ sym j.same)
