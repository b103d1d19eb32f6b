-- Demand 2 of refile_save and refile_load: what is saved loads back, what is loaded saves back, and one image loads as each replica. Assumes nothing.
use mathlib.Core.Path.{◌≡◌, refl, sym, ap, ◌∙◌}
use Rattle.rules.specs.declared.Refusal.{Refusal}
use Rattle.std.specs.Prelude.{Result}
use mathlib.Core.List.{List, ◌++◌}
use mathlib.Core.Logic.{◌↔◌}
use Prim.Native.Nat.{ℕ, ◌≤◌}
use native.Mathlib.Omega.{arith}
use lib.ListN.{length, take, drop}
use Rattle.rules.specs.Answer.{Numbered, accepted, answered_number}
use Rattle.rules.specs.Choice.{first_that}
use Rattle.rules.specs.Faults.{faults}
use Rattle.rules.specs.Image.{image, replica_in, save}
use Rattle.images.proofs.Theorems.{image_loads, image_most, loaded_is_replica}
use Rattle.store.specs.Storage.{store_size, stored, replica_of, IsStored}
use Rattle.codec.proofs.RoundTrip.{save_fits, save_writes}
use Rattle.refile.specs.Decode.{value_in, decode}
use Rattle.demands.specs.Calls as C
use Rattle.demands.specs.Calls.{IsAccepted, Called, LoadCall}
use Rattle.demands.proofs.CallLaws.{counted, load_fine, load_does, save_does, save_from}

-- ---- what a save wrote

module _ {s out : List ℕ} {r : ℕ} {left : List ℕ} (k : Called C.save (s, out) r left) where
  -- an accepted save counts the bytes of the image, which stand at the front
  pub saved_image : IsAccepted r → take (value_in r) left ≡ image (replica_of s)
  saved_image a =
      let d = save_does k (save_from k a) in
      let n = counted r (save (replica_of s) out).0 d.0 a in
      save_writes (record { does = record { answers = sym n; left = d.1 } })

  -- with room for it, it is accepted
  saved_room : IsStored s → length (image (replica_of s)) ≤ length out
      → IsAccepted r × (value_in r ≡ length (image (replica_of s))) × (left ≡ image (replica_of s) ++ drop (length (image (replica_of s))) out)
  saved_room i h =
      let d = save_does k i in
      let f = save_fits {answer = (save (replica_of s) out).0} (record { does = record { answers = refl; left = d.1 } }) h in
      let n : decode r ≡ accepted (length (image (replica_of s))) = d.0 ∙ ap (λ (a : Result ℕ Refusal). answered_number a) f.0 in
      (ap (λ (m : Numbered). m.refusal) n, ap (λ (m : Numbered). m.value) n, f.1)

  -- the largest image has as many bytes as a replica: a buffer of as many is never too short
  pub saves_always : IsStored s → store_size ≤ length out → IsAccepted r
  saves_always i h = let m = image_most (replica_of s) i.replica in (saved_room i (omega arith)).0

-- ---- saved, then loaded

-- what was saved loads into any buffer of a replica's size, and leaves the bytes that were saved from
pub saved_loads : {s out : List ℕ} {n : ℕ} {saved : List ℕ} → Called C.save (s, out) n saved → IsAccepted n
    → {before : List ℕ} {r : ℕ} {left : List ℕ} → LoadCall before (take (value_in n) saved) r left → length before ≡ store_size
    → IsAccepted r × (left ≡ s)
saved_loads {s} k a l e =
    let i = save_from k a in
    let b = saved_image k a in
    let h = image_loads (replica_of s) i.replica in
    let d = load_fine l e (ap (λ (x : List ℕ). first_that (faults x)) b ∙ h.0) in
    (d.0, d.1 ∙ (ap stored (ap replica_in b ∙ h.1) ∙ sym i.same))

-- ---- loaded, then saved

-- what loads is, saved, the same bytes again
pub loaded_saves : {before s : List ℕ} {r : ℕ} {left : List ℕ} → LoadCall before s r left → IsAccepted r
    → {out : List ℕ} {n : ℕ} {saved : List ℕ} → Called C.save (left, out) n saved → length s ≤ length out
    → IsAccepted n × (value_in n ≡ length s) × (saved ≡ s ++ drop (length s) out)
loaded_saves {before} {s} {r} {left} l a {out} {n} {saved} k h =
    let d = load_does l a in
    let m : image (replica_of left) ≡ s = ap image d.1.means ∙ (loaded_is_replica s l.given d.0).1 in
    let f = saved_room k d.1.is (rw m h) in
    (f.0, f.1 ∙ ap length m, f.2 ∙ ap (λ (x : List ℕ). x ++ drop (length x) out) m)

-- ---- one image for each replica

-- of all images, the one that was saved and no other loads as what it was saved from
pub one_image : {s out : List ℕ} {n : ℕ} {saved : List ℕ} → Called C.save (s, out) n saved → IsAccepted n
    → {before given : List ℕ} {r : ℕ} {left : List ℕ} → LoadCall before given r left → length before ≡ store_size
    → (IsAccepted r × (left ≡ s)) ↔ (given ≡ take (value_in n) saved)
one_image {s} k a {before} {given} {r} {left} l e = (
  λ h.
      let d = load_does l h.0 in
      sym (loaded_is_replica given l.given d.0).1 ∙ (ap image (sym d.1.means ∙ ap replica_of h.1) ∙ sym (saved_image k a)),
  λ g.
      let i = save_from k a in
      let b = g ∙ saved_image k a in
      let h = image_loads (replica_of s) i.replica in
      let d = load_fine l e (ap (λ (x : List ℕ). first_that (faults x)) b ∙ h.0) in
      (d.0, d.1 ∙ (ap stored (ap replica_in b ∙ h.1) ∙ sym i.same)),
)
