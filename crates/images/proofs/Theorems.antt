-- The theorems about the stored image. Assumes nothing.
use mathlib.Core.Path.{◌≡◌, refl, sym, ap, ◌∙◌, subst}
use Rattle.std.specs.Prelude.{Result, Ok, Err}
use mathlib.Core.List.{List}
use mathlib.Core.Logic.{◌↔◌}
use Rattle.std.specs.Prelude.{Option, None, Some}
use Prim.Native.Nat.{ℕ, ◌≤◌}
use native.Mathlib.Omega.{arith}
use lib.ListN.{length}
use Rattle.rules.specs.declared.Fault.{Fault}
use Rattle.rules.specs.Bytes.{Bytes}
use Rattle.rules.specs.Choice.{first_that}
use Rattle.rules.specs.Faults.{faults, load_as, load}
use Rattle.rules.specs.Image.{image, replica_in, total_length}
use Rattle.rules.specs.Replica.{Replica, revisions_held, IsReplica}
use Rattle.rules.specs.Room.{documents_most, revisions_most}
use Rattle.rules.proofs.ChoiceLaws.{NoneHolds, none_holds, holds_none, IsFirst, first_is, is_first}
use Rattle.images.proofs.Replicas.{length-image, bytes_image, image_faultless, image_read, held_replica, held_image}

-- ---- the rules and their order

-- "An image loads exactly if it meets every rule": no fault is found exactly if no condition of 20 to 26 holds
pub rules_all : (s : List ℕ) → first_that (faults s) ≡ None ↔ NoneHolds (faults s)
rules_all s = (none_holds (faults s), holds_none (faults s))

-- "Refusals, in order, each over the whole image": the fault and the place that a refusal gives are those of
-- the first condition that holds
pub first_fault : (s : List ℕ) (f : Fault × ℕ) → first_that (faults s) ≡ Some f ↔ IsFirst (faults s) f
first_fault s f = (first_is (faults s) f, is_first (faults s) f)

-- "An image loads exactly if it meets every rule."
pub loads : (former : Replica) (s : List ℕ) → first_that (faults s) ≡ None → load former s ≡ (Ok tt, replica_in s)
unfolding load
loads former s e = ap (load_as former s) e

-- what is accepted has no fault
accepted : (former : Replica) (s : List ℕ) (r : Replica) → load former s ≡ (Ok tt, r) → (first_that (faults s) ≡ None) × (replica_in s ≡ r)
unfolding load
accepted former s r e = go (first_that (faults s)) refl
  where
    go : (o : Option (Fault × ℕ)) → first_that (faults s) ≡ o → (first_that (faults s) ≡ None) × (replica_in s ≡ r)
    go None p = (p, ap (λ (a : Result (Unit {0}) (Fault × ℕ) × Replica). a.1) (sym (ap (load_as former s) p) ∙ e))
    go (Some f) p = absurd (never (ap (λ (a : Result (Unit {0}) (Fault × ℕ) × Replica). a.0) (sym (ap (load_as former s) p) ∙ e)))
      where
        never : ◌≡◌ {A = Result (Unit {0}) (Fault × ℕ)} (Err f) (Ok tt) → ⊥
        never q = let z : ◌≡◌ {A = ℕ} 0 1 = cc in omega arith

pub loads_exactly : (former : Replica) (s : List ℕ) → (load former s ≡ (Ok tt, replica_in s)) ↔ NoneHolds (faults s)
loads_exactly former s =
    (λ e. none_holds (faults s) (accepted former s (replica_in s) e).0, λ h. loads former s (holds_none (faults s) h))

-- "A failed load leaves the former replica."
pub refuses : (former : Replica) (s : List ℕ) (f : Fault × ℕ) → first_that (faults s) ≡ Some f → load former s ≡ (Err f, former)
unfolding load
refuses former s f e = ap (load_as former s) e

-- ---- saved and loaded

-- every replica has an image, and what is saved loads back as the same replica
pub image_loads : (r : Replica) → IsReplica r → (first_that (faults (image r)) ≡ None) × (replica_in (image r) ≡ r)
image_loads r i = (image_faultless r i, image_read r i)

-- whatever loads is a replica, and saved it is the same bytes again
pub loaded_is_replica : (s : List ℕ) → Bytes s → first_that (faults s) ≡ None → IsReplica (replica_in s) × (image (replica_in s) ≡ s)
loaded_is_replica s p e = (held_replica s p e, held_image s p e)

-- exactly one image loads as a replica: its own
pub one_image : (r : Replica) → IsReplica r → (former : Replica)
    → (load former (image r) ≡ (Ok tt, r)) × ((s : List ℕ) → Bytes s → load former s ≡ (Ok tt, r) → s ≡ image r)
one_image r i former = (
  loads former (image r) (image_faultless r i) ∙ ap (λ (q : Replica). (Ok tt, q)) (image_read r i),
  λ s p e. let a = accepted former s r e in sym (held_image s p a.0) ∙ ap image a.1,
)

-- different replicas have different images
pub image_injective : (r q : Replica) → IsReplica r → IsReplica q → image r ≡ image q → r ≡ q
image_injective r q i j e = sym (image_read r i) ∙ (ap replica_in e ∙ image_read q j)

-- what every call requires of a replica says that its image meets every rule and holds it
pub replica_iff : (r : Replica) → IsReplica r ↔ (Bytes (image r) × (first_that (faults (image r)) ≡ None) × (replica_in (image r) ≡ r))
replica_iff r = (
  λ i. (bytes_image r i, image_faultless r i, image_read r i),
  λ h. subst IsReplica h.2 (held_replica (image r) h.0 h.1),
)

-- ---- lengths

-- "total length (4) = 16 + 44d + 48r"
pub image_length : (r : Replica) → IsReplica r → length (image r) ≡ total_length (length r.documents) (revisions_held r.documents)
image_length = length-image

-- "The largest image has 26,000 bytes."
pub image_most : (r : Replica) → IsReplica r → length (image r) ≤ total_length documents_most revisions_most
image_most r i =
    let n = length-image r i in
    let d = i.documents_at_most in
    let v = i.revisions_at_most in
    omega arith
