-- What a write or an edit leaves by cases, and the document it writes apart from the others. Assumes nothing.
use mathlib.Core.Path.{◌≡◌, refl, sym, ap, ◌∙◌, subst}
use Rattle.std.specs.declared.cmp.Ordering.TheVariants.{Less, Equal, Greater}
use Rattle.std.specs.declared.cmp.Ordering.{Ordering}
use Rattle.rules.specs.declared.RevNumber.{RevNumber}
use Rattle.rules.specs.declared.Outcome.{Outcome}
use Rattle.std.specs.Prelude.{Result, Ok, Err}
use mathlib.Core.Bool.{Bool, true, false}
use Rattle.std.specs.Prelude.{Option, None, Some}
use Prim.Native.Nat.{ℕ}
use native.Mathlib.Omega.{arith}
use Rattle.rules.specs.declared.Outcome.TheVariants.{Changed, Unchanged}
use Rattle.rules.specs.declared.Refusal.{Refusal}
use Rattle.rules.specs.Choice.{pick, first_that}
use Rattle.rules.specs.Edit.{Edit, as_write, new_number, edit_refusals, edit}
use Rattle.rules.specs.Order.{order_bytes}
use Rattle.rules.specs.Replica.{Id, Document, Replica, document_of, tree_of}
use Rattle.rules.specs.Write.{Write, gives, add_all, next, added, adds, write_refusals, settle, write}
use Rattle.rules.proofs.OrderLaws.{less≢equal, equal≢greater, bytes_order}
use Rattle.rules.proofs.MapLaws.{find_same, find_other}

-- a fact for every id, from one and the others
pub each_id : (k : Id) (P : Id → Type 0) → P k → ((i : Id) → (i ≡ k → ⊥) → P i) → (i : Id) → P i
each_id k P h n i = go (order_bytes i k) refl
  where
    self : i ≡ k → order_bytes i k ≡ Equal
    self e = subst (λ (z : Id). order_bytes i z ≡ Equal) e (bytes_order.self i)

    go : (o : Ordering) → order_bytes i k ≡ o → P i
    go Less e = n i (λ q. less≢equal (sym e ∙ self q))
    go Equal e = subst P (sym (bytes_order.same i k e)) h
    go Greater e = n i (λ q. equal≢greater (sym (self q) ∙ e))

-- the document that a write which adds something writes
abbrev pub now : Replica → Write → Document
now r w = record { seq = next r.seq; tree = add_all (gives w) (tree_of r w.id) }

pub added_here : (r : Replica) (w : Write) → document_of (added r w) w.id ≡ Some (now r w)
unfolding document_of added
added_here r w = find_same bytes_order w.id (λ d. now r w) r.documents

pub added_other : (r : Replica) (w : Write) (j : Id) → (j ≡ w.id → ⊥) → document_of (added r w) j ≡ document_of r j
unfolding document_of added
added_other r w j n = find_other bytes_order j w.id (λ d. now r w) r.documents (λ e. n (bytes_order.same j w.id e))

-- an accepted write
pub accepted : (r : Replica) (w : Write) → first_that (write_refusals r w) ≡ None
    → write r w ≡ pick (adds r w) (Ok Changed, added r w) (Ok Unchanged, r)
unfolding write
accepted r w e = rw e refl

-- what a write leaves is as it was, or it was accepted and adds something; likewise an edit
pub write_by : (r : Replica) (w : Write) (P : Replica → Type 0) → P r → (first_that (write_refusals r w) ≡ None → adds r w ≡ true → P (added r w))
    → P (write r w).1
unfolding write
write_by r w P h f = go (first_that (write_refusals r w)) refl (adds r w) refl
  where
    left : Bool → Result Outcome Refusal × Replica
    left b = pick b (Ok Changed, added r w) (Ok Unchanged, r)

    go : (o : Option Refusal) → first_that (write_refusals r w) ≡ o → (b : Bool) → adds r w ≡ b → P (settle Err r (left b) o).1
    go (Some n) e b q = h
    go None e true q = f e q
    go None e false q = h

pub edit_by : (r : Replica) (e : Edit) (P : Replica → Type 0) → P r → (first_that (edit_refusals r e) ≡ None → P (added r (as_write r e)))
    → P (edit r e).1
unfolding edit
edit_by r e P h f = go (first_that (edit_refusals r e)) refl
  where
    go : (o : Option Refusal) → first_that (edit_refusals r e) ≡ o
        → P (settle Err r (Ok (new_number r e), added r (as_write r e)) o).1
    go (Some n) q = h
    go None q = f q

-- a write that doesn't answer "changed" leaves what was held: one that is refused, and one that adds nothing
write_stays : (r : Replica) (w : Write) → ((write r w).0 ≡ Ok Changed → ⊥) → (write r w).1 ≡ r
unfolding write
write_stays r w = go (first_that (write_refusals r w)) (adds r w)
  where
    left : Bool → Result Outcome Refusal × Replica
    left b = pick b (Ok Changed, added r w) (Ok Unchanged, r)

    go : (o : Option Refusal) (b : Bool) → ((settle Err r (left b) o).0 ≡ Ok Changed → ⊥) → (settle Err r (left b) o).1 ≡ r
    go (Some m) b n = refl
    go None true n = absurd (n refl)
    go None false n = refl

-- a refused write was refused by the first condition that holds
pub refused_by : (r : Replica) (w : Write) (n : Refusal) → (write r w).0 ≡ Err n → first_that (write_refusals r w) ≡ Some n
unfolding write
refused_by r w n = go (first_that (write_refusals r w)) (adds r w)
  where
    left : Bool → Result Outcome Refusal × Replica
    left b = pick b (Ok Changed, added r w) (Ok Unchanged, r)

    go : (o : Option Refusal) (b : Bool) → (settle Err r (left b) o).0 ≡ Err n → o ≡ Some n
    go (Some m) b q = let e : m ≡ n = cc in ap Some e
    go None true q = absurd (let z : ◌≡◌ {A = ℕ} 0 1 = cc in omega arith)
    go None false q = absurd (let z : ◌≡◌ {A = ℕ} 0 1 = cc in omega arith)

pub write_refused : (r : Replica) (w : Write) (n : Refusal) → (write r w).0 ≡ Err n → (write r w).1 ≡ r
write_refused r w n e = write_stays r w (λ q. let z : ◌≡◌ {A = ℕ} 0 1 = cc in omega arith)

pub write_unchanged : (r : Replica) (w : Write) → (write r w).0 ≡ Ok Unchanged → (write r w).1 ≡ r
write_unchanged r w e = write_stays r w (λ q. let z : ◌≡◌ {A = ℕ} 0 1 = cc in omega arith)

-- so does a refused edit
pub edit_refused : (r : Replica) (e : Edit) (n : Refusal) → (edit r e).0 ≡ Err n → (edit r e).1 ≡ r
unfolding edit
edit_refused r e n = go (first_that (edit_refusals r e))
  where
    left : Result RevNumber Refusal × Replica
    left = (Ok (new_number r e), added r (as_write r e))

    go : (o : Option Refusal) → (settle Err r left o).0 ≡ Err n → (settle Err r left o).1 ≡ r
    go (Some m) q = refl
    go None q = absurd (let z : ◌≡◌ {A = ℕ} 0 1 = cc in omega arith)
