-- Where a key is found: `place` agrees with a map's `find`, and says where a change goes. Assumes nothing.
use mathlib.Core.Path.{◌≡◌, refl, sym, ap}
use Rattle.std.specs.declared.cmp.Ordering.TheVariants.{Less, Equal, Greater}
use Rattle.std.specs.declared.cmp.Ordering.{Ordering}
use Rattle.std.specs.Prelude.{Result, Ok, Err, is_err}
use mathlib.Core.List.{[], ◌∷◌}
use Rattle.std.specs.Prelude.{Option, None, Some}
use Prim.Native.Nat.{ℕ, suc, ◌+◌, ◌≤◌, ◌<◌}
use native.Mathlib.Omega.{arith}
use lib.ListN.{length, get_or, set}
use Rattle.rules.specs.declared.Revision.{Revision}
use Rattle.rules.specs.Map.{Map, by_order, find, alter}
use Rattle.rules.specs.Order.{order_rev}
use Rattle.rules.specs.Replica.{Tree}
use Rattle.rules.specs.Write.{is_none}
use Rattle.rules.proofs.OrderLaws.{TotalOrder, rev_order}
use Rattle.tree.specs.Table.{place, place_of, insert_at}
use Rattle.tree.proofs.TableLaws.{no_row}

-- the i-th has the key k: the map has what stands there, and a change at k sets it; x stands for one past the end
pub record HasKey {K A : Type 0} (order : K → K → Ordering) (x : K × A) (i : ℕ) (k : K) (xs : Map K A) : Type 0 where
  pub within : i < length xs
  pub is : (get_or xs i x).0 ≡ k
  pub found : find order k xs ≡ Some (get_or xs i x).1
  pub altered : (f : Option A → A) → alter order k f xs ≡ set xs i (k, f (Some (get_or xs i x).1))

-- none has the key k: the map has nothing, and a change at k puts one in at i
pub record HasGap {K A : Type 0} (order : K → K → Ordering) (i : ℕ) (k : K) (xs : Map K A) : Type 0 where
  pub within : i ≤ length xs
  pub found : find order k xs ≡ None
  pub altered : (f : Option A → A) → alter order k f xs ≡ insert_at i (k, f None) xs

module _ {K A : Type 0} (O : TotalOrder K) (x₀ : K × A) where
  abbrev order : K → K → Ordering
  order = O.cmp

  -- what a place says, counted from n
  abbrev Says : ℕ → K → Map K A → Result ℕ ℕ → Type 0
  Says n k xs (Ok i) = (m : ℕ) × (i ≡ n + m) × HasKey order x₀ m k xs
  Says n k xs (Err i) = (m : ℕ) × (i ≡ n + m) × HasGap order m k xs

  later : (n : ℕ) (k : K) (x : K × A) (xs : Map K A) (p : Result ℕ ℕ) → order k x.0 ≡ Greater → Says (suc n) k xs p → Says n k (x ∷ xs) p
  unfolding find alter insert_at
  later n k x xs (Ok i) o h = (
    suc h.0,
    let e = h.1 in omega arith,
    record {
      within = let w = h.2.within in omega arith;
      is = h.2.is;
      found = rw o h.2.found;
      altered = λ f. rw o (ap (λ (l : Map K A). x ∷ l) (h.2.altered f));
    },
  )
  later n k x xs (Err i) o h = (
    suc h.0,
    let e = h.1 in omega arith,
    record {
      within = let w = h.2.within in omega arith;
      found = rw o h.2.found;
      altered = λ f. rw o (ap (λ (l : Map K A). x ∷ l) (h.2.altered f));
    },
  )

  here : (n : ℕ) (k : K) (x : K × A) (xs : Map K A) → order k x.0 ≡ Equal → Says n k (x ∷ xs) (Ok n)
  unfolding find alter
  here n k x xs o =
      (0, omega arith, record { within = omega arith; is = sym (O.same k x.0 o); found = rw o refl; altered = λ f. rw o refl })

  before : (n : ℕ) (k : K) (x : K × A) (xs : Map K A) → order k x.0 ≡ Less → Says n k (x ∷ xs) (Err n)
  unfolding find alter insert_at
  before n k x xs o = (0, omega arith, record { within = omega arith; found = rw o refl; altered = λ f. rw o refl })

  says : (n : ℕ) (k : K) (xs : Map K A) → Says n k xs (place order n k xs)
  unfolding place find alter insert_at
  says n k [] = (0, omega arith, record { within = omega arith; found = refl; altered = λ f. refl })
  says n k (x ∷ xs) = go (order k x.0) refl (says (suc n) k xs)
    where
      go : (o : Ordering) → order k x.0 ≡ o → Says (suc n) k xs (place order (suc n) k xs)
          → Says n k (x ∷ xs) (by_order o (Err n) (Ok n) (place order (suc n) k xs))
      go Less o h = before n k x xs o
      go Equal o h = here n k x xs o
      go Greater o h = later n k x xs (place order (suc n) k xs) o h

  pub has_key : (i : ℕ) (k : K) (xs : Map K A) → place order 0 k xs ≡ Ok i → HasKey order x₀ i k xs
  has_key i k xs e =
      let h : Says 0 k xs (Ok i) = rw e at (says 0 k xs) in
      let q : h.0 ≡ i = let z = h.1 in omega arith in
      rw q at h.2

  pub has_gap : (i : ℕ) (k : K) (xs : Map K A) → place order 0 k xs ≡ Err i → HasGap order i k xs
  has_gap i k xs e =
      let h : Says 0 k xs (Err i) = rw e at (says 0 k xs) in
      let q : h.0 ≡ i = let z = h.1 in omega arith in
      rw q at h.2

-- ---- of a tree's revisions

abbrev pub Is : ℕ → Revision → Tree → Type 0
Is i v t = HasKey order_rev no_row i v t

abbrev pub IsNot : ℕ → Revision → Tree → Type 0
IsNot i v t = HasGap order_rev i v t

pub place_at : (i : ℕ) (v : Revision) (t : Tree) → place_of 0 v t ≡ Ok i → Is i v t
place_at i v t e = has_key rev_order no_row i v t e

pub place_gap : (i : ℕ) (v : Revision) (t : Tree) → place_of 0 v t ≡ Err i → IsNot i v t
place_gap i v t e = has_gap rev_order no_row i v t e

-- a revision is missing where its place is a gap
pub place_missing : (v : Revision) (t : Tree) → is_err (place_of 0 v t) ≡ is_none (find order_rev v t)
place_missing v t = go (place_of 0 v t) refl
  where
    go : (p : Result ℕ ℕ) → place_of 0 v t ≡ p → is_err p ≡ is_none (find order_rev v t)
    go (Ok i) e = sym (ap is_none (place_at i v t e).found)
    go (Err i) e = sym (ap is_none (place_gap i v t e).found)
