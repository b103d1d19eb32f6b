-- Laws of maps: what `find` answers after `alter`, and that two maps with the same answers are one list. Assumes nothing.
use mathlib.Core.Path.{◌≡◌, refl, sym, ap, ap₂, ◌∙◌}
use Rattle.std.specs.declared.cmp.Ordering.TheVariants.{Less, Equal, Greater}
use Rattle.std.specs.declared.cmp.Ordering.{Ordering}
use mathlib.Core.List.{[], ◌∷◌}
use Rattle.std.specs.Prelude.{Option, None, Some}
use Prim.Native.Nat.{ℕ}
use native.Mathlib.Omega.{arith}
use Rattle.rules.specs.Map.{Map, find, alter, Below, Ascending}
use Rattle.rules.proofs.OrderLaws.{TotalOrder}

pub none≢some : {A : Type 0} {v : A} → ◌≡◌ {A = Option A} None (Some v) → ⊥
none≢some e = let z : ◌≡◌ {A = ℕ} 0 1 = cc in omega arith

pub some_inj : {A : Type 0} {v w : A} → ◌≡◌ {A = Option A} (Some v) (Some w) → v ≡ w
some_inj e = cc

module _ {K A : Type 0} (O : TotalOrder K) where
  -- what `find` answers at a cons, by the comparison
  pub find_lt : (k : K) (x : K × A) (xs : Map K A) → O.cmp k x.0 ≡ Less → find O.cmp k (x ∷ xs) ≡ None
  unfolding find
  find_lt k x xs e = rw e refl

  pub find_eq : (k : K) (x : K × A) (xs : Map K A) → O.cmp k x.0 ≡ Equal → find O.cmp k (x ∷ xs) ≡ Some x.1
  unfolding find
  find_eq k x xs e = rw e refl

  pub find_gt : (k : K) (x : K × A) (xs : Map K A) → O.cmp k x.0 ≡ Greater → find O.cmp k (x ∷ xs) ≡ find O.cmp k xs
  unfolding find
  find_gt k x xs e = rw e refl

  pub find_same : (k : K) (f : Option A → A) (xs : Map K A) → find O.cmp k (alter O.cmp k f xs) ≡ Some (f (find O.cmp k xs))
  unfolding find alter
  find_same k f [] = rw (O.self k) refl
  find_same k f (x ∷ xs) = go (O.cmp k x.0) refl (find_same k f xs)
    where
      go : (o : Ordering) → O.cmp k x.0 ≡ o → find O.cmp k (alter O.cmp k f xs) ≡ Some (f (find O.cmp k xs))
          → find O.cmp k (alter O.cmp k f (x ∷ xs)) ≡ Some (f (find O.cmp k (x ∷ xs)))
      go Less e ih = rw (e, O.self k) refl
      go Equal e ih = rw (e, O.self k) refl
      go Greater e ih = rw (e, e) ih

  alter_lt : (k : K) (f : Option A → A) (x : K × A) (xs : Map K A) → O.cmp k x.0 ≡ Less → alter O.cmp k f (x ∷ xs) ≡ (k, f None) ∷ x ∷ xs
  unfolding alter
  alter_lt k f x xs e = rw e refl

  alter_eq : (k : K) (f : Option A → A) (x : K × A) (xs : Map K A) → O.cmp k x.0 ≡ Equal → alter O.cmp k f (x ∷ xs) ≡ (k, f (Some x.1)) ∷ xs
  unfolding alter
  alter_eq k f x xs e = rw e refl

  alter_gt : (k : K) (f : Option A → A) (x : K × A) (xs : Map K A) → O.cmp k x.0 ≡ Greater → alter O.cmp k f (x ∷ xs) ≡ x ∷ alter O.cmp k f xs
  unfolding alter
  alter_gt k f x xs e = rw e refl

  -- one key in front, looked up at another
  front_other : (j k : K) (a : A) (x : K × A) (xs : Map K A) → (O.cmp j k ≡ Equal → ⊥) → O.cmp k x.0 ≡ Less
      → find O.cmp j ((k, a) ∷ x ∷ xs) ≡ find O.cmp j (x ∷ xs)
  front_other j k a x xs n e = go (O.cmp j k) refl
    where
      go : (o : Ordering) → O.cmp j k ≡ o → find O.cmp j ((k, a) ∷ x ∷ xs) ≡ find O.cmp j (x ∷ xs)
      go Less p = find_lt j (k, a) (x ∷ xs) p ∙ sym (find_lt j x xs (O.trans j k x.0 p e))
      go Equal p = absurd (n p)
      go Greater p = find_gt j (k, a) (x ∷ xs) p

  cons_other : (j : K) (x y : K × A) (xs ys : Map K A) → x.0 ≡ y.0 → (O.cmp j x.0 ≡ Equal → x.1 ≡ y.1) → find O.cmp j xs ≡ find O.cmp j ys
      → find O.cmp j (x ∷ xs) ≡ find O.cmp j (y ∷ ys)
  cons_other j x y xs ys k v t = go (O.cmp j x.0) refl
    where
      go : (o : Ordering) → O.cmp j x.0 ≡ o → find O.cmp j (x ∷ xs) ≡ find O.cmp j (y ∷ ys)
      go Less p = find_lt j x xs p ∙ sym (find_lt j y ys (rw k at p))
      go Equal p = find_eq j x xs p ∙ (ap Some (v p) ∙ sym (find_eq j y ys (rw k at p)))
      go Greater p = find_gt j x xs p ∙ (t ∙ sym (find_gt j y ys (rw k at p)))

  pub find_other : (j k : K) (f : Option A → A) (xs : Map K A) → (O.cmp j k ≡ Equal → ⊥) → find O.cmp j (alter O.cmp k f xs) ≡ find O.cmp j xs
  unfolding find alter
  find_other j k f [] n = go (O.cmp j k) refl
    where
      go : (o : Ordering) → O.cmp j k ≡ o → find O.cmp j (alter O.cmp k f []) ≡ None
      go Less e = rw e refl
      go Equal e = absurd (n e)
      go Greater e = rw e refl
  find_other j k f (x ∷ xs) n = go (O.cmp k x.0) refl (find_other j k f xs n)
    where
      go : (o : Ordering) → O.cmp k x.0 ≡ o → find O.cmp j (alter O.cmp k f xs) ≡ find O.cmp j xs → find O.cmp j (alter O.cmp k f (x ∷ xs)) ≡ find O.cmp j (x ∷ xs)
      go Less e ih = ap (find O.cmp j) (alter_lt k f x xs e) ∙ front_other j k (f None) x xs n e
      go Equal e ih = ap (find O.cmp j) (alter_eq k f x xs e) ∙ cons_other j (k, f (Some x.1)) x xs xs (O.same k x.0 e) (λ p. absurd (n p)) refl
      go Greater e ih = ap (find O.cmp j) (alter_gt k f x xs e) ∙ cons_other j x x (alter O.cmp k f xs) xs refl (λ p. refl) ih

  -- sortedness
  below_trans : (j k : K) (xs : Map K A) → O.cmp j k ≡ Less → Below O.cmp k xs → Below O.cmp j xs
  below_trans j k [] e b = tt
  below_trans j k (x ∷ xs) e b = O.trans j k x.0 e b

  below_alter : (j k : K) (f : Option A → A) (xs : Map K A) → O.cmp j k ≡ Less → Below O.cmp j xs → Below O.cmp j (alter O.cmp k f xs)
  unfolding alter
  below_alter j k f [] e b = e
  below_alter j k f (x ∷ xs) e b = go (O.cmp k x.0) refl
    where
      go : (o : Ordering) → O.cmp k x.0 ≡ o → Below O.cmp j (alter O.cmp k f (x ∷ xs))
      go Less p = rw p e
      go Equal p = rw p e
      go Greater p = rw p b

  pub ascending_alter : (k : K) (f : Option A → A) (xs : Map K A) → Ascending O.cmp xs → Ascending O.cmp (alter O.cmp k f xs)
  unfolding alter
  ascending_alter k f [] s = (tt, tt)
  ascending_alter k f (x ∷ xs) s = go (O.cmp k x.0) refl (ascending_alter k f xs s.1)
    where
      go : (o : Ordering) → O.cmp k x.0 ≡ o → Ascending O.cmp (alter O.cmp k f xs) → Ascending O.cmp (alter O.cmp k f (x ∷ xs))
      go Less p ih = rw p (p, s)
      go Equal p ih = rw p (rw (O.same k x.0 p) s.0, s.1)
      go Greater p ih = rw p (below_alter x.0 k f xs (O.turn k x.0 p) s.0, ih)

  pub find_below : (k : K) (xs : Map K A) → Below O.cmp k xs → find O.cmp k xs ≡ None
  unfolding find
  find_below k [] b = refl
  find_below k (x ∷ xs) b = rw b refl

  -- two sorted maps with the same answers are one list
  head_found : (x : K × A) (xs : Map K A) → find O.cmp x.0 (x ∷ xs) ≡ Some x.1
  head_found x xs = find_eq x.0 x xs (O.self x.0)

  tails : (x y : K × A) (xs ys : Map K A) → x.0 ≡ y.0 → Below O.cmp x.0 xs → Below O.cmp y.0 ys
      → ((k : K) → find O.cmp k (x ∷ xs) ≡ find O.cmp k (y ∷ ys)) → (k : K) → find O.cmp k xs ≡ find O.cmp k ys
  tails x y xs ys e bx by h k = go (O.cmp k x.0) refl
    where
      go : (o : Ordering) → O.cmp k x.0 ≡ o → find O.cmp k xs ≡ find O.cmp k ys
      go Less p = find_below k xs (below_trans k x.0 xs p bx) ∙ sym (find_below k ys (below_trans k y.0 ys (rw e at p) by))
      go Equal p = find_below k xs (rw (O.same k x.0 p) bx) ∙ sym (find_below k ys (rw (O.same k x.0 p ∙ e) by))
      go Greater p = sym (find_gt k x xs p) ∙ (h k ∙ find_gt k y ys (rw e at p))

  pub ext : (xs ys : Map K A) → Ascending O.cmp xs → Ascending O.cmp ys → ((k : K) → find O.cmp k xs ≡ find O.cmp k ys) → xs ≡ ys
  unfolding find
  ext [] [] s t h = refl
  ext [] (y ∷ ys) s t h = absurd (none≢some (h y.0 ∙ head_found y ys))
  ext (x ∷ xs) [] s t h = absurd (none≢some (sym (h x.0) ∙ head_found x xs))
  ext (x ∷ xs) (y ∷ ys) s t h = go (O.cmp x.0 y.0) refl (λ e. ext xs ys s.1 t.1 (tails x y xs ys e s.0 t.0 h))
    where
      go : (o : Ordering) → O.cmp x.0 y.0 ≡ o → (x.0 ≡ y.0 → xs ≡ ys) → ◌≡◌ {A = Map K A} (x ∷ xs) (y ∷ ys)
      go Less p ih = absurd (none≢some (sym (find_lt x.0 y ys p) ∙ (sym (h x.0) ∙ head_found x xs)))
      go Equal p ih =
          let e : x.0 ≡ y.0 = O.same x.0 y.0 p in
          let v : x.1 ≡ y.1 = some_inj (sym (head_found x xs) ∙ (h x.0 ∙ find_eq x.0 y ys p)) in
          ap₂ ◌∷◌ (λ i. (e i, v i)) (ih e)
      go Greater p ih = absurd (none≢some (sym (find_lt y.0 x xs (O.turn x.0 y.0 p)) ∙ (h y.0 ∙ head_found y ys)))
