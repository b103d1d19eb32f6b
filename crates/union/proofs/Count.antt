-- How many: a sorted map whose keys stand in a list is no longer than the list; sums over a map. Assumes nothing.
use mathlib.Core.Path.{◌≡◌, refl, sym, ap, ◌∙◌, subst}
use Rattle.std.specs.declared.cmp.Ordering.TheVariants.{Less, Equal, Greater}
use Rattle.std.specs.declared.cmp.Ordering.{Ordering}
use mathlib.Core.List.{List, [], ◌∷◌}
use mathlib.Core.Logic.{inl, inr}
use Rattle.std.specs.Prelude.{Option, None, Some}
use Prim.Native.Nat.{ℕ, suc, ◌+◌, ◌≤◌}
use native.Mathlib.Omega.{arith}
use lib.ListN.{length}
use Rattle.rules.specs.declared.Revision.{Revision}
use Rattle.rules.specs.Map.{Map, by_order, find, alter, Below, Ascending}
use Rattle.rules.specs.Order.{order_bytes, order_rev}
use Rattle.rules.specs.Replica.{Id, Document, revisions_held}
use Rattle.rules.specs.Union.{In}
use Rattle.rules.proofs.OrderLaws.{TotalOrder, less≢equal, equal≢greater, turn_less, bytes_order, rev_order}
use Rattle.rules.proofs.MapLaws.{none≢some, some_inj, find_lt, find_eq, find_gt}

module _ {K : Type 0} (O : TotalOrder K) where
  remove : K → List K → List K
  remove k [] = []
  remove k (x ∷ xs) = by_order (O.cmp k x) (x ∷ remove k xs) xs (x ∷ remove k xs)

  remove_length : (k : K) (xs : List K) → In k xs → length xs ≡ suc (length (remove k xs))
  unfolding remove
  remove_length k [] m = absurd m
  remove_length k (x ∷ xs) m = go (O.cmp k x) refl m (λ i. remove_length k xs i)
    where
      skip : (O.cmp k x ≡ Equal → ⊥) → In k (x ∷ xs) → In k xs
      skip n (inl q) = absurd (n (subst (λ (z : K). O.cmp k z ≡ Equal) q (O.self k)))
      skip n (inr i) = i

      go : (o : Ordering) → O.cmp k x ≡ o → In k (x ∷ xs) → (In k xs → length xs ≡ suc (length (remove k xs))) → length (x ∷ xs) ≡ suc (length (remove k (x ∷ xs)))
      go Less p i ih = rw p (ap suc (ih (skip (λ q. less≢equal (sym p ∙ q)) i)))
      go Equal p i ih = rw p refl
      go Greater p i ih = rw p (ap suc (ih (skip (λ q. equal≢greater (sym q ∙ p)) i)))

  remove_keeps : (k j : K) (xs : List K) → (O.cmp k j ≡ Equal → ⊥) → In j xs → In j (remove k xs)
  unfolding remove
  remove_keeps k j [] n m = absurd m
  remove_keeps k j (x ∷ xs) n m = go (O.cmp k x) refl m (λ i. remove_keeps k j xs n i)
    where
      go : (o : Ordering) → O.cmp k x ≡ o → In j (x ∷ xs) → (In j xs → In j (remove k xs)) → In j (remove k (x ∷ xs))
      go Less p (inl q) ih = rw p (inl q)
      go Less p (inr i) ih = rw p (inr (ih i))
      go Equal p (inl q) ih = absurd (n (subst (λ (z : K). O.cmp k z ≡ Equal) (sym q) p))
      go Equal p (inr i) ih = rw p i
      go Greater p (inl q) ih = rw p (inl q)
      go Greater p (inr i) ih = rw p (inr (ih i))

module _ {K A : Type 0} (O : TotalOrder K) where
  pub below_all : (k : K) (xs : Map K A) → Below O.cmp k xs → Ascending O.cmp xs → (y : K × A) → In y xs → O.cmp k y.0 ≡ Less
  below_all k [] b s y m = absurd m
  below_all k (x ∷ xs) b s y (inl q) = subst (λ (z : K × A). O.cmp k z.0 ≡ Less) (sym q) b
  below_all k (x ∷ xs) b s y (inr m) = O.trans k x.0 y.0 b (below_all x.0 xs s.0 s.1 y m)

  pub in_find : (xs : Map K A) → Ascending O.cmp xs → (y : K × A) → In y xs → find O.cmp y.0 xs ≡ Some y.1
  in_find [] s y m = absurd m
  in_find (x ∷ xs) s y (inl q) =
      find_eq O y.0 x xs (subst (λ (z : K × A). O.cmp y.0 z.0 ≡ Equal) q (O.self y.0)) ∙ ap Some (ap (λ (z : K × A). z.1) (sym q))
  in_find (x ∷ xs) s y (inr m) =
      find_gt O y.0 x xs (turn_less O x.0 y.0 (below_all x.0 xs s.0 s.1 y m)) ∙ in_find xs s.1 y m

  pub find_in : (xs : Map K A) (k : K) (v : A) → find O.cmp k xs ≡ Some v → In (k, v) xs
  unfolding find
  find_in [] k v e = absurd (none≢some e)
  find_in (x ∷ xs) k v e = go (O.cmp k x.0) refl (λ q. find_in xs k v q)
    where
      go : (o : Ordering) → O.cmp k x.0 ≡ o → (find O.cmp k xs ≡ Some v → In (k, v) xs) → In (k, v) (x ∷ xs)
      go Less p ih = absurd (none≢some (sym (find_lt O k x xs p) ∙ e))
      go Equal p ih = inl (λ i. (O.same k x.0 p i, some_inj (sym e ∙ find_eq O k x xs p) i))
      go Greater p ih = inr (ih (sym (find_gt O k x xs p) ∙ e))

  find_nil : (k : K) → ◌≡◌ {A = Option A} (find O.cmp k []) None
  unfolding find
  find_nil k = refl

  pub length_alter : (k : K) (f : Option A → A) (xs : Map K A) → find O.cmp k xs ≡ None → length (alter O.cmp k f xs) ≡ suc (length xs)
  unfolding alter
  length_alter k f [] e = refl
  length_alter k f (x ∷ xs) e = go (O.cmp k x.0) refl (λ q. length_alter k f xs q)
    where
      go : (o : Ordering) → O.cmp k x.0 ≡ o → (find O.cmp k xs ≡ None → length (alter O.cmp k f xs) ≡ suc (length xs)) → length (alter O.cmp k f (x ∷ xs)) ≡ suc (length (x ∷ xs))
      go Less p ih = rw p refl
      go Equal p ih = absurd (none≢some (sym e ∙ find_eq O k x xs p))
      go Greater p ih = rw p (ap suc (ih (sym (find_gt O k x xs p) ∙ e)))

  pub length_alter_some : (k : K) (f : Option A → A) (xs : Map K A) (v : A) → find O.cmp k xs ≡ Some v → length (alter O.cmp k f xs) ≡ length xs
  unfolding alter
  length_alter_some k f [] v e = absurd (none≢some (sym (find_nil k) ∙ e))
  length_alter_some k f (x ∷ xs) v e = go (O.cmp k x.0) refl (λ q. length_alter_some k f xs v q)
    where
      go : (o : Ordering) → O.cmp k x.0 ≡ o → (find O.cmp k xs ≡ Some v → length (alter O.cmp k f xs) ≡ length xs)
          → length (alter O.cmp k f (x ∷ xs)) ≡ length (x ∷ xs)
      go Less p ih = absurd (none≢some (sym (find_lt O k x xs p) ∙ e))
      go Equal p ih = rw p refl
      go Greater p ih = rw p (ap suc (ih (sym (find_gt O k x xs p) ∙ e)))

  pub pigeon : (xs : Map K A) → Ascending O.cmp xs → (L : List K) → ((x : K × A) → In x xs → In x.0 L) → length xs ≤ length L
  pigeon [] s L h = omega arith
  pigeon (x ∷ xs) s L h =
      let a = remove_length O x.0 L (h x (inl refl)) in
      let b = pigeon xs s.1 (remove O x.0 L) (λ y m. remove_keeps O x.0 y.0 L
      (λ q. less≢equal (sym (below_all x.0 xs s.0 s.1 y m) ∙ q)) (h y (inr m))) in
      omega arith

-- ---- the revisions of all documents
mine : Id → List (Id × Revision) → List Revision
mine i [] = []
mine i (p ∷ ps) = by_order (order_bytes i p.0) (mine i ps) (p.1 ∷ mine i ps) (mine i ps)

rest : Id → List (Id × Revision) → List (Id × Revision)
rest i [] = []
rest i (p ∷ ps) = by_order (order_bytes i p.0) (p ∷ rest i ps) (rest i ps) (p ∷ rest i ps)

split_length : (i : Id) (ps : List (Id × Revision)) → length ps ≡ length (mine i ps) + length (rest i ps)
unfolding mine rest
split_length i [] = refl
split_length i (p ∷ ps) = go (order_bytes i p.0) refl (split_length i ps)
  where
    go : (o : Ordering) → order_bytes i p.0 ≡ o → length ps ≡ length (mine i ps) + length (rest i ps)
        → length (p ∷ ps) ≡ length (mine i (p ∷ ps)) + length (rest i (p ∷ ps))
    go Less e ih = rw e (omega arith)
    go Equal e ih = rw e (omega arith)
    go Greater e ih = rw e (omega arith)

mine_has : (i : Id) (r : Revision) (ps : List (Id × Revision)) → In (i, r) ps → In r (mine i ps)
unfolding mine
mine_has i r [] m = absurd m
mine_has i r (p ∷ ps) m = go (order_bytes i p.0) refl m (λ t. mine_has i r ps t)
  where
    no : (order_bytes i p.0 ≡ Equal → ⊥) → (i, r) ≡ p → ⊥
    no n q = n (subst (λ (z : Id × Revision). order_bytes i z.0 ≡ Equal) q (bytes_order.self i))

    go : (o : Ordering) → order_bytes i p.0 ≡ o → In (i, r) (p ∷ ps) → (In (i, r) ps → In r (mine i ps)) → In r (mine i (p ∷ ps))
    go Less e (inl q) ih = absurd (no (λ t. less≢equal (sym e ∙ t)) q)
    go Less e (inr t) ih = rw e (ih t)
    go Equal e (inl q) ih = rw e (inl (ap (λ (z : Id × Revision). z.1) q))
    go Equal e (inr t) ih = rw e (inr (ih t))
    go Greater e (inl q) ih = absurd (no (λ t. equal≢greater (sym t ∙ e)) q)
    go Greater e (inr t) ih = rw e (ih t)

rest_has : (i j : Id) (r : Revision) (ps : List (Id × Revision)) → (order_bytes i j ≡ Equal → ⊥) → In (j, r) ps → In (j, r) (rest i ps)
unfolding rest
rest_has i j r [] n m = absurd m
rest_has i j r (p ∷ ps) n m = go (order_bytes i p.0) refl m (λ t. rest_has i j r ps n t)
  where
    go : (o : Ordering) → order_bytes i p.0 ≡ o → In (j, r) (p ∷ ps) → (In (j, r) ps → In (j, r) (rest i ps)) → In (j, r) (rest i (p ∷ ps))
    go Less e (inl q) ih = rw e (inl q)
    go Less e (inr t) ih = rw e (inr (ih t))
    go Equal e (inl q) ih = absurd (n (subst (λ (z : Id × Revision). order_bytes i z.0 ≡ Equal) (sym q) e))
    go Equal e (inr t) ih = rw e (ih t)
    go Greater e (inl q) ih = rw e (inl q)
    go Greater e (inr t) ih = rw e (inr (ih t))

pub total_fits : (ds : Map Id Document) → Ascending order_bytes ds → ((d : Id × Document) → In d ds → Ascending order_rev d.1.tree)
    → (L : List (Id × Revision)) → ((d : Id × Document) → In d ds → (e : Revision × _) → In e d.1.tree → In (d.0, e.0) L) → revisions_held ds ≤ length L
unfolding revisions_held
total_fits [] s k L h = omega arith
total_fits (d ∷ ds) s k L h =
    let a = split_length d.0 L in
    let b = pigeon rev_order d.1.tree (k d (inl refl)) (mine d.0 L) (λ e m. mine_has d.0 e.0 L (h d (inl refl) e m)) in
    let c = total_fits ds s.1 (λ x m. k x (inr m)) (rest d.0 L)
    (λ x m e i. rest_has d.0 x.0 e.0 L (λ q. less≢equal (sym (below_all bytes_order d.0 ds s.0 s.1 x m) ∙ q)) (h x (inr m) e i)) in
    omega arith

-- ---- sums over a map
module _ {K A : Type 0} (g : A → ℕ) where
  unfoldable pub sum : Map K A → ℕ
  sum [] = 0
  sum (x ∷ xs) = g x.1 + sum xs

abbrev pub on : {A : Type 0} → (A → ℕ) → Option A → ℕ
on g None = 0
on g (Some a) = g a

module _ {K A : Type 0} (O : TotalOrder K) (g : A → ℕ) where
  pub sum_alter : (k : K) (f : Option A → A) (xs : Map K A) → sum g (alter O.cmp k f xs) + on g (find O.cmp k xs) ≡ sum g xs + g (f (find O.cmp k xs))
  unfolding sum alter find
  sum_alter k f [] = omega arith
  sum_alter k f (x ∷ xs) = go (O.cmp k x.0) refl (sum_alter k f xs)
    where
      go : (o : Ordering) → O.cmp k x.0 ≡ o → sum g (alter O.cmp k f xs) + on g (find O.cmp k xs) ≡ sum g xs + g (f (find O.cmp k xs))
          → sum g (alter O.cmp k f (x ∷ xs)) + on g (find O.cmp k (x ∷ xs)) ≡ sum g (x ∷ xs) + g (f (find O.cmp k (x ∷ xs)))
      go Less e ih = rw e (omega arith)
      go Equal e ih = rw e (omega arith)
      go Greater e ih = rw e (omega arith)

  -- the same at a known answer
  pub sum-at : (k : K) (f : Option A → A) (xs : Map K A) (o : Option A) → find O.cmp k xs ≡ o
      → sum g (alter O.cmp k f xs) + on g o ≡ sum g xs + g (f o)
  sum-at k f xs o e = rw e at (sum_alter k f xs)
