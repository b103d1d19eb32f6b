-- What every document's tree has: a winner, leaves that are known by their content, paths by their parents, and byte
-- forms of one size. Assumes nothing.
use mathlib.Core.Path.{◌≡◌, refl, ap, ◌∙◌}
use mathlib.Core.Bool.{Bool, true, false}
use mathlib.Core.List.{List, [], ◌∷◌, ◌++◌, map}
use mathlib.Core.Logic.{inl, inr}
use Rattle.std.specs.Prelude.{Option, None, Some}
use Prim.Native.Nat.{ℕ, zero, suc, ◌*◌, ◌≤◌, ◌<◌}
use native.Mathlib.Omega.{arith}
use borrow.Author.Tests.{leb-true, leb-false}
use lib.Dec.{leb}
use lib.ListN.{length, length-append}
use Rattle.rules.specs.declared.Content.{Content}
use Rattle.rules.specs.declared.Revision.{Revision}
use Rattle.rules.specs.Bytes.{join}
use Rattle.rules.specs.Choice.{maybe}
use Rattle.rules.specs.Map.{find}
use Rattle.rules.specs.Order.{order_rev}
use Rattle.rules.specs.Read.{LeafOf, leaves, higher, highest, winner, leaf_bytes, ancestry, path_of}
use Rattle.rules.specs.Replica.{Hash, Node, Tree, Known, HasContent, HasChild, IsTree}
use Rattle.rules.specs.Room.{hash_size}
use Rattle.rules.specs.Union.{In}
use Rattle.rules.specs.Write.{parent_in}
use Rattle.rules.proofs.ByteLaws.{Sized, length-join}
use Rattle.rules.proofs.MapLaws.{none≢some}
use Rattle.rules.proofs.OrderLaws.{rev_order}
use Rattle.union.proofs.Count.{in_find, find_in}
use Rattle.union.proofs.Trees.{Entry}
use Rattle.union.proofs.Winners.{leaf_of, leaf_content, content_leaf, winner_top}
use Rattle.store.proofs.StoredLaws.{length-map}
use Rattle.tree.specs.Leaf.{leaf_size}
use Rattle.tree.proofs.LeafLaws.{length_leaf}

-- ---- a winner

-- a row that no row's number is above
top_row : (x : Entry) (t : Tree) → (y : Entry) × In y (x ∷ t) × ((z : Entry) → In z (x ∷ t) → z.0.number.0 ≤ y.0.number.0)
top_row x [] = (x, inl refl, only)
  where
    only : (z : Entry) → In z (x ∷ []) → z.0.number.0 ≤ x.0.number.0
    only z (inl q) = let e : z.0.number.0 ≡ x.0.number.0 = ap (λ (e : Entry). e.0.number.0) q in omega arith
    only z (inr m) = absurd m
top_row x (w ∷ t) = go (top_row w t) (leb x.0.number.0 (top_row w t).0.0.number.0) refl
  where
    go : (r : (y : Entry) × In y (w ∷ t) × ((z : Entry) → In z (w ∷ t) → z.0.number.0 ≤ y.0.number.0)) (b : Bool)
        → leb x.0.number.0 r.0.0.number.0 ≡ b
        → (y : Entry) × In y (x ∷ w ∷ t) × ((z : Entry) → In z (x ∷ w ∷ t) → z.0.number.0 ≤ y.0.number.0)
    go r true e = (r.0, inr r.1, top)
      where
        top : (z : Entry) → In z (x ∷ w ∷ t) → z.0.number.0 ≤ r.0.0.number.0
        top z (inl q) = let n : z.0.number.0 ≡ x.0.number.0 = ap (λ (e : Entry). e.0.number.0) q in let l : x.0.number.0 ≤ r.0.0.number.0 = leb-true _ _ e in omega arith
        top z (inr m) = r.2 z m
    go r false e = (x, inl refl, top)
      where
        top : (z : Entry) → In z (x ∷ w ∷ t) → z.0.number.0 ≤ x.0.number.0
        top z (inl q) = let n : z.0.number.0 ≡ x.0.number.0 = ap (λ (e : Entry). e.0.number.0) q in omega arith
        top z (inr m) = let n = r.2 z m in let l : r.0.0.number.0 < x.0.number.0 = leb-false _ _ e in omega arith

highest_some : (ls : List LeafOf) (b : LeafOf) → In b ls → (a : LeafOf) × (highest ls ≡ Some a)
unfolding highest
highest_some [] b i = absurd i
highest_some (a ∷ ls) b i = (higher a (highest ls), refl)

some_leaf : (t : Tree) (b : LeafOf) → In b (leaves t) → (a : LeafOf) × (winner t ≡ Some a)
unfolding winner
some_leaf t b m = highest_some (leaves t) b m

-- the row with the highest number has no child, so there is a leaf
pub has_winner : (t : Tree) → IsTree t → (a : LeafOf) × (winner t ≡ Some a)
has_winner [] h = absurd (let l = h.some_revision in omega arith)
has_winner (x ∷ t) h = go (top_row x t)
  where
    go : (y : Entry) × In y (x ∷ t) × ((z : Entry) → In z (x ∷ t) → z.0.number.0 ≤ y.0.number.0) → (a : LeafOf) × (winner (x ∷ t) ≡ Some a)
    go r =
        let y = r.0 in
        let f : find order_rev y.0 (x ∷ t) ≡ Some y.1 = in_find rev_order (x ∷ t) h.ascending y r.1 in
        let childless : HasChild (x ∷ t) y.0 → ⊥
        = λ k. let l = h.lower k.0 y.0 k.1 in let n = r.2 (k.0, k.1.0) (find_in rev_order (x ∷ t) k.0 k.1.0 k.1.1) in omega arith in
        let c = (h.leaves y.0).1 ((y.1, f), childless) in
        some_leaf (x ∷ t) (leaf_of y.0 c.0) (content_leaf (x ∷ t) h.ascending (leaf_of y.0 c.0) c.1)

-- the winner is a revision of the tree, with its content
pub winner_content : (t : Tree) → IsTree t → (a : LeafOf) → winner t ≡ Some a → HasContent t a.rev a.content
winner_content t h a e = ((winner_top t h.ascending a).0 e).0

-- ---- leaves

pub leaves_most : (t : Tree) → length (leaves t) ≤ length t
unfolding leaves
leaves_most [] = omega arith
leaves_most (x ∷ t) = go x.1.content (leaves_most t)
  where
    go : (o : Option Content) → length (leaves t) ≤ length t → length (leaves t ++ maybe [] (λ c. leaf_of x.0 c ∷ []) o) ≤ suc (length t)
    go None h = simp length-append (omega arith)
    go (Some c) h = simp length-append (omega arith)

-- "29 bytes each"
pub leaf_size_lem : (t : Tree) → IsTree t → (a : LeafOf) → HasContent t a.rev a.content → length (leaf_bytes a) ≡ leaf_size
leaf_size_lem t h a c = length_leaf a (h.revisions a.rev (c.0, c.1)).size

pub leaves_size : (t : Tree) → IsTree t → length (join (map leaf_bytes (leaves t))) ≡ length (leaves t) * leaf_size
leaves_size t h =
    length-join leaf_size (map leaf_bytes (leaves t)) (each (leaves t) (λ a m. leaf_size_lem t h a (leaf_content t h.ascending a m)))
    ∙ ap (λ (n : ℕ). n * leaf_size) (length-map leaf_bytes (leaves t))
  where
    each : (ls : List LeafOf) → ((a : LeafOf) → In a ls → length (leaf_bytes a) ≡ leaf_size) → Sized leaf_size (map leaf_bytes ls)
    each [] f = tt
    each (a ∷ ls) f = (f a (inl refl), each ls (λ b m. f b (inr m)))

-- ---- paths

module _ (t : Tree) (h : IsTree t) where
  -- "the revision itself, followed by the path of its parent"
  pub path_unfolds : (v : Revision) → Known t v → path_of t v ≡ v.hash ∷ maybe [] (path_of t) (parent_in (find order_rev v t))
  unfolding path_of ancestry
  path_unfolds v k = go v.number.0 refl
    where
      same : (m : ℕ) → v.number.0 ≡ suc m → (o : Option Node) → find order_rev v t ≡ o → (p : Option Revision) → parent_in o ≡ p
          → maybe [] (ancestry m t) p ≡ maybe [] (λ u. ancestry u.number.0 t u) p
      same m e o f None q = refl
      same m e None f (Some p) q = absurd (none≢some q)
      same m e (Some n) f (Some p) q =
          let l = h.lower v p (n, f, q) in
          let z : m ≡ p.number.0 = omega arith in
          ap (λ (k : ℕ). ancestry k t p) z

      go : (n : ℕ) → v.number.0 ≡ n → ancestry n t v ≡ v.hash ∷ maybe [] (λ u. ancestry u.number.0 t u) (parent_in (find order_rev v t))
      go zero e = absurd (let l = (h.revisions v k).least in omega arith)
      go (suc m) e = ap (λ (l : List Hash). v.hash ∷ l) (same m e (find order_rev v t) refl (parent_in (find order_rev v t)) refl)

  -- the path of a parent, if there is one
  parent_sized : (n : ℕ) (v : Revision) → ((u : Revision) → Known t u → Sized hash_size (ancestry n t u)) → Sized hash_size (maybe [] (ancestry n t) (parent_in (find order_rev v t)))
  parent_sized n v ih = go (find order_rev v t) refl
    where
      up : (p : Option Revision) → ((u : Revision) → p ≡ Some u → Known t u) → Sized hash_size (maybe [] (ancestry n t) p)
      up None f = tt
      up (Some u) f = ih u (f u refl)

      go : (o : Option Node) → find order_rev v t ≡ o → Sized hash_size (maybe [] (ancestry n t) (parent_in o))
      go None f = tt
      go (Some m) f = up m.parent (λ u q. h.parents v u (m, f, q))

  ancestry_sized : (n : ℕ) (v : Revision) → Known t v → Sized hash_size (ancestry n t v)
  unfolding ancestry
  ancestry_sized zero v k = tt
  ancestry_sized (suc n) v k = ((h.revisions v k).size, parent_sized n v (λ u l. ancestry_sized n u l))

  -- "16 bytes each"
  pub path_sized : (v : Revision) → Known t v → Sized hash_size (path_of t v)
  unfolding path_of
  path_sized v k = ancestry_sized v.number.0 v k

  pub path_size_lem : (v : Revision) → Known t v → length (join (path_of t v)) ≡ length (path_of t v) * hash_size
  path_size_lem v k = length-join hash_size (path_of t v) (path_sized v k)
