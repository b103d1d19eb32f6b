-- A document's conflicts are one fewer than its leaves. Assumes nothing.
use mathlib.Core.Path.{◌≡◌, refl, sym, ap, ◌∙◌}
use Rattle.std.specs.declared.cmp.Ordering.TheVariants.{Less, Equal, Greater}
use Rattle.std.specs.declared.cmp.Ordering.{Ordering}
use mathlib.Core.List.{List, [], ◌∷◌, ◌++◌}
use mathlib.Core.Logic.{◌⊎◌, inl, inr}
use Rattle.std.specs.Prelude.{Option, None, Some}
use Prim.Native.Nat.{suc, ◌+◌}
use native.Mathlib.Omega.{arith}
use lib.ListN.{length}
use Rattle.rules.specs.declared.Content.{Content}
use Rattle.rules.specs.declared.Revision.{Revision}
use Rattle.rules.specs.Choice.{maybe, pick}
use Rattle.rules.specs.Map.{Ascending}
use Rattle.rules.specs.Order.{order_rev, is_equal, same_rev}
use Rattle.rules.specs.Read.{LeafOf, leaf_in, leaves, winner, not_at, conflicts}
use Rattle.rules.specs.Replica.{Tree, IsTree}
use Rattle.rules.specs.Union.{In}
use Rattle.rules.proofs.OrderLaws.{rev_order, less≢equal, order_rev_same}
use Rattle.union.proofs.Count.{below_all}
use Rattle.union.proofs.Lists.{in_cases}
use Rattle.union.proofs.Winners.{leaf_of, leaves_out, highest_in}
use Rattle.reads.proofs.TreeLaws.{has_winner}

-- ---- the winner is among the leaves once

-- no two leaves have the same revision
abbrev Apart : List LeafOf → Type 0
Apart [] = Unit {0}
Apart (a ∷ ls) = ((b : LeafOf) → In b ls → a.rev ≡ b.rev → ⊥) × Apart ls

apart_append : (xs ys : List LeafOf) → Apart xs → Apart ys → ((a b : LeafOf) → In a xs → In b ys → a.rev ≡ b.rev → ⊥) → Apart (xs ++ ys)
apart_append [] ys p q f = q
apart_append (x ∷ xs) ys p q f = (other, apart_append xs ys p.1 q (λ a b m k. f a b (inr m) k))
  where
    other : (b : LeafOf) → In b (xs ++ ys) → x.rev ≡ b.rev → ⊥
    other b m e = go (in_cases b xs ys m)
      where
        go : In b xs ⊎ In b ys → ⊥
        go (inl k) = p.0 b k e
        go (inr k) = f x b (inl refl) k e

-- the leaf that an entry is, if any
one_leaf : (v : Revision) (o : Option Content) → Apart (maybe [] (λ c. leaf_of v c ∷ []) o)
one_leaf v None = tt
one_leaf v (Some c) = (λ b m e. m, tt)

leaf_rev : (v : Revision) (o : Option Content) (a : LeafOf) → In a (maybe [] (λ c. leaf_of v c ∷ []) o) → a.rev ≡ v
leaf_rev v None a m = absurd m
leaf_rev v (Some c) a (inl e) = ap (λ (z : LeafOf). z.rev) e
leaf_rev v (Some c) a (inr m) = absurd m

leaves_apart : (t : Tree) → Ascending order_rev t → Apart (leaves t)
unfolding leaves
leaves_apart [] s = tt
leaves_apart (x ∷ t) s = apart_append (leaves t) (leaf_in x) (leaves_apart t s.1) (one_leaf x.0 x.1.content) other
  where
    other : (a b : LeafOf) → In a (leaves t) → In b (leaf_in x) → a.rev ≡ b.rev → ⊥
    other a b m k e =
        let u = leaves_out t a m in
        let q : x.0 ≡ u.0.0 = sym (u.2 ∙ (e ∙ leaf_rev x.0 x.1.content b k)) in
        less≢equal (sym (below_all rev_order x.0 t s.0 s.1 u.0 u.1) ∙ (ap (order_rev x.0) (sym q) ∙ rev_order.self x.0))

not_at_none : (v : Revision) (ls : List LeafOf) → ((b : LeafOf) → In b ls → v ≡ b.rev → ⊥) → not_at v ls ≡ ls
unfolding not_at same_rev
not_at_none v [] f = refl
not_at_none v (a ∷ ls) f = go (order_rev v a.rev) refl (not_at_none v ls (λ b m. f b (inr m)))
  where
    go : (o : Ordering) → order_rev v a.rev ≡ o → not_at v ls ≡ ls → pick (is_equal o) (not_at v ls) (a ∷ not_at v ls) ≡ a ∷ ls
    go Less e ih = ap (λ (l : List LeafOf). a ∷ l) ih
    go Equal e ih = absurd (f a (inl refl) (order_rev_same v a.rev e))
    go Greater e ih = ap (λ (l : List LeafOf). a ∷ l) ih

not_at_one : (w : LeafOf) (ls : List LeafOf) → Apart ls → In w ls → suc (length (not_at w.rev ls)) ≡ length ls
unfolding not_at same_rev
not_at_one w [] p m = absurd m
not_at_one w (a ∷ ls) p (inl e) =
    let r : w.rev ≡ a.rev = ap (λ (z : LeafOf). z.rev) e in
    let s : order_rev w.rev a.rev ≡ Equal = ap (order_rev w.rev) (sym r) ∙ rev_order.self w.rev in
    rw s (ap (λ (l : List LeafOf). suc (length l)) (not_at_none w.rev ls (λ b m q. p.0 b m (sym r ∙ q))))
not_at_one w (a ∷ ls) p (inr m) = go (order_rev w.rev a.rev) refl (not_at_one w ls p.1 m)
  where
    go : (o : Ordering) → order_rev w.rev a.rev ≡ o → suc (length (not_at w.rev ls)) ≡ length ls
        → suc (length (pick (is_equal o) (not_at w.rev ls) (a ∷ not_at w.rev ls))) ≡ length (a ∷ ls)
    go Less e ih = ap suc ih
    go Equal e ih = absurd (p.0 w m (sym (order_rev_same w.rev a.rev e)))
    go Greater e ih = ap suc ih

-- "The document's conflicts are its leaves other than the winner": one fewer than the leaves
pub conflict_count : (t : Tree) → IsTree t → length (conflicts t) + 1 ≡ length (leaves t)
unfolding conflicts winner
conflict_count t h =
    let w = has_winner t h in
    rw w.1 (omega (arith, not_at_one w.0 (leaves t) (leaves_apart t h.ascending) (highest_in (leaves t) w.0 w.1)))
