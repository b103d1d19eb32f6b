-- The leaves of a tree as a list, and its winner: the leaf that none is above. Assumes nothing.
use mathlib.Core.Path.{◌≡◌, refl, sym, ap, ◌∙◌, subst}
use Rattle.std.specs.declared.cmp.Ordering.TheVariants.{Less, Equal, Greater}
use Rattle.std.specs.declared.cmp.Ordering.{Ordering}
use mathlib.Core.List.{List, [], ◌∷◌, ◌++◌}
use mathlib.Core.Logic.{◌⊎◌, inl, inr, ◌↔◌}
use Rattle.std.specs.Prelude.{Option, None, Some}
use Prim.Native.Nat.{ℕ}
use Rattle.rules.specs.declared.Content.{Content}
use Rattle.rules.specs.declared.Revision.{Revision}
use Rattle.rules.specs.Choice.{maybe, pick}
use Rattle.rules.specs.Map.{find, Ascending}
use Rattle.rules.specs.Order.{order_bytes, order_rev, is_less}
use Rattle.rules.specs.Read.{LeafOf, leaf_in, leaves, rank, order_leaf, higher, highest, winner}
use Rattle.rules.specs.Replica.{Node, Tree, HasContent}
use Rattle.rules.specs.Union.{In}
use Rattle.rules.proofs.OrderLaws.{bytes_order, rev_order, no_less_self, rev_path}
use Rattle.rules.proofs.MapLaws.{none≢some, some_inj}
use Rattle.union.specs.Said.{Descending}
use Rattle.union.proofs.Lists.{in_cases, in_left, in_right}
use Rattle.union.proofs.Trees.{Entry}
use Rattle.union.proofs.Count.{below_all, find_in, in_find}

abbrev pub leaf_of : Revision → Content → LeafOf
leaf_of v c = record { rev = v; content = c }

leaf_out : (x : Entry) (o : Option Content) → x.1.content ≡ o → (a : LeafOf) → In a (maybe [] (λ c. leaf_of x.0 c ∷ []) o)
    → (x.0 ≡ a.rev) × (x.1.content ≡ Some a.content)
leaf_out x None e a m = absurd m
leaf_out x (Some c) e a (inl q) = (ap (λ (z : LeafOf). z.rev) (sym q), e ∙ ap Some (ap (λ (z : LeafOf). z.content) (sym q)))
leaf_out x (Some c) e a (inr m) = absurd m

pub leaves_out : (t : Tree) (a : LeafOf) → In a (leaves t) → (x : Entry) × In x t × (x.0 ≡ a.rev) × (x.1.content ≡ Some a.content)
unfolding leaves
leaves_out [] a m = absurd m
leaves_out (x ∷ t) a m = go (in_cases a (leaves t) (leaf_in x) m) (λ k. leaves_out t a k)
  where
    go : In a (leaves t) ⊎ In a (leaf_in x) → (In a (leaves t) → (x : Entry) × In x t × (x.0 ≡ a.rev) × (x.1.content ≡ Some a.content))
        → (y : Entry) × In y (x ∷ t) × (y.0 ≡ a.rev) × (y.1.content ≡ Some a.content)
    go (inl k) ih = let u = ih k in (u.0, inr u.1, u.2, u.3)
    go (inr k) ih = let u = leaf_out x x.1.content refl a k in (x, inl refl, u.0, u.1)

leaves_in_lem : (t : Tree) (x : Entry) (c : Content) → In x t → x.1.content ≡ Some c → In (leaf_of x.0 c) (leaves t)
unfolding leaves
leaves_in_lem [] x c m e = absurd m
leaves_in_lem (y ∷ t) x c (inl q) e =
    in_right (leaf_of x.0 c) (leaves t) (leaf_in y)
    (rw (ap (λ (z : Entry). z.1.content) (sym q) ∙ e) (inl (ap (λ (z : Entry). leaf_of z.0 c) q)))
leaves_in_lem (y ∷ t) x c (inr m) e = in_left (leaf_of x.0 c) (leaves t) (leaf_in y) (leaves_in_lem t x c m e)

module _ (t : Tree) (s : Ascending order_rev t) where
  pub leaf_content : (a : LeafOf) → In a (leaves t) → HasContent t a.rev a.content
  leaf_content a m =
      let u = leaves_out t a m in
      (u.0.1, subst (λ (v : Revision). find order_rev v t ≡ Some u.0.1) u.2 (in_find rev_order t s u.0 u.1), u.3)

  pub content_leaf : (a : LeafOf) → HasContent t a.rev a.content → In a (leaves t)
  content_leaf a h = leaves_in_lem t (a.rev, h.0) a.content (find_in rev_order t a.rev h.0 h.1) h.2

  -- one leaf for a revision
  pub leaf_one : (a b : LeafOf) → In a (leaves t) → In b (leaves t) → a.rev ≡ b.rev → a ≡ b
  leaf_one a b m k e =
      let p = leaf_content a m in
      let q = leaf_content b k in
      let n : p.0 ≡ q.0 = some_inj (sym p.1 ∙ (ap (λ (v : Revision). find order_rev v t) e ∙ q.1)) in
      let c : a.content ≡ b.content = some_inj (sym p.2 ∙ (ap (λ (z : Node). z.content) n ∙ q.2)) in
      λ i. record { rev = e i; content = c i }

-- ---- their order

descend_end : (xs ys : List LeafOf) → Descending xs → Descending ys → ((a b : LeafOf) → In a xs → In b ys → order_rev b.rev a.rev ≡ Less) → Descending (xs ++ ys)
descend_end [] ys d e h = e
descend_end (x ∷ xs) ys d e h = (top, descend_end xs ys d.1 e (λ a b m k. h a b (inr m) k))
  where
    top : (b : LeafOf) → In b (xs ++ ys) → order_rev b.rev x.rev ≡ Less
    top b m = elim (in_cases b xs ys m) [ inl k ↦ d.0 b k | inr k ↦ h x b (inl refl) k ]

one_descends : (v : Revision) (o : Option Content) → Descending (maybe [] (λ c. leaf_of v c ∷ []) o)
one_descends v None = tt
one_descends v (Some c) = (λ b m. absurd m, tt)

pub leaves_descend : (t : Tree) → Ascending order_rev t → Descending (leaves t)
unfolding leaves
leaves_descend [] s = tt
leaves_descend (x ∷ t) s =
    descend_end (leaves t) (leaf_in x) (leaves_descend t s.1) (one_descends x.0 x.1.content)
    (λ a b m k. let u = leaves_out t a m in
    let v = leaf_out x x.1.content refl b k in
    subst (λ (z : Revision). order_rev z a.rev ≡ Less) v.0
    (subst (λ (z : Revision). order_rev x.0 z ≡ Less) u.2 (below_all rev_order x.0 t s.0 s.1 u.0 u.1)))

-- ---- the highest of a list

-- a leaf compares as this list of numbers
abbrev key : LeafOf → List ℕ
key a = rank a.content ∷ a.rev.number.0 ∷ a.rev.hash

key_order : (a b : LeafOf) → order_leaf a b ≡ order_bytes (key a) (key b)
unfolding order_leaf order_rev order_bytes
key_order a b = refl

leaf_self : (a : LeafOf) → order_leaf a a ≡ Less → ⊥
leaf_self a e = no_less_self bytes_order (key a) (sym (key_order a a) ∙ e)

leaf_trans : (a b c : LeafOf) → order_leaf a b ≡ Less → order_leaf b c ≡ Less → order_leaf a c ≡ Less
leaf_trans a b c p q = key_order a c ∙ bytes_order.trans (key a) (key b) (key c) (sym (key_order a b) ∙ p) (sym (key_order b c) ∙ q)

leaf_turn : (a b : LeafOf) → order_leaf a b ≡ Greater → order_leaf b a ≡ Less
leaf_turn a b e = key_order b a ∙ bytes_order.turn (key a) (key b) (sym (key_order a b) ∙ e)

leaf_key : (a b : LeafOf) → order_leaf a b ≡ Equal → key a ≡ key b
leaf_key a b e = bytes_order.same (key a) (key b) (sym (key_order a b) ∙ e)

leaf_like : (a b c : LeafOf) → order_leaf a b ≡ Equal → order_leaf b c ≡ order_leaf a c
leaf_like a b c e = key_order b c ∙ (ap (λ (k : List ℕ). order_bytes k (key c)) (sym (leaf_key a b e)) ∙ sym (key_order a c))

pub leaf_rev : (a b : LeafOf) → order_leaf a b ≡ Equal → a.rev ≡ b.rev
leaf_rev a b e = let k = leaf_key a b e in rev_path a.rev b.rev (cc) (cc)

highest_some : (ls : List LeafOf) (b : LeafOf) → In b ls → (m : LeafOf) × (highest ls ≡ Some m)
unfolding highest
highest_some [] b i = absurd i
highest_some (a ∷ ls) b i = (higher a (highest ls), refl)

pub highest_in : (ls : List LeafOf) (m : LeafOf) → highest ls ≡ Some m → In m ls
unfolding highest
highest_in [] m e = absurd (none≢some e)
highest_in (a ∷ ls) m e = go (highest ls) refl (λ n q. highest_in ls n q)
  where
    go : (o : Option LeafOf) → highest ls ≡ o → ((n : LeafOf) → highest ls ≡ Some n → In n ls) → In m (a ∷ ls)
    go None q ih = inl (some_inj (sym e ∙ ap (λ z. Some (higher a z)) q))
    go (Some n) q ih = pickd (order_leaf a n) (some_inj (sym e ∙ ap (λ z. Some (higher a z)) q))
      where
        pickd : (o : Ordering) → m ≡ pick (is_less o) n a → In m (a ∷ ls)
        pickd Less p = inr (subst (λ (z : LeafOf). In z ls) (sym p) (ih n q))
        pickd Equal p = inl p
        pickd Greater p = inl p

highest_top : (ls : List LeafOf) (m : LeafOf) → highest ls ≡ Some m → (b : LeafOf) → In b ls → order_leaf m b ≡ Less → ⊥
unfolding highest
highest_top [] m e b i l = absurd i
highest_top (a ∷ ls) m e b i l = go (highest ls) refl (λ n q k. highest_top ls n q b k) i
  where
    go : (o : Option LeafOf) → highest ls ≡ o → ((n : LeafOf) → highest ls ≡ Some n → In b ls → order_leaf n b ≡ Less → ⊥) → In b (a ∷ ls) → ⊥
    go None q ih (inl k) = leaf_self a (subst (λ (z : LeafOf). order_leaf z a ≡ Less) (some_inj (sym e ∙ ap (λ z. Some (higher a z)) q)) (subst (λ (z : LeafOf). order_leaf m z ≡ Less) k l))
    go None q ih (inr k) = let h = highest_some ls b k in none≢some (sym q ∙ h.1)
    go (Some n) q ih k = by (order_leaf a n) refl (some_inj (sym e ∙ ap (λ z. Some (higher a z)) q)) k
      where
        by : (o : Ordering) → order_leaf a n ≡ o → m ≡ pick (is_less (order_leaf a n)) n a → In b (a ∷ ls) → ⊥
        by Less f p (inl k) =
            leaf_self a (leaf_trans a n a f (subst (λ (z : LeafOf). order_leaf z a ≡ Less) (rw f at p) (subst (λ (z : LeafOf). order_leaf m z ≡ Less) k l)))
        by Less f p (inr k) = ih n q k (subst (λ (z : LeafOf). order_leaf z b ≡ Less) (rw f at p) l)
        by Equal f p (inl k) = leaf_self a (subst (λ (z : LeafOf). order_leaf z a ≡ Less) (rw f at p) (subst (λ (z : LeafOf). order_leaf m z ≡ Less) k l))
        by Equal f p (inr k) = ih n q k (leaf_like a n b f ∙ subst (λ (z : LeafOf). order_leaf z b ≡ Less) (rw f at p) l)
        by Greater f p (inl k) = leaf_self a (subst (λ (z : LeafOf). order_leaf z a ≡ Less) (rw f at p) (subst (λ (z : LeafOf). order_leaf m z ≡ Less) k l))
        by Greater f p (inr k) = ih n q k (leaf_trans n a b (leaf_turn a n f) (subst (λ (z : LeafOf). order_leaf z b ≡ Less) (rw f at p) l))

-- ---- the winner

-- a leaf that no leaf is above
abbrev pub Top : Tree → LeafOf → Type 0
Top t a =
    HasContent t a.rev a.content
    × ((b : LeafOf) → HasContent t b.rev b.content → order_leaf a b ≡ Less → ⊥)

pub winner_top : (t : Tree) → Ascending order_rev t → (a : LeafOf) → (winner t ≡ Some a) ↔ Top t a
unfolding winner
winner_top t s a = (there, back)
  where
    there : highest (leaves t) ≡ Some a → Top t a
    there e = (
      leaf_content t s a (highest_in (leaves t) a e),
      λ b h l. highest_top (leaves t) a e b (content_leaf t s b h) l,
    )

    back : Top t a → highest (leaves t) ≡ Some a
    back h =
        let i = content_leaf t s a h.0 in
        let m = highest_some (leaves t) a i in
        let j = highest_in (leaves t) m.0 m.1 in
        m.1 ∙ ap Some (go m.0 j m.1 i (order_leaf a m.0) refl)
      where
        go : (m : LeafOf) → In m (leaves t) → highest (leaves t) ≡ Some m → In a (leaves t) → (o : Ordering) → order_leaf a m ≡ o → m ≡ a
        go m j e i Less q = absurd (h.1 m (leaf_content t s m j) q)
        go m j e i Equal q = sym (leaf_one t s a m i j (leaf_rev a m q))
        go m j e i Greater q = absurd (highest_top (leaves t) m e a i (leaf_turn a m q))
