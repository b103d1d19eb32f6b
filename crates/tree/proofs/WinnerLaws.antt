-- The winner of an ascending tree is its last live leaf, else its last leaf. Assumes nothing.
use mathlib.Core.Path.{◌≡◌, refl, sym, ap, ◌∙◌, subst}
use Rattle.std.specs.declared.cmp.Ordering.TheVariants.{Less, Greater}
use mathlib.Core.Bool.{Bool, true, false}
use mathlib.Core.List.{List, [], ◌∷◌, ◌++◌, append-nil}
use Rattle.std.specs.Option.{option_or}
use Rattle.std.specs.Prelude.{Option, None, Some}
use Prim.Native.Nat.{ℕ, ◌+◌, ◌-◌, ◌≤◌, ◌<◌}
use native.Mathlib.Omega.{arith}
use Rattle.rules.specs.declared.Content.{Content}
use Rattle.rules.specs.declared.Content.TheVariants.{Live, Deleted}
use Rattle.rules.specs.declared.Revision.{Revision}
use Rattle.rules.specs.Choice.{pick, or_else, maybe}
use Rattle.rules.specs.Map.{Below, Ascending}
use Rattle.rules.specs.Order.{order_rev, is_less}
use Rattle.rules.specs.Read.{LeafOf, leaf_in, leaves, order_leaf, higher, highest, winner}
use Rattle.rules.specs.Replica.{Node, Tree}
use Rattle.rules.proofs.OrderLaws.{rev_order, order_n_self, less_order_n, turn_less}
use Rattle.octets.proofs.ByteOrderLaws.{greater_order_n}
use Rattle.tree.specs.declared.table.Body.{Body}
use Rattle.tree.specs.Rows.{row_at, rev_at}
use Rattle.tree.specs.Table.{tree_at, tree_in, row_start}
use Rattle.tree.specs.Leaf.{leaf_of}
use Rattle.tree.proofs.TableLaws.{tree_cut}
use Rattle.tree.proofs.LeafLaws.{leaves_append, rev_of_row, rest, rest_none, rest_all, rest_inner, rest_leaf}

-- ---- the first leaf of a kind among leaves

abbrev pub is_live : Content → Bool
is_live (Live n) = true
is_live Deleted = false

abbrev pub is_any : Content → Bool
is_any c = true

unfoldable pub first_with : (Content → Bool) → List LeafOf → Option LeafOf
first_with q [] = None
first_with q (a ∷ more) = pick (q a.content) (Some a) (first_with q more)

first_append : (q : Content → Bool) (l m : List LeafOf) → first_with q (l ++ m) ≡ or_else (first_with q l) (first_with q m)
unfolding first_with
first_append q [] m = refl
first_append q (a ∷ l) m = go (q a.content) (first_append q l m)
  where
    go : (b : Bool) → first_with q (l ++ m) ≡ or_else (first_with q l) (first_with q m)
        → pick b (Some a) (first_with q (l ++ m)) ≡ or_else (pick b (Some a) (first_with q l)) (first_with q m)
    go true h = refl
    go false h = h

some_not_none : {A : Type 0} (a : A) → ◌≡◌ {A = Option A} (Some a) None → ⊥
some_not_none a e = let z : ◌≡◌ {A = ℕ} 0 1 = cc in omega arith

-- ---- leaves of an ascending tree descend

-- each is above v
abbrev Over : Revision → List LeafOf → Type 0
Over v [] = Unit {0}
Over v (a ∷ l) = (order_rev a.rev v ≡ Greater) × Over v l

-- each is below v
abbrev Under : Revision → List LeafOf → Type 0
Under v [] = Unit {0}
Under v (a ∷ l) = (order_rev v a.rev ≡ Greater) × Under v l

abbrev Descending : List LeafOf → Type 0
Descending [] = Unit {0}
Descending (a ∷ l) = Under a.rev l × Descending l

over_append : (v : Revision) (l m : List LeafOf) → Over v l → Over v m → Over v (l ++ m)
over_append v [] m p q = q
over_append v (a ∷ l) m p q = (p.0, over_append v l m p.1 q)

over_leaf : (v : Revision) (x : Revision × Node) (c : Option Content) → order_rev v x.0 ≡ Less → Over v (maybe [] (λ d. record { rev = x.0; content = d } ∷ []) c)
over_leaf v x None e = tt
over_leaf v x (Some c) e = (turn_less rev_order v x.0 e, tt)

below_trans : (v : Revision) (x : Revision × Node) (t : Tree) → order_rev v x.0 ≡ Less → Below order_rev x.0 t → Below order_rev v t
below_trans v x [] e b = tt
below_trans v x (y ∷ t) e b = rev_order.trans v x.0 y.0 e b

over_leaves : (v : Revision) (t : Tree) → Below order_rev v t → Ascending order_rev t → Over v (leaves t)
unfolding leaves
over_leaves v [] b a = tt
over_leaves v (x ∷ t) b a =
    over_append v (leaves t) (leaf_in x) (over_leaves v t (below_trans v x t b a.0) a.1) (over_leaf v x x.1.content b)

under_snoc : (v : Revision) (l : List LeafOf) (b : LeafOf) → Under v l → order_rev v b.rev ≡ Greater → Under v (l ++ (b ∷ []))
under_snoc v [] b u e = (e, tt)
under_snoc v (a ∷ l) b u e = (u.0, under_snoc v l b u.1 e)

descending_snoc : (l : List LeafOf) (b : LeafOf) → Descending l → Over b.rev l → Descending (l ++ (b ∷ []))
descending_snoc [] b d o = (tt, tt)
descending_snoc (a ∷ l) b d o = (under_snoc a.rev l b d.0 o.0, descending_snoc l b d.1 o.1)

descending_leaf : (l : List LeafOf) (x : Revision × Node) (c : Option Content) → Descending l → Over x.0 l → Descending (l ++ maybe [] (λ d. record { rev = x.0; content = d } ∷ []) c)
descending_leaf l x None d o = subst Descending (sym (append-nil l)) d
descending_leaf l x (Some c) d o = descending_snoc l (record { rev = x.0; content = c }) d o

descends : (t : Tree) → Ascending order_rev t → Descending (leaves t)
unfolding leaves
descends [] a = tt
descends (x ∷ t) a = descending_leaf (leaves t) x x.1.content (descends t a.1) (over_leaves x.0 t a.0 a.1)

-- ---- the highest of descending leaves

-- what stands first stays against what is below it, unless that is live and it is not
live_stays : (a : LeafOf) (n : ℕ) (b : LeafOf) → a.content ≡ Live n → order_rev a.rev b.rev ≡ Greater → pick (is_less (order_leaf a b)) b a ≡ a
unfolding order_leaf
live_stays a n b e o = go b.content refl
  where
    go : (c : Content) → b.content ≡ c → pick (is_less (order_leaf a b)) b a ≡ a
    go (Live m) f = rw (e, f, order_n_self 1, o)
    go Deleted f = rw (e, f, greater_order_n 1 0 (omega arith))

deleted_stays : (a b : LeafOf) → a.content ≡ Deleted → b.content ≡ Deleted → order_rev a.rev b.rev ≡ Greater → pick (is_less (order_leaf a b)) b a ≡ a
unfolding order_leaf
deleted_stays a b e f o = rw (e, f, order_n_self 0, o)

live_wins : (a b : LeafOf) (n : ℕ) → a.content ≡ Deleted → b.content ≡ Live n → pick (is_less (order_leaf a b)) b a ≡ b
unfolding order_leaf
live_wins a b n e f = rw (e, f, less_order_n 0 1 (omega arith))

first_under : (q : Content → Bool) (v : Revision) (l : List LeafOf) (b : LeafOf) → Under v l → first_with q l ≡ Some b → order_rev v b.rev ≡ Greater
unfolding first_with
first_under q v [] b u e = absurd (some_not_none b (sym e))
first_under q v (a ∷ l) b u e = go (q a.content) e (λ p. first_under q v l b u.1 p)
  where
    go : (r : Bool) → pick r (Some a) (first_with q l) ≡ Some b → (first_with q l ≡ Some b → order_rev v b.rev ≡ Greater) → order_rev v b.rev ≡ Greater
    go true p f = let z : a ≡ b = cc in rw z at u.0
    go false p f = f p

first_kind : (q : Content → Bool) (l : List LeafOf) (b : LeafOf) → first_with q l ≡ Some b → q b.content ≡ true
unfolding first_with
first_kind q [] b e = absurd (some_not_none b (sym e))
first_kind q (a ∷ l) b e = go (q a.content) refl e (λ p. first_kind q l b p)
  where
    go : (r : Bool) → q a.content ≡ r → pick r (Some a) (first_with q l) ≡ Some b → (first_with q l ≡ Some b → q b.content ≡ true) → q b.content ≡ true
    go true k p f = let z : a ≡ b = cc in rw z at k
    go false k p f = f p

-- where none is live, the first is deleted
none_live : (l : List LeafOf) (b : LeafOf) → first_with is_live l ≡ None → first_with is_any l ≡ Some b → b.content ≡ Deleted
unfolding first_with
none_live [] b e f = absurd (some_not_none b (sym f))
none_live (a ∷ l) b e f = go a.content refl e
  where
    go : (c : Content) → a.content ≡ c → pick (is_live c) (Some a) (first_with is_live l) ≡ None → b.content ≡ Deleted
    go (Live n) k p = absurd (some_not_none a p)
    go Deleted k p = let z : a ≡ b = cc in rw z at k

live_is : (c : Content) → is_live c ≡ true → (n : ℕ) × (c ≡ Live n)
live_is (Live n) e = (n, refl)
live_is Deleted e = let z : ◌≡◌ {A = ℕ} 0 1 = cc in absurd (omega arith)

-- a in front of leaves below it
front : (a : LeafOf) (l : List LeafOf) → Under a.rev l
    → higher a (or_else (first_with is_live l) (first_with is_any l)) ≡ maybe a (λ b. b) (pick (is_live a.content) (Some a) (first_with is_live l))
front a l u = by_content a.content refl
  where
    low : (q : Content → Bool) (b : LeafOf) → first_with q l ≡ Some b → order_rev a.rev b.rev ≡ Greater
    low q b e = first_under q a.rev l b u e

    live_any : (n : ℕ) → a.content ≡ Live n → (o : Option LeafOf) → first_with is_any l ≡ o → higher a o ≡ a
    live_any n k None e = refl
    live_any n k (Some b) e = live_stays a n b k (low is_any b e)

    live : (n : ℕ) → a.content ≡ Live n → (o : Option LeafOf) → first_with is_live l ≡ o → higher a (or_else o (first_with is_any l)) ≡ a
    live n k None e = live_any n k (first_with is_any l) refl
    live n k (Some b) e = live_stays a n b k (low is_live b e)

    dead_any : a.content ≡ Deleted → first_with is_live l ≡ None → (o : Option LeafOf) → first_with is_any l ≡ o → higher a o ≡ a
    dead_any k z None e = refl
    dead_any k z (Some b) e = deleted_stays a b k (none_live l b z e) (low is_any b e)

    dead : a.content ≡ Deleted → (o : Option LeafOf) → first_with is_live l ≡ o → higher a (or_else o (first_with is_any l)) ≡ maybe a (λ b. b) o
    dead k None e = dead_any k e (first_with is_any l) refl
    dead k (Some b) e = let m = live_is b.content (first_kind is_live l b e) in live_wins a b m.0 k m.1

    by_content : (c : Content) → a.content ≡ c → higher a (or_else (first_with is_live l) (first_with is_any l)) ≡ maybe a (λ b. b) (pick (is_live c) (Some a) (first_with is_live l))
    by_content (Live n) k = live n k (first_with is_live l) refl
    by_content Deleted k = dead k (first_with is_live l) refl

highest_first : (l : List LeafOf) → Descending l → highest l ≡ or_else (first_with is_live l) (first_with is_any l)
unfolding highest first_with
highest_first [] d = refl
highest_first (a ∷ l) d = rw (highest_first l d.1) (ap Some (front a l d.0) ∙ go (is_live a.content) (first_with is_live l))
  where
    go : (b : Bool) (o : Option LeafOf) → Some (maybe a (λ b. b) (pick b (Some a) o)) ≡ or_else (pick b (Some a) o) (Some a)
    go true o = refl
    go false None = refl
    go false (Some b) = refl

winner_first : (t : Tree) → Ascending order_rev t → winner t ≡ or_else (first_with is_live (leaves t)) (first_with is_any (leaves t))
unfolding winner
winner_first t a = highest_first (leaves t) (descends t a)

-- ---- the rows from the end

-- the leaf in a row that was found, which has this content
abbrev pub last_says : Body → List ℕ → Option ℕ → Content → Option LeafOf
last_says b s None c = None
last_says b s (Some i) c = Some (leaf_of (rev_at (row_start b i) s) c)

abbrev pub LastWithin : Body → Option ℕ → Type 0
LastWithin b None = Unit {0}
LastWithin b (Some i) = i < b.rows

pub first_none : (q : Content → Bool) (b : Body) (s : List ℕ) → first_with q (leaves (rest b b.rows s)) ≡ None
unfolding first_with leaves
first_none q b s = rw (rest_none b s)

module _ (b : Body) (i j : ℕ) (s : List ℕ) (e : i ≡ j + 1) (h : i ≤ b.rows) where
  abbrev left : ℕ → List LeafOf
  left k = leaves (rest b k s)

  abbrev kind : Option Content
  kind = (row_at (row_start b j) s).content

  pub first_inner : (q : Content → Bool) → kind ≡ None → first_with q (left j) ≡ first_with q (left i)
  first_inner q k = ap (first_with q) (rest_inner b i j s e h k)

  first_leaf : (q : Content → Bool) (c : Content) → kind ≡ Some c
      → first_with q (left j) ≡ or_else (first_with q (left i)) (pick (q c) (last_says b s (Some j) c) None)
  unfolding first_with rev_at
  first_leaf q c k =
      ap (first_with q) (rest_leaf b i j s e h c k)
      ∙ (first_append q (left i) (leaf_of (row_at (row_start b j) s).rev c ∷ []) ∙ rw (rev_of_row (row_start b j) s))

  -- past a deleted leaf none is live, and the first that was found stays
  pub none_live_more : kind ≡ Some Deleted → first_with is_live (left i) ≡ None → first_with is_live (left j) ≡ None
  none_live_more k z = first_leaf is_live Deleted k ∙ rw z

  pub first_kept : (w : Option ℕ) → kind ≡ Some Deleted → last_says b s w Deleted ≡ first_with is_any (left i) → last_says b s (option_or w (Some j)) Deleted ≡ first_with is_any (left j)
  first_kept w k z = go w ∙ (ap (λ (o : Option LeafOf). or_else o (last_says b s (Some j) Deleted)) z ∙ sym (first_leaf is_any Deleted k))
    where
      go : (u : Option ℕ) → last_says b s (option_or u (Some j)) Deleted ≡ or_else (last_says b s u Deleted) (last_says b s (Some j) Deleted)
      go None = refl
      go (Some m) = refl

  -- the first live leaf from the end wins
  pub live_found : (m : ℕ) → Ascending order_rev (tree_in b s) → first_with is_live (left i) ≡ None → kind ≡ Some (Live m)
      → last_says b s (Some j) (Live m) ≡ winner (tree_in b s)
  live_found m a z k =
      let t : Tree = tree_in b s in
      let u : Tree = tree_at b.base j s in
      let here : Option LeafOf = last_says b s (Some j) (Live m) in
      let cut : t ≡ u ++ rest b j s = tree_cut b.base j (b.rows - j) b.rows s (omega arith) in
      let f : first_with is_live (left j) ≡ here = first_leaf is_live (Live m) k ∙ rw z in
      let g : first_with is_live (leaves t) ≡ here
      = ap (λ (v : Tree). first_with is_live (leaves v)) cut
      ∙ (ap (first_with is_live) (leaves_append u (rest b j s)) ∙ (first_append is_live (left j) (leaves u) ∙ rw f)) in
      sym (winner_first t a ∙ rw g)

pub kept_within : (b : Body) (w : Option ℕ) (i : ℕ) → LastWithin b w → i < b.rows → LastWithin b (option_or w (Some i))
kept_within b None i h k = k
kept_within b (Some j) i h k = h

-- with no live leaf, the first that was found wins
pub none_live_left : (b : Body) (i : ℕ) (s : List ℕ) (w : Option ℕ) → i ≡ 0 → Ascending order_rev (tree_in b s) → first_with is_live (leaves (rest b i s)) ≡ None
    → last_says b s w Deleted ≡ first_with is_any (leaves (rest b i s)) → last_says b s w Deleted ≡ winner (tree_in b s)
none_live_left b i s w e a y z =
    let all : rest b i s ≡ tree_in b s = rest_all b i s e in
    let none_live : first_with is_live (leaves (tree_in b s)) ≡ None = rw all at y in
    sym (winner_first (tree_in b s) a ∙ rw none_live (sym (rw all at z)))
