-- A document's rows: they meet the rules on rows exactly if what they hold is a tree. Assumes nothing.
use mathlib.Core.Path.{◌≡◌, refl, sym, ap, ◌∙◌, subst}
use Rattle.std.specs.declared.cmp.Ordering.TheVariants.{Less, Equal, Greater}
use Rattle.std.specs.declared.cmp.Ordering.{Ordering}
use mathlib.Core.Bool.{Bool, true, false, not, ◌||◌}
use mathlib.Core.List.{List, [], ◌∷◌, map}
use Rattle.std.specs.Prelude.{Option, None, Some}
use Prim.Native.Nat.{ℕ, ◌≤◌}
use lib.Dec.{eqb}
use lib.ListN.{length, length-map}
use borrow.Author.Tests.{not-false}
use Rattle.rules.specs.declared.Content.{Content}
use Rattle.rules.specs.declared.Content.TheVariants.{Live, Deleted}
use Rattle.rules.specs.declared.Revision.{Revision}
use Rattle.rules.specs.Choice.{pick, maybe, any}
use Rattle.rules.specs.Faults.{bad_row, row_not_above, bad_rows, is_parent_of, bad_link, bad_links}
use Rattle.rules.specs.Image.{node_in, parent_of_row, kind_of}
use Rattle.rules.specs.Layout.{Row}
use Rattle.rules.specs.Map.{find, Below, Ascending}
use Rattle.rules.specs.Order.{order_rev, is_less, is_equal, same_rev}
use Rattle.rules.specs.Replica.{Node, Tree, Known, HasParent, HasContent, HasChild, IsTree}
use Rattle.rules.proofs.MapLaws.{none≢some, some_inj}
use Rattle.rules.proofs.OrderLaws.{rev_order}
use Rattle.images.proofs.Tests.{true≢false, or_none, or_left, or_right, AllFalse}
use Rattle.images.proofs.Lists.{Each, each_onto, each_from, map-map, map-id}
use Rattle.images.proofs.Members.{any_map, each_find, find_each, any_find, find_any}
use Rattle.images.proofs.Rows.{RowFits, rules_row, row_rules, IsRow, row_for, row_of_node, node_of_row, node_is, fields_rules}

pub is_less_lem : (o : Ordering) → not (is_less o) ≡ false → o ≡ Less
is_less_lem Less e = refl
is_less_lem Equal e = absurd (true≢false e)
is_less_lem Greater e = absurd (true≢false e)

-- ---- the rows by themselves and in their order

-- above the one before, where there is one
abbrev pub Above : Option Revision → Tree → Type 0
Above None t = Unit {0}
Above (Some u) t = Below order_rev u t

not_above_lem : (before : Option Revision) (x : Revision × Node) (t : Tree) → Above before (x ∷ t) → row_not_above before x.0 ≡ false
not_above_lem None x t b = refl
not_above_lem (Some u) x t b = ap (λ (o : Ordering). not (is_less o)) b

pub rows_forth : (before : Option Revision) (t : Tree) → Each IsRow t → Ascending order_rev t → Above before t → AllFalse (bad_rows before (map row_for t))
unfolding bad_rows row_for
rows_forth before [] r s b = tt
rows_forth before (x ∷ t) r s b = (
  or_none (bad_row (row_for x)) (row_not_above before x.0) (rules_row (row_for x) (fields_rules x r.0)) (not_above_lem before x t b),
  rows_forth (Some x.0) t r.1 s.1 s.0,
)

pub record RowsHold (before : Option Revision) (ws : List Row) : Type 0 where
  pub each : Each (λ w. bad_row w ≡ false) ws
  pub ascending : Ascending order_rev (map node_in ws)
  pub above : Above before (map node_in ws)

pub rows_back : (before : Option Revision) (ws : List Row) → AllFalse (bad_rows before ws) → RowsHold before ws
unfolding bad_rows node_in
rows_back before [] h = record { each = tt; ascending = tt; above = nothing before }
  where
    nothing : (b : Option Revision) → Above b []
    nothing None = tt
    nothing (Some u) = tt
rows_back before (w ∷ ws) h = go (rows_back (Some w.rev) ws h.1)
  where
    first : (b : Option Revision) → row_not_above b w.rev ≡ false → Above b (node_in w ∷ map node_in ws)
    first None e = tt
    first (Some u) e = is_less_lem (order_rev u w.rev) e

    go : RowsHold (Some w.rev) ws → RowsHold before (w ∷ ws)
    go r = record {
      each = (or_left (bad_row w) (row_not_above before w.rev) h.0, r.each);
      ascending = (r.above, r.ascending);
      above = first before (or_right (bad_row w) (row_not_above before w.rev) h.0);
    }

-- ---- parents and children

same_self : (v : Revision) → same_rev v v ≡ true
unfolding same_rev
same_self v = ap is_equal (rev_order.self v)

same_is : (u v : Revision) → same_rev u v ≡ true → u ≡ v
unfolding same_rev
same_is u v e = rev_order.same u v (go (order_rev u v) e)
  where
    go : (o : Ordering) → is_equal o ≡ true → o ≡ Equal
    go Less p = absurd (true≢false (sym p))
    go Equal p = refl
    go Greater p = absurd (true≢false (sym p))

row_parent : (x : Revision × Node) → IsRow x → parent_of_row (row_for x) ≡ x.1.parent
unfolding node_in
row_parent x r = ap (λ (y : Revision × Node). y.1.parent) (row_of_node x r)

-- ---- the tests of 26 on a tree's rows

known_test : Tree → Revision → Bool
known_test t p = any (λ (x : Row). same_rev p x.rev) (map row_for t)

child_test : Tree → Revision → Bool
child_test t v = any (is_parent_of v) (map row_for t)

parent_test : Tree → Option Revision → Bool
parent_test t p = maybe false (λ u. not (known_test t u)) p

-- a content where there is a child, or none where there is none
kind_test : Bool → Option Content → Bool
kind_test b c = pick b (not (eqb (kind_of c) 0)) (eqb (kind_of c) 0)

link_tests : (t : Tree) (x : Revision × Node) → IsRow x
    → bad_link (map row_for t) (row_for x) ≡ (parent_test t x.1.parent || kind_test (child_test t x.0) x.1.content)
unfolding bad_link row_for known_test child_test parent_test kind_test
link_tests t x r = ap (λ (p : Option Revision). parent_test t p || kind_test (child_test t x.0) x.1.content) (row_parent x r)

-- what the tests say
module _ (t : Tree) (s : Ascending order_rev t) (rows : Each IsRow t) where
  known_any : (p : Revision) → Known t p → known_test t p ≡ true
  unfolding known_test row_for
  known_any p k =
      any_map row_for (λ (x : Row). same_rev p x.rev) t
      ∙ find_any rev_order (λ x. same_rev p x.0) t p k.0 k.1 (same_self p)

  any_known : (p : Revision) → known_test t p ≡ true → Known t p
  unfolding known_test row_for
  any_known p e =
      let f = any_find rev_order (λ x. same_rev p x.0) t s (sym (any_map row_for (λ (x : Row). same_rev p x.rev) t) ∙ e) in
      (f.1, ap (λ (v : Revision). find order_rev v t) (same_is p f.0 f.3) ∙ f.2)

  parent_test_lem : (v u : Revision) (n : Node) → find order_rev u t ≡ Some n → is_parent_of v (row_for (u, n)) ≡ maybe false (same_rev v) n.parent
  unfolding is_parent_of
  parent_test_lem v u n e = ap (maybe false (same_rev v)) (row_parent (u, n) (each_find rev_order IsRow t rows u n e))

  child_any : (v : Revision) → HasChild t v → child_test t v ≡ true
  unfolding child_test
  child_any v c =
      any_map row_for (is_parent_of v) t
      ∙ find_any rev_order (λ x. is_parent_of v (row_for x)) t c.0 c.1.0 c.1.1
      (parent_test_lem v c.0 c.1.0 c.1.1 ∙ (ap (maybe false (same_rev v)) c.1.2 ∙ same_self v))

  any_child : (v : Revision) → child_test t v ≡ true → HasChild t v
  unfolding child_test
  any_child v e =
      let f = any_find rev_order (λ x. is_parent_of v (row_for x)) t s (sym (any_map row_for (is_parent_of v) t) ∙ e) in
      let q = go f.1.parent (sym (parent_test_lem v f.0 f.1 f.2) ∙ f.3) in
      (f.0, (f.1, f.2, q))
    where
      go : (p : Option Revision) → maybe false (same_rev v) p ≡ true → p ≡ Some v
      go None m = absurd (true≢false (sym m))
      go (Some u) m = ap Some (sym (same_is v u m))

kind_some : (c : Content) → eqb (kind_of (Some c)) 0 ≡ false
kind_some (Live n) = refl
kind_some Deleted = refl

-- ---- a tree and its rows

-- each known revision of a tree is a row
pub tree_rows : (t : Tree) → IsTree t → Each IsRow t
tree_rows t i = find_each rev_order IsRow t i.ascending λ v n e. record {
  rev = i.revisions v (n, e);
  parent = λ p q. i.revisions p (i.parents v p (n, e, q));
  lower = λ p q. i.lower v p (n, e, q);
  content = λ c q. i.contents v c (n, e, q);
}

-- "known parent not in the document, or kind not fitting the children": of a tree's rows none
link_forth : (t : Tree) → IsTree t → (v : Revision) (n : Node) → find order_rev v t ≡ Some n → bad_link (map row_for t) (row_for (v, n)) ≡ false
unfolding parent_test kind_test
link_forth t i v n e =
    link_tests t (v, n) (each_find rev_order IsRow t rows v n e)
    ∙ or_none (parent_test t n.parent) (kind_test (child_test t v) n.content) (parents n.parent refl)
    (kinds (child_test t v) refl n.content refl)
  where
    rows : Each IsRow t
    rows = tree_rows t i

    parents : (p : Option Revision) → n.parent ≡ p → parent_test t p ≡ false
    parents None q = refl
    parents (Some u) q = ap not (known_any t i.ascending rows u (i.parents v u (n, e, q)))

    kinds : (b : Bool) → child_test t v ≡ b → (c : Option Content) → n.content ≡ c → kind_test b c ≡ false
    kinds true p None q = refl
    kinds true p (Some c) q = absurd (((i.leaves v).0 (c, (n, e, q))).1 (any_child t i.ascending rows v p))
    kinds false p None q =
        let f = (i.leaves v).1 ((n, e), λ h. true≢false (sym (child_any t i.ascending rows v h) ∙ p)) in
        let same : n ≡ f.1.0 = some_inj (sym e ∙ f.1.1) in
        absurd (none≢some (sym q ∙ (ap (λ (m : Node). m.content) same ∙ f.1.2)))
    kinds false p (Some c) q = kind_some c

-- the rows of a tree meet the rules 25 and 26
pub tree_forth : (t : Tree) → IsTree t → AllFalse (bad_rows None (map row_for t)) × AllFalse (bad_links (map row_for t))
unfolding bad_links
tree_forth t i =
    let links : Each (λ x. bad_link (map row_for t) (row_for x) ≡ false) t = find_each rev_order (λ x. bad_link (map row_for t) (row_for x) ≡ false) t i.ascending (link_forth t i) in (
      rows_forth None t (tree_rows t i) i.ascending tt,
      each_onto (λ b. b ≡ false) (bad_link (map row_for t)) (map row_for t) (each_onto (λ w. bad_link (map row_for t) w ≡ false) row_for t links),
    )

-- rows that meet 26 are those of a tree
module _ (t : Tree) (s : Ascending order_rev t) (rows : Each IsRow t) (clear : AllFalse (bad_links (map row_for t))) where
  row_at_lem : (v : Revision) (n : Node) → find order_rev v t ≡ Some n → IsRow (v, n)
  row_at_lem v n e = each_find rev_order IsRow t rows v n e

  link_at : (v : Revision) (n : Node) → find order_rev v t ≡ Some n → (parent_test t n.parent || kind_test (child_test t v) n.content) ≡ false
  unfolding bad_links
  link_at v n e =
      let links : Each (λ x. bad_link (map row_for t) (row_for x) ≡ false) t =
      each_from (λ w. bad_link (map row_for t) w ≡ false) row_for t (each_from (λ b. b ≡ false) (bad_link (map row_for t)) (map row_for t) clear) in
      sym (link_tests t (v, n) (row_at_lem v n e)) ∙ each_find rev_order (λ x. bad_link (map row_for t) (row_for x) ≡ false) t links v n e

  parent_known : (v p : Revision) → HasParent t v p → Known t p
  unfolding parent_test
  parent_known v p k =
      let None-bad = or_left (parent_test t k.0.parent) (kind_test (child_test t v) k.0.content) (link_at v k.0 k.1) in
      any_known t s rows p (not-false (known_test t p) (ap (parent_test t) (sym k.2) ∙ None-bad))

  kind_at : (v : Revision) (n : Node) (b : Bool) → find order_rev v t ≡ Some n → child_test t v ≡ b → kind_test b n.content ≡ false
  kind_at v n b e p =
      ap (λ (x : Bool). kind_test x n.content) (sym p)
      ∙ or_right (parent_test t n.parent) (kind_test (child_test t v) n.content) (link_at v n e)

  with_content : (v : Revision) (c : Content) (n : Node) → find order_rev v t ≡ Some n → n.content ≡ Some c → HasChild t v → ⊥
  unfolding kind_test
  with_content v c n e q k =
      let bad = ap not (kind_some c) in
      true≢false (sym bad ∙ (ap (kind_test true) (sym q) ∙ kind_at v n true e (child_any t s rows v k)))

  without_child : (v : Revision) (n : Node) → find order_rev v t ≡ Some n → (HasChild t v → ⊥) → (c : Content) × HasContent t v c
  unfolding kind_test
  without_child v n e k = go (child_test t v) refl n.content refl
    where
      go : (b : Bool) → child_test t v ≡ b → (o : Option Content) → n.content ≡ o → (c : Content) × HasContent t v c
      go true p o q = absurd (k (any_child t s rows v p))
      go false p None q = absurd (true≢false (ap (kind_test false) (sym q) ∙ kind_at v n false e p))
      go false p (Some c) q = (c, (n, e, q))

  tree_from : 1 ≤ length t → IsTree t
  tree_from least = record {
    ascending = s;
    some_revision = least;
    revisions = λ v k. (row_at_lem v k.0 k.1).rev;
    lower = λ v p k. (row_at_lem v k.0 k.1).lower p k.2;
    parents = parent_known;
    leaves = λ v. (λ c. ((c.1.0, c.1.1), with_content v c.0 c.1.0 c.1.1 c.1.2), λ l. without_child v l.0.0 l.0.1 l.1);
    contents = λ v c k. (row_at_lem v k.0 k.1).content c k.2;
  }

-- rows that meet the rules 25 and 26 hold a tree, and are its rows
pub tree_back : (ws : List Row) → Each RowFits ws → 1 ≤ length ws → AllFalse (bad_rows None ws) → AllFalse (bad_links ws)
    → IsTree (map node_in ws) × (map row_for (map node_in ws) ≡ ws)
tree_back ws fits least a b =
    let r = rows_back None ws a in
    let same : map row_for (map node_in ws) ≡ ws = map-map node_in row_for ws ∙ map-id (λ w. row_for (node_in w)) ws (sames ws fits r.each) in
    let some_row : 1 ≤ length (map node_in ws) = subst (λ (n : ℕ). 1 ≤ n) (sym (length-map ws node_in)) least in (
      tree_from (map node_in ws) r.ascending (each_onto IsRow node_in ws (nodes ws fits r.each))
          (subst (λ (l : List Row). AllFalse (bad_links l)) (sym same) b) some_row,
      same,
    )
  where
    sames : (xs : List Row) → Each RowFits xs → Each (λ w. bad_row w ≡ false) xs → Each (λ w. row_for (node_in w) ≡ w) xs
    sames [] f g = tt
    sames (x ∷ xs) f g = (node_of_row x f.0 (row_rules x g.0), sames xs f.1 g.1)

    nodes : (xs : List Row) → Each RowFits xs → Each (λ w. bad_row w ≡ false) xs → Each (λ w. IsRow (node_in w)) xs
    nodes [] f g = tt
    nodes (x ∷ xs) f g = (node_is x f.0 (row_rules x g.0), nodes xs f.1 g.1)
