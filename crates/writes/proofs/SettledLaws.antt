-- A row that the path adds nothing to: how its bytes show it, and that the plan stays as it is. Assumes nothing.
use mathlib.Core.Path.{◌≡◌, refl, sym, ap, ◌∙◌}
use Rattle.std.specs.declared.cmp.Ordering.TheVariants.{Less, Equal, Greater}
use Rattle.std.specs.declared.cmp.Ordering.{Ordering}
use mathlib.Core.Bool.{Bool, true, false, not, ◌&&◌, ◌||◌, true≢false}
use mathlib.Core.List.{List}
use Rattle.std.specs.Prelude.{Option, None, Some}
use Prim.Native.Nat.{ℕ, pred, ◌+◌, ◌-◌, ◌*◌, ◌≤◌, ◌<◌}
use native.Mathlib.Nat.{add-zero}
use native.Mathlib.Numerals.{sub-one}
use native.Mathlib.Omega.{arith}
use lib.Dec.{eqb}
use lib.ListN.{length, get_or}
use borrow.Author.Tests.{eq-eqb, ne_eqb, eqb-false, not-true, lt-ltb, le-ltb}
use Rattle.rules.specs.declared.Content.{Content}
use Rattle.rules.specs.declared.Revision.{Revision}
use Rattle.rules.specs.Bytes.{value, part, Bytes}
use Rattle.rules.specs.Choice.{pick, maybe}
use Rattle.rules.specs.Layout.{Row, row_size, row_of, hash_in, parent_hash_in}
use Rattle.rules.specs.Map.{find}
use Rattle.rules.specs.Order.{order_n, and_then, is_equal, order_bytes, order_rev, same_rev}
use Rattle.rules.specs.Replica.{revision, Node, Tree}
use Rattle.rules.specs.Room.{hash_size}
use Rattle.rules.specs.Write.{lacks_parent, differ, agree}
use Rattle.rules.proofs.ByteLaws.{length_part, part-part}
use Rattle.rules.proofs.OrderLaws.{order_n_same, order_n_self, rev_order, same_rev_true}
use Rattle.octets.proofs.ByteOrderLaws.{order_halves, order_value}
use Rattle.tree.specs.Rows.{parent_of, meaning, row_from, node_held, node_at}
use Rattle.tree.specs.Rows as rows
use Rattle.tree.specs.declared.table.Body.{Body}
use Rattle.tree.specs.Table.{tree_in, row_start, Searchable}
use Rattle.tree.proofs.PlaceLaws.{place_at}
use Rattle.tree.proofs.RowLaws.{rev_level, rev_hash}
use Rattle.tree.proofs.SearchLaws.{at_last}
use Rattle.tree.proofs.TableLaws.{no_row, tree_row}
use Rattle.writes.specs.declared.plan.Plan.{Plan}
use Rattle.writes.specs.Path.{count_of, hash_at, rev_at, parent_at, given_at}
use Rattle.writes.specs.Plan.{parent_held, holds, settled, planned, Stepped}
use Rattle.writes.proofs.PassLaws.{held_planned, lower_at}
use Rattle.writes.proofs.PlanLaws.{or_false}

and_left : (a b : Bool) → (a && b) ≡ true → a ≡ true
and_left true b e = refl
and_left false b e = e

and_right : (a b : Bool) → (a && b) ≡ true → b ≡ true
and_right true b e = e
and_right false b e = absurd (true≢false (sym e))

-- ---- sixteen bytes as two numbers

module _ (a b : List ℕ) (p q : ℕ) (h : p + hash_size ≤ length a) (i : q + hash_size ≤ length b) (m : Bytes (part p 8 a)) (n : Bytes (part q 8 b)) where
  halves : order_bytes (part p hash_size a) (part q hash_size b) ≡ and_then (order_n (value (part p 8 a)) (value (part q 8 b))) (order_bytes (part (p + 8) 8 a) (part (q + 8) 8 b))
  halves = order_halves a b p q 8 h i m n

  pub first_differ : (value (part p 8 a) ≡ value (part q 8 b) → ⊥) → is_equal (order_bytes (part p hash_size a) (part q hash_size b)) ≡ false
  first_differ d = ap is_equal halves ∙ go (order_n (value (part p 8 a)) (value (part q 8 b))) refl
    where
      go : (o : Ordering) → order_n (value (part p 8 a)) (value (part q 8 b)) ≡ o → is_equal (and_then o (order_bytes (part (p + 8) 8 a) (part (q + 8) 8 b))) ≡ false
      go Less e = refl
      go Equal e = absurd (d (order_n_same _ _ e))
      go Greater e = refl

  equal_is : (x y : ℕ) → is_equal (order_n x y) ≡ eqb x y
  equal_is x y = go (order_n x y) refl
    where
      other : (o : Ordering) → order_n x y ≡ o → is_equal o ≡ false → eqb x y ≡ false
      other o e f = ne_eqb x y (λ z. true≢false (sym (ap is_equal (order_n_self y)) ∙ (ap (λ (w : ℕ). is_equal (order_n w y)) (sym z) ∙ (ap is_equal e ∙ f))))

      go : (o : Ordering) → order_n x y ≡ o → is_equal o ≡ eqb x y
      go Less e = sym (other Less e refl)
      go Equal e = sym (eq-eqb x y (order_n_same x y e))
      go Greater e = sym (other Greater e refl)

  pub second_decides : value (part p 8 a) ≡ value (part q 8 b) → Bytes (part (p + 8) 8 a) → Bytes (part (q + 8) 8 b)
      → is_equal (order_bytes (part p hash_size a) (part q hash_size b)) ≡ eqb (value (part (p + 8) 8 a)) (value (part (q + 8) 8 b))
  second_decides e u v =
      let la = length_part (p + 8) 8 a (omega arith) in
      let lb = length_part (q + 8) 8 b (omega arith) in
      let o : order_n (value (part p 8 a)) (value (part q 8 b)) ≡ Equal = rw e (order_n_self (value (part q 8 b))) in
      ap is_equal (halves ∙ (ap (λ (x : Ordering). and_then x (order_bytes (part (p + 8) 8 a) (part (q + 8) 8 b))) o
      ∙ sym (order_value (part (p + 8) 8 a) (part (q + 8) 8 b) (la ∙ sym lb) u v)))
      ∙ equal_is (value (part (p + 8) 8 a)) (value (part (q + 8) 8 b))

-- ---- a row in its bytes

other_rev : (a b : Revision) → (a ≡ b → ⊥) → same_rev a b ≡ false
unfolding same_rev
other_rev a b n = go (order_rev a b) refl
  where
    go : (o : Ordering) → order_rev a b ≡ o → is_equal o ≡ false
    go Less e = refl
    go Equal e = absurd (n (rev_order.same a b e))
    go Greater e = refl

module _ (at : ℕ) (s : List ℕ) where
  -- the fields of the row at a place
  abbrev pub fields : Row
  fields = row_of (part at row_size s)

  number_there : (node_at at s).0.number.0 ≡ fields.rev.number.0
  unfolding node_at node_held meaning row_from
  number_there = refl

  parent_there : (node_at at s).1.parent ≡ pick (not (eqb fields.flag 0)) (Some (revision (pred fields.rev.number.0) (part (at + parent_hash_in) hash_size s))) None
  unfolding node_at node_held meaning row_from row_of
  parent_there =
      go (eqb fields.flag 0)
      ∙ ap (λ (h : List ℕ). pick (not (eqb fields.flag 0)) (Some (revision (pred fields.rev.number.0) h)) None)
      (part-part parent_hash_in hash_size at row_size s (omega arith))
    where
      go : (b : Bool) → parent_of fields.rev (pick b None (Some fields.parent)) ≡ pick (not b) (Some (revision (pred fields.rev.number.0) fields.parent)) None
      go true = refl
      go false = refl

module _ (at : ℕ) (s : List ℕ) (number : ℕ) (path : List ℕ) (k : ℕ) where
  abbrev row : Revision × Node
  row = node_at at s

  abbrev v : Revision
  v = rev_at number path k

  abbrev o : Option Revision
  o = parent_at number path k

  not_rev : same_rev row.0 v ≡ false → holds row v o ≡ false
  unfolding holds
  not_rev e = ap (λ (b : Bool). b && parent_held o row.1.parent) e

  is_rev : same_rev row.0 v ≡ true → holds row v o ≡ parent_held o row.1.parent
  unfolding holds
  is_rev e = ap (λ (b : Bool). b && parent_held o row.1.parent) e

  pub other_number : ((fields at s).rev.number.0 ≡ number - k → ⊥) → holds row v o ≡ false
  unfolding rev_at
  other_number n = not_rev (other_rev row.0 v (λ e. n (sym (number_there at s) ∙ ap (λ (x : Revision). x.number.0) e)))

  -- whether the hash that stands at a place of the row is the j-th of the path
  abbrev pub same_hash : ℕ → ℕ → Bool
  same_hash in' j = is_equal (order_bytes (part (at + in') hash_size s) (part (j * hash_size) hash_size path))

  module _ (same : (fields at s).rev.number.0 ≡ number - k) where
    by_hash : same_rev row.0 v ≡ same_hash hash_in k
    unfolding same_rev rows.rev_at rev_at hash_at
    by_hash =
        ap is_equal (rev_level (rows.rev_at at s) v (number_there at s ∙ same)
        ∙ ap (λ (h : List ℕ). order_bytes h (part (k * hash_size) hash_size path)) (rev_hash at s))

    pub other_hash : same_hash hash_in k ≡ false → holds row v o ≡ false
    other_hash e = not_rev (by_hash ∙ e)

    module _ (hash : same_hash hash_in k ≡ true) where
      pub none_given : count_of path ≤ k + 1 → holds row v o ≡ true
      unfolding parent_at
      none_given h =
          is_rev (by_hash ∙ hash)
          ∙ ap (λ (b : Bool). parent_held (pick b (Some (rev_at number path (k + 1))) None) row.1.parent) (le-ltb (k + 1) (count_of path) h)

      module _ (h : k + 1 < count_of path) where
        abbrev held : Revision
        held = revision (pred (fields at s).rev.number.0) (part (at + parent_hash_in) hash_size s)

        by_flag : (b : Bool) → eqb (fields at s).flag 0 ≡ b
            → holds row v o ≡ maybe false (λ q. same_rev q (rev_at number path (k + 1))) (pick (not b) (Some held) None)
        unfolding parent_at
        by_flag b e =
            is_rev (by_hash ∙ hash)
            ∙ (ap (λ (x : Bool). parent_held (pick x (Some (rev_at number path (k + 1))) None) row.1.parent) (lt-ltb (k + 1) (count_of path) h)
            ∙ ap (maybe false (λ q. same_rev q (rev_at number path (k + 1)))) (parent_there at s ∙ ap (λ (x : Bool). pick (not x) (Some held) None) e))

        pub none_held : (fields at s).flag ≡ 0 → holds row v o ≡ false
        none_held e = by_flag true (eq-eqb (fields at s).flag 0 e)

        pub by_parent : ((fields at s).flag ≡ 0 → ⊥) → holds row v o ≡ same_hash parent_hash_in (k + 1)
        unfolding same_rev rev_at hash_at
        by_parent n =
            let m : pred (fields at s).rev.number.0 ≡ number - (k + 1) = (let z = sub-one (fields at s).rev.number.0 in omega arith) in
            by_flag false (ne_eqb (fields at s).flag 0 n) ∙ ap is_equal (rev_level held (rev_at number path (k + 1)) m)

-- ---- the plan stays

parent_stays : (g h : Option Revision) → parent_held g h ≡ true → (differ same_rev h g ≡ false) × (lacks_parent g h ≡ false)
parent_stays None None e = (refl, refl)
parent_stays None (Some q) e = (refl, refl)
parent_stays (Some p) None e = absurd (true≢false (sym e))
parent_stays (Some p) (Some q) e = (ap not e, refl)

no_content_lem : (h : Option Content) → differ agree h None ≡ false
no_content_lem None = refl
no_content_lem (Some c) = refl

plan_stays : (t : Tree) (k : ℕ) (p : Plan) (g : Revision × Node) (n : Node) → find order_rev g.0 t ≡ Some n
    → parent_held g.1.parent n.parent ≡ true → g.1.content ≡ None → p ≡ planned t k p g
plan_stays t k p g n f e c =
    let s = parent_stays g.1.parent n.parent e in
    let d : differ agree n.content g.1.content ≡ false = ap (differ agree n.content) c ∙ no_content_lem n.content in
    sym (held_planned t k p g n f
    ∙ ((λ i. record {
      crossed = p.crossed || s.0 i;
      other = p.other || d i;
      revisions = p.revisions;
      parents = p.parents + pick (s.1 i) 1 0;
      reach = pick (s.1 i) (k + 2) p.reach;
    })
    ∙ (λ i. record {
      crossed = or_false p.crossed i;
      other = or_false p.other i;
      revisions = p.revisions;
      parents = add-zero p.parents i;
      reach = p.reach;
    })))

module _ (b : Body) (s : List ℕ) (number : ℕ) (path : List ℕ) (k : ℕ) (yes : settled b s number path k ≡ true) where
  abbrev last : Revision × Node
  last = node_at (row_start b (b.rows - 1)) s

  abbrev this : Bool
  this = holds last (rev_at number path k) (parent_at number path k)

  later : eqb k 0 ≡ false
  unfolding settled
  later = not-true (eqb k 0) (and_left (not (eqb k 0)) (not (eqb b.rows 0) && this) yes)

  rest : (not (eqb b.rows 0) && this) ≡ true
  unfolding settled
  rest = and_right (not (eqb k 0)) (not (eqb b.rows 0) && this) yes

  pub some_row : 0 < b.rows
  some_row = let n = eqb-false b.rows 0 (not-true (eqb b.rows 0) (and_left (not (eqb b.rows 0)) this rest)) in omega arith

  both : (same_rev last.0 (rev_at number path k) && parent_held (parent_at number path k) last.1.parent) ≡ true
  unfolding holds
  both = and_right (not (eqb b.rows 0)) this rest

  pub settled_step : (c : Content) (p : Plan) → Searchable b s → Stepped s b (given_at number path c k) p k (record { plan = p; top = b.rows - 1 })
  unfolding given_at rows.rev_at
  settled_step c p able =
      let v : Revision = rev_at number path k in
      let t : Tree = tree_in b s in
      let i : ℕ = b.rows - 1 in
      let z = some_row in
      let e : last.0 ≡ v = same_rev_true last.0 v (and_left (same_rev last.0 v) (parent_held (parent_at number path k) last.1.parent) both) in
      let o : order_rev v last.0 ≡ Equal = rw e (rev_order.self v) in
      let h = place_at i v t (at_last b v s able z o) in
      let r : get_or t i no_row ≡ last = tree_row b.base b.rows i s (omega arith) in
      let f : find order_rev v t ≡ Some last.1 = h.found ∙ ap (λ (x : Revision × Node). Some x.1) r in
      record {
        plan = plan_stays t k p (given_at number path c k) last.1 f (and_right (same_rev last.0 v) (parent_held (parent_at number path k) last.1.parent) both) (ap (λ (b : Bool). pick b (Some c) None) later);
        within = omega arith;
        lower = lower_at i v t no_row h.within h.is;
      }
