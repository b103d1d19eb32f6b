-- A path, step by step, among the rows before each step's own. Assumes nothing.
use mathlib.Core.Path.{◌≡◌, refl, sym, ap, ◌∙◌}
use Rattle.std.specs.declared.cmp.Ordering.TheVariants.{Less, Equal, Greater}
use Rattle.std.specs.declared.cmp.Ordering.{Ordering}
use Rattle.std.specs.Prelude.{Ok, Err}
use mathlib.Core.Bool.{Bool, true, false}
use mathlib.Core.List.{List, [], ◌∷◌}
use Rattle.std.specs.Prelude.{Option, None, Some}
use Prim.Native.Nat.{ℕ, zero, suc, pred, ◌+◌, ◌-◌, ◌*◌, ◌≤◌, ◌<◌}
use native.Mathlib.Omega.{arith}
use lib.Dec.{eqb}
use lib.ListN.{length, get_or, take, drop, length-append}
use Rattle.rules.specs.declared.Revision.{Revision}
use Rattle.rules.specs.Bytes.{pieces, join}
use Rattle.rules.specs.Choice.{maybe, pick}
use Rattle.rules.specs.Layout as layout
use Rattle.rules.specs.Layout.{row_size, row_of}
use Rattle.rules.specs.Map.{by_order, find}
use Rattle.rules.specs.Order.{order_rev}
use Rattle.rules.specs.Read.{ancestry, path_of}
use Rattle.rules.specs.Replica.{Hash, revision, Node, Tree}
use Rattle.rules.specs.Room.{hash_size}
use Rattle.rules.specs.Write.{parent_in}
use Rattle.rules.proofs.OrderLaws.{rev_order, order_rev_same}
use Rattle.octets.specs.Splice.{splice}
use Rattle.octets.proofs.SpliceLaws.{chain, splice_none}
use Rattle.tree.specs.declared.row.Row.{Row}
use Rattle.tree.specs.declared.table.Body.{Body}
use Rattle.tree.specs.Rows.{parent_of, meaning, row_from, node_held, row_at, rev_at}
use Rattle.tree.specs.Table.{tree_at, body, tree_in, row_start, place_of}
use Rattle.tree.specs.Path.{path_above, HasParent, IsParent, HashesPut, PathPut}
use Rattle.tree.proofs.RowLaws.{row_at_means, rev_less}
use Rattle.tree.proofs.TableLaws.{no_row, length-tree, tree_row, tree_take}
use Rattle.tree.proofs.PlaceLaws.{place_at, place_gap}
use Rattle.tree.proofs.SearchLaws.{rev_in}

pub pred_sub : (x : ℕ) → pred x ≡ x - 1
pred_sub zero = refl
pred_sub (suc x) = omega arith

-- ---- parents in rows: "A parent's number is one lower."

row_parent : (w : layout.Row) (p : Revision) → (node_held w).1.parent ≡ Some p → p.number.0 ≡ pred w.rev.number.0
unfolding node_held meaning row_from
row_parent w p e = go (eqb w.flag 0) e
  where
    go : (b : Bool) → parent_of w.rev (pick b None (Some w.parent)) ≡ Some p → p.number.0 ≡ pred w.rev.number.0
    go true h = let z : ◌≡◌ {A = ℕ} 0 1 = cc in absurd (omega arith)
    go false h = let q : revision (pred w.rev.number.0) w.parent ≡ p = cc in ap (λ (r : Revision). r.number.0) (sym q)

lower : (n : ℕ) (l : List ℕ) (v p : Revision) → parent_in (find order_rev v (tree_at 0 n l)) ≡ Some p → p.number.0 ≡ pred v.number.0
unfolding tree_at pieces find node_held meaning row_from
lower zero l v p e = let z : ◌≡◌ {A = ℕ} 0 1 = cc in absurd (omega arith)
lower (suc n) l v p e = go (order_rev v w.rev) refl e (λ h. lower n (drop row_size l) v p h)
  where
    w : layout.Row
    w = row_of (take row_size l)

    go : (o : Ordering) → order_rev v w.rev ≡ o → parent_in (by_order o None (Some (node_held w).1) (find order_rev v (tree_at 0 n (drop row_size l)))) ≡ Some p
        → (parent_in (find order_rev v (tree_at 0 n (drop row_size l))) ≡ Some p → p.number.0 ≡ pred v.number.0) → p.number.0 ≡ pred v.number.0
    go Less o h f = let z : ◌≡◌ {A = ℕ} 0 1 = cc in absurd (omega arith)
    go Equal o h f = rw (order_rev_same v w.rev o) (row_parent w p h)
    go Greater o h f = f h

-- ---- the rows before the i-th are enough for what is below it

pub find_front : (i : ℕ) (t : Tree) (v : Revision) → i < length t → order_rev v (rev_in t i) ≡ Less → find order_rev v (take i t) ≡ find order_rev v t
unfolding find
find_front i [] v h o = absurd (omega arith)
find_front zero (x ∷ t) v h o = rw o refl
find_front (suc i) (x ∷ t) v h o = rw (find_front i t v (omega arith) o)

-- each parent that the tree knows has the number one lower
abbrev Lower : Tree → Type 0
Lower t = (v p : Revision) → parent_in (find order_rev v t) ≡ Some p → p.number.0 ≡ pred v.number.0

tree_lower : (base n : ℕ) (s : List ℕ) → Lower (tree_at base n s)
unfolding tree_at
tree_lower base n s v p e = lower n (drop base s) v p e

path_front : (t : Tree) (i : ℕ) → Lower t → i < length t → (m : ℕ) (v : Revision) → v.number.0 ≡ m → order_rev v (rev_in t i) ≡ Less
    → ancestry m (take i t) v ≡ ancestry m t v
unfolding ancestry
path_front t i low h zero v e o = refl
path_front t i low h (suc m) v e o = rw (find_front i t v h o) (go (parent_in (find order_rev v t)) refl (λ p k r. path_front t i low h m p k r))
  where
    go : (q : Option Revision) → parent_in (find order_rev v t) ≡ q → ((p : Revision) → p.number.0 ≡ m → order_rev p (rev_in t i) ≡ Less → ancestry m (take i t) p ≡ ancestry m t p)
        → ◌≡◌ {A = List Hash} (v.hash ∷ maybe [] (ancestry m (take i t)) q) (v.hash ∷ maybe [] (ancestry m t) q)
    go None k f = refl
    go (Some p) k f =
        let a : p.number.0 ≡ pred v.number.0 = low v p k in
        let b : p.number.0 ≡ m = a ∙ rw e refl in
        let c : p.number.0 < v.number.0 = omega arith in
        ap (λ (l : List Hash). v.hash ∷ l) (f p b (rev_order.trans p v (rev_in t i) (rev_less p v c) o))

-- ---- the steps of the walk

module _ (b : Body) (s : List ℕ) (v : Revision) where
  abbrev t : Tree
  t = tree_in b s

  pub found_within : (i : ℕ) → place_of 0 v t ≡ Ok i → i < b.rows
  found_within i e = rw (length-tree b.base b.rows s) at (place_at i v t e).within

  pub path_zero : v.number.0 ≡ 0 → path_of t v ≡ []
  unfolding path_of ancestry
  path_zero e = rw e

  module _ (pos : 0 < v.number.0) where
    path_one : path_of t v ≡ v.hash ∷ maybe [] (ancestry (pred v.number.0) t) (parent_in (find order_rev v t))
    unfolding path_of ancestry
    path_one = go v.number.0 pos
      where
        go : (m : ℕ) → 0 < m → ancestry m t v ≡ v.hash ∷ maybe [] (ancestry (pred m) t) (parent_in (find order_rev v t))
        go zero h = absurd (omega arith)
        go (suc m) h = refl

    pub path_some : 1 ≤ length (path_of t v)
    path_some = rw path_one (omega arith)

    pub path_unknown : (i : ℕ) → place_of 0 v t ≡ Err i → path_of t v ≡ v.hash ∷ []
    path_unknown i e = path_one ∙ rw (place_gap i v t e).found

    module _ (i : ℕ) (e : place_of 0 v t ≡ Ok i) where
      abbrev row : Row
      row = row_at (row_start b i) s

      node_is : get_or t i no_row ≡ meaning row
      node_is = tree_row b.base b.rows i s (found_within i e) ∙ sym (row_at_means (row_start b i) s)

      row_is : row.rev ≡ v
      unfolding meaning
      row_is = sym (ap (λ (x : Revision × Node). x.0) node_is) ∙ (place_at i v t e).is

      parent_is : parent_in (find order_rev v t) ≡ parent_of v row.parent
      unfolding meaning
      parent_is =
          ap parent_in (place_at i v t e).found
          ∙ (ap (λ (x : Revision × Node). x.1.parent) node_is ∙ ap (λ (u : Revision). parent_of u row.parent) row_is)

      pub found_rev : rev_at (row_start b i) s ≡ v
      unfolding rev_at
      found_rev = sym (ap (λ (x : Revision × Node). x.0) (tree_row b.base b.rows i s (found_within i e))) ∙ (place_at i v t e).is

      -- the rows before the i-th are enough for its parent's path
      above : (h : Hash) → ancestry (pred v.number.0) t (revision (pred v.number.0) h) ≡ path_of (tree_at b.base i s) (revision (pred v.number.0) h)
      unfolding path_of
      above h =
          let p : Revision = revision (pred v.number.0) h in
          let q : pred v.number.0 ≡ v.number.0 - 1 = pred_sub v.number.0 in
          let o : order_rev p (rev_in t i) ≡ Less = rw (place_at i v t e).is (rev_less p v (omega arith)) in
          let g : take i t ≡ tree_at b.base i s = tree_take b.base i b.rows s (let z = found_within i e in omega arith) in
          sym (path_front t i (tree_lower b.base b.rows s) (place_at i v t e).within (pred v.number.0) p refl o) ∙ rw g

      pub path_found : path_of t v ≡ v.hash ∷ path_above b.base i s
      unfolding path_above meaning
      path_found = path_one ∙ rw (parent_is, sym (row_at_means (row_start b i) s), row_is) (go row.parent)
        where
          go : (o : Option Hash) → ◌≡◌ {A = List Hash} (v.hash ∷ maybe [] (ancestry (pred v.number.0) t) (parent_of v o))
              (v.hash ∷ maybe [] (path_of (tree_at b.base i s)) (parent_of v o))
          go None = refl
          go (Some h) = rw (above h)

-- ---- the parent of a row that was read

module _ (base i : ℕ) (s : List ℕ) where
  abbrev child : Row
  child = row_at (base + i * row_size) s

  above_is : path_above base i s ≡ maybe [] (path_of (tree_at base i s)) (parent_of child.rev child.parent)
  unfolding path_above meaning
  above_is = rw (sym (row_at_means (base + i * row_size) s))

  above_low : child.rev.number.0 < 2 → path_above base i s ≡ []
  above_low h = above_is ∙ go child.parent
    where
      go : (o : Option Hash) → maybe [] (path_of (tree_at base i s)) (parent_of child.rev o) ≡ []
      go None = refl
      go (Some p) = path_zero (body base i) s (revision (pred child.rev.number.0) p) (rw (pred_sub child.rev.number.0) (omega arith))

  child_rev : rev_at (base + i * row_size) s ≡ child.rev
  unfolding rev_at meaning
  child_rev = sym (ap (λ (x : Revision × Node). x.0) (row_at_means (base + i * row_size) s))

  module _ (r : Row) (e : r ≡ child) where
    pub first_row : r.rev.number.0 < 2 → IsParent base i s None
    first_row h = above_low (rw (sym e) h)

    pub no_parent : r.parent ≡ None → IsParent base i s None
    no_parent k = above_is ∙ rw (sym e, k)

    pub its_parent : {h : Hash} → 2 ≤ r.rev.number.0 → r.parent ≡ Some h → IsParent base i s (Some (revision (r.rev.number.0 - 1) h))
    its_parent h k = record {
      is = above_is ∙ rw (sym e, k, pred_sub r.rev.number.0);
      some = omega arith;
      lower = rw (child_rev, sym e) (omega arith);
    }

  module _ (v : Revision) (h : HasParent base i s v) where
    pub above_some : 1 ≤ length (path_above base i s)
    above_some = rw h.is (path_some (body base i) s v h.some)

    pub above_gap : (g : ℕ) → place_of 0 v (tree_at base i s) ≡ Err g → path_above base i s ≡ v.hash ∷ []
    above_gap g e = h.is ∙ path_unknown (body base i) s v h.some g e

    module _ (j : ℕ) (e : place_of 0 v (tree_at base i s) ≡ Ok j) where
      pub above_found : path_above base i s ≡ v.hash ∷ path_above base j s
      above_found = h.is ∙ path_found (body base i) s v h.some j e

      pub above_within : j < i
      above_within = found_within (body base i) s v j e

      pub above_falls : (rev_at (base + j * row_size) s).number.0 < (rev_at (base + i * row_size) s).number.0
      above_falls = rw (found_rev (body base i) s v h.some j e) (let l = h.lower in omega arith)

-- ---- a path that is written

pub written_none : {hs : List Hash} (at : ℕ) (out : List ℕ) → hs ≡ [] → HashesPut hs at out at out
unfolding join
written_none at out e = record {
  is = rw e (sym (splice_none out at));
  end = rw e (omega arith);
  size = rw e (omega arith);
}

pub written_step : {hs ks : List Hash} (h : Hash) (at : ℕ) (before mid : List ℕ) (end : ℕ) (after : List ℕ) → hs ≡ h ∷ ks → length h ≡ hash_size
    → at + length hs * hash_size ≤ length before → mid ≡ splice before at h → HashesPut ks (at + hash_size) mid end after → HashesPut hs at before end after
unfolding join
written_step {hs} {ks} h at before mid end after e l room w k =
    let n : length hs ≡ suc (length ks) = ap length e in
    let z = k.size in
    let d = k.end in
    record {
      is = k.is ∙ (ap (λ (x : List ℕ). splice x (at + hash_size) (join ks)) w
          ∙ (chain before h (join ks) at (at + hash_size) (omega arith) (omega arith) ∙ ap (λ (x : List Hash). splice before at (join x)) (sym e)));
      end = omega arith;
      size = ap (λ (x : List Hash). length (join x)) e ∙ (length-append h (join ks) ∙ omega arith);
    }

pub written_one : {hs : List Hash} (h : Hash) (at : ℕ) (before after : List ℕ) → hs ≡ h ∷ [] → length h ≡ hash_size
    → at + length hs * hash_size ≤ length before → after ≡ splice before at h → HashesPut hs at before (at + hash_size) after
written_one h at before after e l room w = written_step h at before after (at + hash_size) after e l room w (written_none (at + hash_size) after refl)

pub path_written : {t : Tree} {v : Revision} {at : ℕ} {before : List ℕ} {next : ℕ} {after : List ℕ} → HashesPut (path_of t v) at before next after → PathPut t v at before next after
path_written w = record { is = w.is; end = w.end; size = w.size }
