-- Leaves row by row, from the front and from the end, and their bytes. Assumes nothing.
use mathlib.Core.Path.{◌≡◌, refl, sym, ap, ◌∙◌}
use Rattle.std.specs.Prelude.{Option, None, Some, true, false, is_some}
use mathlib.Core.List.{List, [], ◌∷◌, ◌++◌, map, append_assoc, append-nil}
use Prim.Native.Nat.{ℕ, ◌+◌, ◌-◌, ◌*◌, ◌≤◌, ◌<◌}
use native.Mathlib.Nat.{zero-add}
use native.Mathlib.Omega.{arith}
use lib.ListN.{length, set, length-append}
use Rattle.rules.specs.declared.Content.{Content}
use Rattle.rules.specs.declared.Revision.{Revision}
use Rattle.rules.specs.Bytes.{be, pieces, join}
use Rattle.rules.specs.Layout.{hash_in, kind_in, row_size}
use Rattle.rules.specs.Read.{LeafOf, leaf_in, leaves, leaf_bytes, content_kind, content_label}
use Rattle.rules.specs.Replica.{Node, Tree}
use Rattle.rules.specs.Room.{hash_size}
use Rattle.rules.proofs.ByteLaws.{length-be}
use Rattle.octets.specs.Splice.{splice}
use Rattle.octets.proofs.SpliceLaws.{length-splice, splice_none, chain, stores}
use Rattle.tree.specs.declared.row.Row.{Row}
use Rattle.tree.specs.declared.table.Body.{Body}
use Rattle.tree.specs.Rows.{meaning, row_at, node_at}
use Rattle.tree.specs.Table.{tree_at, tree_in, row_start}
use Rattle.tree.specs.Leaf.{leaf_of, leaf_label_in, leaf_size, LeafPut}
use Rattle.tree.proofs.RowLaws.{row_at_means}
use Rattle.tree.proofs.TableLaws.{tree_cut, tree_one, tree_last}

-- ---- the leaves of two runs of rows

pub leaves_append : (t u : Tree) → leaves (t ++ u) ≡ leaves u ++ leaves t
unfolding leaves
leaves_append [] u = sym (append-nil (leaves u))
leaves_append (x ∷ t) u = ap (λ (l : List LeafOf). l ++ leaf_in x) (leaves_append t u) ∙ append_assoc (leaves u) (leaves t) (leaf_in x)

leaves_one : (x : Revision × Node) → leaves (x ∷ []) ≡ leaf_in x
unfolding leaves
leaves_one x = refl

-- ---- the leaf in a row

module _ (at : ℕ) (s : List ℕ) where
  pub content_at_lem : (row_at at s).content ≡ (node_at at s).1.content
  unfolding meaning
  content_at_lem = ap (λ (x : Revision × Node). x.1.content) (row_at_means at s)

  pub rev_of_row : (row_at at s).rev ≡ (node_at at s).0
  unfolding meaning
  rev_of_row = ap (λ (x : Revision × Node). x.0) (row_at_means at s)

  pub leaf_none : (row_at at s).content ≡ None → leaf_in (node_at at s) ≡ []
  leaf_none e = rw (sym content_at_lem, e) refl

  pub leaf_one : (c : Content) → (row_at at s).content ≡ Some c → leaf_in (node_at at s) ≡ leaf_of (row_at at s).rev c ∷ []
  leaf_one c e = rw (sym content_at_lem, e, rev_of_row) refl

-- ---- from the front

module _ (base i : ℕ) (s : List ℕ) where
  next : leaves (tree_at base (i + 1) s) ≡ leaf_in (node_at (base + i * row_size) s) ++ leaves (tree_at base i s)
  next =
      ap leaves (tree_last base i s)
      ∙ (leaves_append (tree_at base i s) (node_at (base + i * row_size) s ∷ [])
      ∙ ap (λ (l : List LeafOf). l ++ leaves (tree_at base i s)) (leaves_one (node_at (base + i * row_size) s)))

  -- a row more, which is a leaf or is none
  pub count_leaf : is_some (row_at (base + i * row_size) s).content ≡ true → length (leaves (tree_at base (i + 1) s)) ≡ length (leaves (tree_at base i s)) + 1
  count_leaf e = go (row_at (base + i * row_size) s).content refl e
    where
      go : (k : Option Content) → (row_at (base + i * row_size) s).content ≡ k → is_some k ≡ true → length (leaves (tree_at base (i + 1) s)) ≡ length (leaves (tree_at base i s)) + 1
      go None k z = absurd (let n : ◌≡◌ {A = ℕ} 0 1 = cc in omega arith)
      go (Some c) k z = ap length next ∙ rw (leaf_one (base + i * row_size) s c k) (omega arith)

  pub count_inner : is_some (row_at (base + i * row_size) s).content ≡ false → length (leaves (tree_at base (i + 1) s)) ≡ length (leaves (tree_at base i s))
  count_inner e = go (row_at (base + i * row_size) s).content refl e
    where
      go : (k : Option Content) → (row_at (base + i * row_size) s).content ≡ k → is_some k ≡ false → length (leaves (tree_at base (i + 1) s)) ≡ length (leaves (tree_at base i s))
      go None k z = ap length next ∙ rw (leaf_none (base + i * row_size) s k)
      go (Some c) k z = absurd (let n : ◌≡◌ {A = ℕ} 0 1 = cc in omega arith)

pub count_none : (base : ℕ) (s : List ℕ) → length (leaves (tree_at base 0 s)) ≡ 0
unfolding leaves tree_at pieces
count_none base s = refl

-- ---- from the end: the rows from i on, and row j before them

abbrev pub rest : Body → ℕ → List ℕ → Tree
rest b i s = tree_at (row_start b i) (b.rows - i) s

pub rest_none : (b : Body) (s : List ℕ) → rest b b.rows s ≡ []
unfolding tree_at pieces
rest_none b s = let e : b.rows - b.rows ≡ 0 = omega arith in rw e

pub rest_all : (b : Body) (i : ℕ) (s : List ℕ) → i ≡ 0 → rest b i s ≡ tree_in b s
rest_all b i s e =
    let p : row_start b i ≡ b.base = omega arith in
    let q : b.rows - i ≡ b.rows = omega arith in
    rw (p, q)

module _ (b : Body) (i j : ℕ) (s : List ℕ) (e : i ≡ j + 1) (h : i ≤ b.rows) where
  abbrev p : ℕ
  p = row_start b j

  pub rest_more : rest b j s ≡ node_at p s ∷ rest b i s
  rest_more =
      let n : b.rows - j ≡ 1 + (b.rows - i) = omega arith in
      let q : p + 1 * row_size ≡ row_start b i = omega arith in
      tree_cut p 1 (b.rows - i) (b.rows - j) s n ∙ rw (tree_one p s, q)

  leaves_more : leaves (rest b j s) ≡ leaves (rest b i s) ++ leaf_in (node_at p s)
  unfolding leaves
  leaves_more = ap leaves rest_more

  pub rest_inner : (row_at p s).content ≡ None → leaves (rest b j s) ≡ leaves (rest b i s)
  rest_inner k = leaves_more ∙ (ap (λ (l : List LeafOf). leaves (rest b i s) ++ l) (leaf_none p s k) ∙ append-nil (leaves (rest b i s)))

  pub rest_leaf : (c : Content) → (row_at p s).content ≡ Some c → leaves (rest b j s) ≡ leaves (rest b i s) ++ (leaf_of (row_at p s).rev c ∷ [])
  rest_leaf c k = leaves_more ∙ ap (λ (l : List LeafOf). leaves (rest b i s) ++ l) (leaf_one p s c k)

  rest_room : length (leaves (rest b j s)) ≤ length (leaves (tree_in b s))
  rest_room =
      let t : Tree = tree_at b.base j s in
      let cut : tree_in b s ≡ t ++ rest b j s = tree_cut b.base j (b.rows - j) b.rows s (omega arith) in
      let all : leaves (tree_in b s) ≡ leaves (rest b j s) ++ leaves t = ap leaves cut ∙ leaves_append t (rest b j s) in
      omega (arith, simp length-append at (ap length all))

-- ---- their bytes

leaf_bytes_more : (l : List LeafOf) (a : LeafOf) → join (map leaf_bytes (l ++ (a ∷ []))) ≡ join (map leaf_bytes l) ++ leaf_bytes a
unfolding join
leaf_bytes_more [] a = append-nil (leaf_bytes a)
leaf_bytes_more (b ∷ l) a =
    ap (λ (s : List ℕ). leaf_bytes b ++ s) (leaf_bytes_more l a) ∙ sym (append_assoc (leaf_bytes b) (join (map leaf_bytes l)) (leaf_bytes a))

-- one more leaf behind those that are written
leaf_behind : (out : List ℕ) (l m : List LeafOf) (a : LeafOf) (at : ℕ) → m ≡ l ++ (a ∷ []) → length (join (map leaf_bytes l)) ≡ at → at + length (leaf_bytes a) ≤ length out
    → splice (splice out 0 (join (map leaf_bytes l))) at (leaf_bytes a) ≡ splice out 0 (join (map leaf_bytes m))
leaf_behind out l m a at e n h =
    chain out (join (map leaf_bytes l)) (leaf_bytes a) 0 at (zero-add (length (join (map leaf_bytes l))) ∙ n) h
    ∙ ap (splice out 0) (sym (leaf_bytes_more l a) ∙ ap (λ (x : List LeafOf). join (map leaf_bytes x)) (sym e))

leaf_size_more : (l m : List LeafOf) (a : LeafOf) → m ≡ l ++ (a ∷ []) → length (leaf_bytes a) ≡ leaf_size → length (join (map leaf_bytes l)) ≡ length l * leaf_size
    → length (join (map leaf_bytes m)) ≡ length m * leaf_size
leaf_size_more l m a e z n =
    let b : length (join (map leaf_bytes m)) ≡ length (join (map leaf_bytes l)) + length (leaf_bytes a)
    = ap (λ (x : List LeafOf). length (join (map leaf_bytes x))) e ∙ (ap length (leaf_bytes_more l a) ∙ length-append (join (map leaf_bytes l)) (leaf_bytes a)) in
    let c : length m ≡ length l + 1 = ap length e ∙ length-append l (a ∷ []) in
    omega arith

pub length_leaf : (a : LeafOf) → length a.rev.hash ≡ hash_size → length (leaf_bytes a) ≡ leaf_size
unfolding leaf_bytes
length_leaf a h = simp (length-append, length-be) (omega arith)

-- the four runs that code writes for a leaf
pub leaf_written : (s : List ℕ) (at : ℕ) (a : LeafOf) → length a.rev.hash ≡ hash_size → at + leaf_size ≤ length s
    → splice (set (splice (splice s at (be 4 a.rev.number.0)) (at + hash_in) a.rev.hash) (at + kind_in) (content_kind a.content)) (at + leaf_label_in) (be 8 (content_label a.content))
    ≡ splice s at (leaf_bytes a)
unfolding leaf_bytes
leaf_written s at a q room =
    let N : List ℕ = be 4 a.rev.number.0 in
    let L : List ℕ = be 8 (content_label a.content) in
    let K : List ℕ = content_kind a.content ∷ [] in
    let n : length N ≡ 4 = length-be 4 a.rev.number.0 in
    let l : length L ≡ 8 = length-be 8 (content_label a.content) in
    let s1 : List ℕ = splice s at N in
    let s2 : List ℕ = splice s1 (at + hash_in) a.rev.hash in
    let n1 : length s1 ≡ length s = length-splice s at N (omega arith) in
    let n2 : length s2 ≡ length s = length-splice s1 (at + hash_in) a.rev.hash (omega arith) ∙ n1 in
    ap (λ (x : List ℕ). splice x (at + leaf_label_in) L) (stores K s2 (at + kind_in) (omega arith))
    ∙ (chain s2 K L (at + kind_in) (at + leaf_label_in) (omega arith) (omega arith)
    ∙ (chain s1 a.rev.hash (K ++ L) (at + hash_in) (at + kind_in) (omega arith) (simp length-append (omega arith))
    ∙ chain s N (a.rev.hash ++ (K ++ L)) at (at + hash_in) (omega arith) (simp length-append (omega arith))))

-- ---- leaves that are written so far

pub record Written (l : List LeafOf) (before : List ℕ) (at : ℕ) (after : List ℕ) : Type 0 where
  pub count : at ≡ length l * leaf_size
  pub size : length (join (map leaf_bytes l)) ≡ length l * leaf_size
  pub is : after ≡ splice before 0 (join (map leaf_bytes l))

pub written_none : (b : Body) (s out : List ℕ) → Written (leaves (rest b b.rows s)) out 0 out
unfolding leaves join
written_none b s out =
    let e : leaves (rest b b.rows s) ≡ [] = ap leaves (rest_none b s) in
    record {
      count = rw e (omega arith);
      size = rw e (omega arith);
      is = rw e (sym (splice_none out 0));
    }

written_same : (l m : List LeafOf) (before : List ℕ) (at : ℕ) (after : List ℕ) → m ≡ l → Written l before at after → Written m before at after
written_same l m before at after e w = rw e w

written_more : (l m : List LeafOf) (a : LeafOf) (before : List ℕ) (at : ℕ) (mid after : List ℕ) → m ≡ l ++ (a ∷ []) → length (leaf_bytes a) ≡ leaf_size → at + leaf_size ≤ length before
    → Written l before at mid → after ≡ splice mid at (leaf_bytes a) → Written m before (at + leaf_size) after
written_more l m a before at mid after e z room w f = record {
  count = let c : length m ≡ length l + 1 = ap length e ∙ length-append l (a ∷ []) in let d = w.count in omega arith;
  size = leaf_size_more l m a e z w.size;
  is = f ∙ (ap (λ (x : List ℕ). splice x at (leaf_bytes a)) w.is ∙ leaf_behind before l m a at e (w.size ∙ sym w.count) (omega arith));
}

-- one row more, which was read, of the i from the front that are left
module _ (b : Body) (i : ℕ) (s : List ℕ) {before : List ℕ} {at : ℕ} {mid : List ℕ} {r : Row} (some : 0 < i) (h : i ≤ b.rows) (read : r ≡ row_at (row_start b (i - 1)) s)
    (w : Written (leaves (rest b i s)) before at mid) where
  e : i ≡ (i - 1) + 1
  e = omega arith

  pub row_passed : r.content ≡ None → Written (leaves (rest b (i - 1) s)) before at mid
  row_passed k = written_same _ _ _ _ _ (rest_inner b i (i - 1) s e h (rw read at k)) w

  module _ {c : Content} (k : r.content ≡ Some c) where
    kind_is : (row_at (row_start b (i - 1)) s).content ≡ Some c
    kind_is = rw read at k

    -- there is room for its leaf
    pub leaf_room : length mid ≡ length before → length (leaves (tree_in b s)) * leaf_size ≤ length before → at + leaf_size ≤ length mid
    leaf_room n room =
        let most = rest_room b i (i - 1) s e h in
        let left = leaves (rest b i s) in
        let more = ap length (rest_leaf b i (i - 1) s e h c kind_is) ∙ length-append left (leaf_of (row_at (row_start b (i - 1)) s).rev c ∷ []) in
        let count = w.count in
        omega arith

    pub leaf_put : {after : List ℕ} → length mid ≡ length before → at + leaf_size ≤ length mid → LeafPut mid at (leaf_of r.rev c) after
        → Written (leaves (rest b (i - 1) s)) before (at + leaf_size) after
    leaf_put {after} n room put =
        let f : after ≡ splice mid at (leaf_bytes (leaf_of (row_at (row_start b (i - 1)) s).rev c)) = rw read at put.is in
        let z : length (leaf_bytes (leaf_of (row_at (row_start b (i - 1)) s).rev c)) ≡ leaf_size = rw read at put.size in
        written_more _ _ _ _ _ _ _ (rest_leaf b i (i - 1) s e h c kind_is) z (omega arith) w f
