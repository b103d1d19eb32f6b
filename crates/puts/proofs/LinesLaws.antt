-- The lines of a document's leaves, from the last row down. Assumes nothing.
use mathlib.Core.Path.{◌≡◌, refl, sym, ap, ◌∙◌}
use Rattle.std.specs.Prelude.{Option, None, Some}
use mathlib.Core.List.{List, [], ◌∷◌, ◌++◌, map, append_assoc, append-nil}
use mathlib.Core.Logic.{inl}
use Prim.Native.Nat.{ℕ, ◌+◌, ◌-◌, ◌*◌, ◌≤◌, ◌<◌}
use native.Mathlib.Omega.{arith}
use lib.ListN.{length, length-append}
use Rattle.rules.specs.declared.Content.{Content}
use Rattle.rules.specs.declared.RevNumber.{RevNumber}
use Rattle.rules.specs.declared.Revision.{Revision}
use Rattle.rules.specs.Bytes.{join}
use Rattle.rules.specs.Layout.{row_size}
use Rattle.rules.specs.Read.{LeafOf, leaves, path_of}
use Rattle.rules.specs.Replica.{Id, Tree, HasContent, IsTree}
use Rattle.rules.specs.Room.{id_most, hashes_most}
use Rattle.union.proofs.Lists.{in_left, in_right}
use Rattle.union.proofs.Winners.{leaf_content}
use Rattle.octets.proofs.SpliceLaws.{splice_none}
use Rattle.text.specs.Text.{size, Put}
use Rattle.text.proofs.TextLaws.{decimal_longest}
use Rattle.tree.specs.declared.table.Body.{Body}
use Rattle.tree.specs.Leaf.{leaf_of}
use Rattle.tree.specs.Rows.{row_at, rev_at}
use Rattle.tree.specs.Table.{tree_at, tree_in, row_start, Within}
use Rattle.tree.proofs.LeafLaws.{leaves_append, rev_of_row, rest, rest_none, rest_all, rest_inner, rest_leaf}
use Rattle.tree.proofs.TableLaws.{tree_cut}
use Rattle.lines.specs.Put.{leaf_line, lines_text}
use Rattle.puts.specs.Puts.{label_word, end_word, next_size, fixed_size, line_size, CanSize, CanPut}
use Rattle.puts.proofs.LineLaws.{end_most, line_size_lem}

-- ---- the lines of some leaves

abbrev pub lines_of : Id → Tree → List LeafOf → List ℕ
lines_of i t ls = join (map (leaf_line i t) ls)

lines_append : (i : Id) (t : Tree) (xs ys : List LeafOf) → lines_of i t (xs ++ ys) ≡ lines_of i t xs ++ lines_of i t ys
unfolding join
lines_append i t [] ys = refl
lines_append i t (x ∷ xs) ys =
    ap (λ (l : List ℕ). leaf_line i t x ++ l) (lines_append i t xs ys) ∙ sym (append_assoc (leaf_line i t x) (lines_of i t xs) (lines_of i t ys))

lines_one : (i : Id) (t : Tree) (a : LeafOf) → lines_of i t (a ∷ []) ≡ leaf_line i t a
unfolding join
lines_one i t a = append-nil (leaf_line i t a)

-- ---- a row more

-- of the rows from n on
abbrev pub lines_from : Id → Body → List ℕ → ℕ → List ℕ
lines_from i b s n = lines_of i (tree_in b s) (leaves (rest b n s))

pub lines_none : (i : Id) (b : Body) (s : List ℕ) → lines_from i b s b.rows ≡ []
unfolding leaves join
lines_none i b s = ap (λ (t : Tree). lines_of i (tree_in b s) (leaves t)) (rest_none b s)

pub lines_all : (i : Id) (b : Body) (s : List ℕ) (n : ℕ) → n ≡ 0 → lines_from i b s n ≡ lines_text i (tree_in b s)
unfolding lines_text
lines_all i b s n e = ap (λ (t : Tree). lines_of i (tree_in b s) (leaves t)) (rest_all b n s e)

pub put_none : (i : Id) (b : Body) (s out : List ℕ) → Put (lines_from i b s b.rows) out 0 0 out
put_none i b s out = rw (lines_none i b s) (record { is = sym (splice_none out 0); ends = omega arith })

-- row j is a leaf
pub record LeafRow (b : Body) (s : List ℕ) (j : ℕ) (v : Revision) (c : Content) : Type 0 where
  pub kind : (row_at (row_start b j) s).content ≡ Some c
  pub rev : v ≡ rev_at (row_start b j) s

pub leaf_row : {b : Body} {s : List ℕ} {j : ℕ} {v : Revision} {c : Content} {k : Option Content} → k ≡ (row_at (row_start b j) s).content → k ≡ Some c → v ≡ rev_at (row_start b j) s
    → LeafRow b s j v c
leaf_row e f g = record { kind = sym e ∙ f; rev = g }

module _ (i : Id) (b : Body) (s : List ℕ) (n j : ℕ) (e : n ≡ j + 1) (h : n ≤ b.rows) where
  pub row_within : Within b s → row_start b j + row_size ≤ length s
  row_within w = omega arith

  pub lines_inner : {k : Option Content} → k ≡ (row_at (row_start b j) s).content → k ≡ None → lines_from i b s n ≡ lines_from i b s j
  lines_inner f k = sym (ap (lines_of i (tree_in b s)) (rest_inner b n j s e h (sym f ∙ k)))

  all_leaves : leaves (tree_in b s) ≡ leaves (rest b j s) ++ leaves (tree_at b.base j s)
  all_leaves = ap leaves (tree_cut b.base j (b.rows - j) b.rows s (omega arith)) ∙ leaves_append (tree_at b.base j s) (rest b j s)

  module _ {v : Revision} {c : Content} (row : LeafRow b s j v c) where
    one_more_lem : leaves (rest b j s) ≡ leaves (rest b n s) ++ (leaf_of v c ∷ [])
    unfolding rev_at
    one_more_lem =
        rest_leaf b n j s e h c row.kind
        ∙ ap (λ (x : Revision). leaves (rest b n s) ++ (leaf_of x c ∷ [])) (rev_of_row (row_start b j) s ∙ sym row.rev)

    pub lines_leaf : lines_from i b s n ++ leaf_line i (tree_in b s) (leaf_of v c) ≡ lines_from i b s j
    lines_leaf =
        let t = tree_in b s in
        let l = lines_from i b s n in
        sym
        (ap (lines_of i t) one_more_lem
        ∙ (lines_append i t (leaves (rest b n s)) (leaf_of v c ∷ []) ∙ ap (λ (x : List ℕ). l ++ x) (lines_one i t (leaf_of v c))))

    -- the row's leaf is one of the tree
    pub leaf_here : IsTree (tree_in b s) → HasContent (tree_in b s) v c
    leaf_here k =
        let a = leaf_of v c in
        leaf_content (tree_in b s) k.ascending a
        (rw all_leaves
        (in_left a (leaves (rest b j s)) (leaves (tree_at b.base j s))
        (rw one_more_lem (in_right a (leaves (rest b n s)) (a ∷ []) (inl refl)))))

    -- and its line is a part of all lines
    pub line_room : {at m : ℕ} → at ≡ 0 + length (lines_from i b s n) → length (lines_text i (tree_in b s)) ≤ m
        → at + length (leaf_line i (tree_in b s) (leaf_of v c)) ≤ m
    unfolding lines_text
    line_room q r =
        let t = tree_in b s in
        let more = simp length-append at (ap length lines_leaf) in
        let all = simp length-append at (ap length (ap (lines_of i t) all_leaves ∙ lines_append i t (leaves (rest b j s)) (leaves (tree_at b.base j s)))) in
        omega arith

-- ---- how long they are

-- the longest line
abbrev pub line_most : ℕ
line_most = fixed_size + id_most + 2 * 20 + hashes_most * next_size + (size label_word + 20 + size end_word)

pub line_most_lem : (i : ℕ) (n : RevNumber) (k : ℕ) (c : Content) → CanSize i k → line_size i n k c ≤ line_most
unfolding line_size
line_most_lem i n k c h = omega (arith, decimal_longest n.0, end_most c, h.id, h.few)

-- the lines of the rows from n on have this size
pub record LinesSized (i : Id) (b : Body) (s : List ℕ) (n size : ℕ) : Type 0 where
  pub is : size ≡ length (lines_from i b s n)
  pub most : size ≤ line_most * (b.rows - n)

pub sized_none : (i : Id) (b : Body) (s : List ℕ) → LinesSized i b s b.rows 0
sized_none i b s = let e = ap length (lines_none i b s) in record { is = omega arith; most = omega arith }

module _ {i : Id} {b : Body} {s : List ℕ} {n size : ℕ} (sized : LinesSized i b s n size) where
  pub sized_all : n ≡ 0 → size ≡ length (lines_text i (tree_in b s))
  sized_all e = sized.is ∙ ap length (lines_all i b s n e)

  module _ (j : ℕ) (e : n ≡ j + 1) (h : n ≤ b.rows) where
    pub sized_inner : {k : Option Content} → k ≡ (row_at (row_start b j) s).content → k ≡ None → LinesSized i b s j size
    sized_inner f k =
        let m = sized.most in
        record { is = sized.is ∙ ap length (lines_inner i b s n j e h f k); most = omega arith }

    module _ (can : CanPut b s i) {v : Revision} {c : Content} (row : LeafRow b s j v c) {m : ℕ} (path : m ≡ length (path_of (tree_in b s) v)) where
      pub has : HasContent (tree_in b s) v c
      has = leaf_here i b s n j e h row can.rows.is

      pub can_size : CanSize (length i) m
      can_size = let f = can.few (leaf_of v c) has in record { id = can.id; few = omega arith }

      line_most' : line_size (length i) v.number m c ≤ line_most
      line_most' = line_most_lem (length i) v.number m c can_size

      pub sized_fits : {k : ℕ} → k ≡ line_size (length i) v.number m c → size + k < 18446744073709551616
      sized_fits f = let l = line_most' in let q = sized.most in let r = can.most in omega arith

      pub sized_leaf : {k : ℕ} → k ≡ line_size (length i) v.number m c → LinesSized i b s j (size + k)
      sized_leaf f =
          let more = simp length-append at (ap length (lines_leaf i b s n j e h row)) in
          let line = line_size_lem can.rows.is v c has i in
          let n = ap (λ (x : ℕ). line_size (length i) v.number x c) path in
          let l = line_most' in
          let q = sized.is in
          let r = sized.most in
          record { is = omega arith; most = omega arith }
