-- A row's bytes are read back, and how code writes and compares them. Assumes nothing.
use mathlib.Core.Path.{◌≡◌, refl, ap, ap₂, ◌∙◌}
use Rattle.std.specs.declared.cmp.Ordering.{Ordering}
use Rattle.std.specs.declared.cmp.Ordering.TheVariants.{Less, Equal, Greater}
use Rattle.std.specs.Ordering.{nat_cmp, MatchOrdering}
use Rattle.std.specs.Cmp.{nat_cmp_is}
use mathlib.Core.List.{List, [], ◌∷◌, ◌++◌}
use Rattle.std.specs.Option.{unwrap_or}
use Rattle.std.specs.Prelude.{Option, None, Some}
use Prim.Native.Nat.{ℕ, pred, ◌+◌, ◌-◌, ◌≤◌, ◌<◌}
use native.Mathlib.Omega.{arith}
use lib.Dec.{eqb}
use lib.ListN.{length, get_or, set, replicate, length-append}
use Rattle.rules.specs.declared.Content.{Content}
use Rattle.rules.specs.declared.Content.TheVariants.{Live, Deleted}
use Rattle.rules.specs.declared.Revision.{Revision}
use Rattle.rules.specs.Bytes.{be, value, part}
use Rattle.rules.specs.Layout as layout
use Rattle.rules.specs.Layout.{hash_in, kind_in, known_in, row_zero_in, parent_hash_in, label_in, row_size, row_of}
use Rattle.rules.specs.Order.{order_n, and_then, order_bytes, order_rev}
use Rattle.rules.specs.Choice.{pick}
use Rattle.rules.specs.Replica.{Hash, Node}
use Rattle.rules.specs.Room.{hash_size, labels}
use Rattle.rules.proofs.ByteLaws.{length-be, value_be, part-front, part_whole, part-past, part-part, get_d_past}
use Rattle.rules.proofs.OrderLaws.{less_order_n, order_n_less, order_n_same, order_n_turn}
use Rattle.octets.specs.Splice.{splice}
use Rattle.octets.proofs.ByteOrderLaws.{greater_order_n, equal_order_n}
use Rattle.octets.proofs.SpliceLaws.{length-splice, chain, five, stores}
use Rattle.tree.specs.Rows.{parent_of, meaning, kind_from, row_from, node_held, row_at, node_at, rev_at}
use Rattle.tree.specs.Rows.{kind_byte, label_held, known_byte, parent_held, stored_row, FitsParent, FitsContent, FitsRow}

pub row_at_means : (at : ℕ) (s : List ℕ) → meaning (row_at at s) ≡ node_at at s
unfolding row_at node_at node_held
row_at_means at s = refl

-- ---- a row's bytes

length-parent : (v : Revision) (p : Option Revision) → FitsParent v p → length (parent_held p) ≡ hash_size
length-parent v None h = refl
length-parent v (Some p) h = h.1

pub length_row : (v : Revision × Node) → FitsRow v → length (stored_row v) ≡ row_size
unfolding stored_row
length_row v h =
    let p = length-parent v.0 v.1.parent h.parent in
    simp (length-append, length-be) (omega (arith, h.hash))

parent_back : (v : Revision) (p : Option Revision) (w : layout.Row) → FitsParent v p → w.rev ≡ v → w.flag ≡ known_byte p → w.parent ≡ parent_held p
    → parent_of w.rev (pick (eqb w.flag 0) None (Some w.parent)) ≡ p
parent_back v None w h r f e = rw f
parent_back v (Some p) w h r f e =
    let n : pred w.rev.number.0 ≡ p.number.0 = rw (r, h.0) in
    rw f (λ i. Some (record { number = record { 0 = n i }; hash = e i }))

label_small : (c : Option Content) → FitsContent c → label_held c < labels
label_small None h = omega arith
label_small (Some (Live n)) h = h
label_small (Some Deleted) h = omega arith

content_back : (c : Option Content) → (kind_from (kind_byte c) (label_held c)) ≡ c
unfolding kind_from
content_back None = refl
content_back (Some (Live n)) = refl
content_back (Some Deleted) = refl

-- where the parent's hash and the label begin, counted from the kind on
abbrev parent_after : ℕ
parent_after = parent_hash_in - kind_in

abbrev label_after : ℕ
label_after = label_in - kind_in

past_marks : (m : ℕ) (T : List ℕ) (k f : ℕ) → part parent_after m (k ∷ f ∷ (be 2 0 ++ T)) ≡ part 0 m T
unfolding part be
past_marks m T k f = refl

past_parent : (m : ℕ) (P L : List ℕ) (k f : ℕ) → length P ≡ hash_size → part label_after m (k ∷ f ∷ (be 2 0 ++ (P ++ L))) ≡ part 0 m L
unfolding part be
past_parent m P L k f p = part-past P L hash_size 0 m p

-- the fields of a row's bytes
record RowFields (v : Revision × Node) (w : layout.Row) : Type 0 where
  rev : w.rev ≡ v.0
  kind : w.kind ≡ kind_byte v.1.content
  flag : w.flag ≡ known_byte v.1.parent
  parent : w.parent ≡ parent_held v.1.parent
  label : w.label ≡ label_held v.1.content

row_fields : (v : Revision × Node) → FitsRow v → RowFields v (row_of (stored_row v))
unfolding stored_row row_of
row_fields v h =
    let N : List ℕ = be 4 v.0.number.0 in
    let H : List ℕ = v.0.hash in
    let P : List ℕ = parent_held v.1.parent in
    let L : List ℕ = be 8 (label_held v.1.content) in
    let R : List ℕ = kind_byte v.1.content ∷ known_byte v.1.parent ∷ (be 2 0 ++ (P ++ L)) in
    let w : List ℕ = N ++ (H ++ R) in
    let n : length N ≡ hash_in = length-be 4 v.0.number.0 in
    let p : length P ≡ hash_size = length-parent v.0 v.1.parent h.parent in
    let l : length L ≡ 8 = length-be 8 (label_held v.1.content) in
    let number : value (part 0 4 w) ≡ v.0.number.0 = ap value (part-front N (H ++ R) hash_in n) ∙ value_be 4 v.0.number.0 h.number in
    let hash : part hash_in hash_size w ≡ H = part-past N (H ++ R) hash_in 0 hash_size n ∙ part-front H R hash_size h.hash in
    let mark : (k : ℕ) → get_or w (hash_in + (hash_size + k)) 0 ≡ get_or R k 0
    = λ k. get_d_past N (H ++ R) hash_in (hash_size + k) n ∙ get_d_past H R hash_size k h.hash in
    let later : (k m : ℕ) → part (hash_in + (hash_size + k)) m w ≡ part k m R
    = λ k m. part-past N (H ++ R) hash_in (hash_size + k) m n ∙ part-past H R hash_size k m h.hash in
    let parent : part parent_hash_in hash_size w ≡ P = later parent_after hash_size ∙ (past_marks hash_size (P ++ L) _ _ ∙ part-front P L hash_size p) in
    let label : part label_in 8 w ≡ L = later label_after 8 ∙ (past_parent 8 P L _ _ p ∙ part_whole L 8 l) in
    record {
      rev = λ i. record { number = record { 0 = number i }; hash = hash i };
      kind = mark 0;
      flag = mark 1;
      parent = parent;
      label = ap value label ∙ value_be 8 (label_held v.1.content) (label_small v.1.content h.content);
    }

-- a row's bytes are read back
pub row_back : (v : Revision × Node) → FitsRow v → node_held (row_of (stored_row v)) ≡ v
unfolding node_held meaning row_from
row_back v h =
    let f = row_fields v h in
    let p = parent_back v.0 v.1.parent (row_of (stored_row v)) h.parent f.rev f.flag f.parent in
    let c = ap₂ (λ (k l : ℕ). (kind_from k l)) f.kind f.label ∙ content_back v.1.content in
    λ i. (f.rev i, record { parent = p i; content = c i })

-- a row that was put together from its fields fits
pub parent_fits : (v : Revision) (o : Option Hash) → length (unwrap_or o (replicate hash_size 0)) ≡ hash_size → FitsParent v (parent_of v o)
parent_fits v None h = tt
parent_fits v (Some p) h = (refl, h)

-- what is stored for a parent
pub parent_stored : (v : Revision) (o : Option Hash) → unwrap_or o (replicate hash_size 0) ≡ parent_held (parent_of v o)
parent_stored v None = refl
parent_stored v (Some p) = refl

pub known_stored : (v : Revision) (o : Option Hash) → known_byte o ≡ known_byte (parent_of v o)
known_stored v None = refl
known_stored v (Some p) = refl

pub content_fits : (k : Option Content) → label_held k < labels → FitsContent k
content_fits None h = tt
content_fits (Some (Live n)) h = h
content_fits (Some Deleted) h = tt

-- the marks that code writes for a row: kind, flag and zeros
pub marks_written : (s : List ℕ) (at k f : ℕ) → at + row_size ≤ length s
    → splice (set (set s (at + kind_in) k) (at + known_in) f) (at + row_zero_in) (be 2 0) ≡ splice s (at + kind_in) (k ∷ f ∷ be 2 0)
marks_written s at k f room =
    let s1 : List ℕ = splice s (at + kind_in) (k ∷ []) in
    let n1 : length s1 ≡ length s = length-splice s (at + kind_in) (k ∷ []) (omega arith) in
    let z : length (be 2 0) ≡ 2 = length-be 2 0 in
    let one : set s (at + kind_in) k ≡ s1 = stores (k ∷ []) s (at + kind_in) (omega arith) in
    let two : set s1 (at + known_in) f ≡ splice s1 (at + known_in) (f ∷ []) = stores (f ∷ []) s1 (at + known_in) (omega arith) in
    rw (one, two)
    (chain s1 (f ∷ []) (be 2 0) (at + known_in) (at + row_zero_in) (omega arith) (omega arith)
    ∙ chain s (k ∷ []) (f ∷ be 2 0) (at + kind_in) (at + known_in) (omega arith) (omega arith))

-- the five runs that code writes for a row
module _ (s : List ℕ) (at : ℕ) (v : Revision × Node) where
  abbrev marks : List ℕ
  marks = kind_byte v.1.content ∷ known_byte v.1.parent ∷ be 2 0

  abbrev label : List ℕ
  label = be 8 (label_held v.1.content)

  abbrev front : List ℕ
  front = splice (splice s at (be 4 v.0.number.0)) (at + hash_in) v.0.hash

  pub row_written : FitsRow v → at + row_size ≤ length s
      → splice (splice (splice front (at + kind_in) marks) (at + parent_hash_in) (parent_held v.1.parent)) (at + label_in) label ≡ splice s at (stored_row v)
  unfolding stored_row
  row_written h room =
      let z = length-be 2 0 in
      let n = length-be 4 v.0.number.0 in
      let l = length-be 8 (label_held v.1.content) in
      let p = length-parent v.0 v.1.parent h.parent in
      let q = h.hash in
      five s (be 4 v.0.number.0) v.0.hash marks (parent_held v.1.parent) label
      at (at + hash_in) (at + kind_in) (at + parent_hash_in) (at + label_in) (omega arith) (omega arith) (omega arith) (omega arith) (omega arith)

-- ---- the order

-- numbers are ordered as the library orders them
pub order_n_cmp : (a b : ℕ) → order_n a b ≡ nat_cmp a b
order_n_cmp a b = nat_cmp_is a b (order_n a b) (go (order_n a b) refl)
  where
    go : (o : Ordering) → order_n a b ≡ o → MatchOrdering o (a < b) (a ≡ b) (b < a)
    go Less e = order_n_less a b e
    go Equal e = order_n_same a b e
    go Greater e = order_n_less b a (order_n_turn a b e)

module _ (a b : Revision) where
  pub rev_less : a.number.0 < b.number.0 → order_rev a b ≡ Less
  unfolding order_rev
  rev_less h = rw (less_order_n a.number.0 b.number.0 h)

  pub rev_greater : b.number.0 < a.number.0 → order_rev a b ≡ Greater
  unfolding order_rev
  rev_greater h = rw (greater_order_n a.number.0 b.number.0 h)

  -- where the numbers are level the hashes decide, else the numbers
  pub rev_level : a.number.0 ≡ b.number.0 → order_rev a b ≡ order_bytes a.hash b.hash
  unfolding order_rev
  rev_level h = rw (equal_order_n a.number.0 b.number.0 h)

  pub rev_apart : (order_n a.number.0 b.number.0 ≡ Equal → ⊥) → order_rev a b ≡ order_n a.number.0 b.number.0
  unfolding order_rev
  rev_apart n = go (order_n a.number.0 b.number.0) n
    where
      go : (o : Ordering) → (o ≡ Equal → ⊥) → and_then o (order_bytes a.hash b.hash) ≡ o
      go Less m = refl
      go Equal m = absurd (m refl)
      go Greater m = refl

-- the revision at a place, in the bytes there
module _ (at : ℕ) (s : List ℕ) where
  pub rev_is : (row_of (part at row_size s)).rev ≡ rev_at at s
  unfolding rev_at node_at node_held meaning row_from
  rev_is = refl

  pub rev_number : (rev_at at s).number.0 ≡ value (part at 4 s)
  unfolding rev_at node_at node_held meaning row_from row_of
  rev_number =
      let e : at + 0 ≡ at = omega arith in
      ap value (part-part 0 4 at row_size s (omega arith) ∙ rw e)

  pub rev_hash : (rev_at at s).hash ≡ part (at + hash_in) hash_size s
  unfolding rev_at node_at node_held meaning row_from row_of
  rev_hash = part-part hash_in hash_size at row_size s (omega arith)
