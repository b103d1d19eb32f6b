-- One row: its bytes are read back, its fields are written back, and a row that is not bad is
-- one known revision. Assumes nothing.
use mathlib.Core.Path.{◌≡◌, refl, sym, ap, ◌∙◌, subst}
use mathlib.Core.Bool.{Bool, true, false, not, ◌&&◌}
use mathlib.Core.List.{List, [], ◌∷◌, ◌++◌}
use mathlib.Core.Logic.{◌≢◌}
use Rattle.std.specs.Prelude.{Option, None, Some}
use Prim.Native.Nat.{ℕ, zero, suc, pred, ◌+◌, ◌≤◌, ◌<◌}
use native.Mathlib.Omega.{arith}
use lib.Dec.{eqb, ltb}
use lib.ListN.{length, get_or, drop, replicate, length-append}
use borrow.Author.Tests.{ltb-false, eqb-true, eqb-false, not-true, not-false, le-ltb, eq-eqb, ne_eqb}
use Rattle.rules.specs.declared.Content.{Content}
use Rattle.rules.specs.declared.Content.TheVariants.{Live, Deleted}
use Rattle.rules.specs.declared.Revision.{Revision}
use Rattle.rules.specs.Bytes.{be, value, part, Bytes, all_zero}
use Rattle.rules.specs.Choice.{pick}
use Rattle.rules.specs.Faults.{bad_row}
use Rattle.rules.specs.Image.{row_bytes, parent_of_row, node_in, content_of_kind, kind_of, label_of, flag_of, parent_hash}
use Rattle.rules.specs.Layout.{Row, row_of, row_size, hash_in, kind_in, known_in, row_zero_in, parent_hash_in, label_in}
use Rattle.rules.specs.Replica.{Hash, revision, Node, IsRevision, IsContent}
use Rattle.rules.specs.Room.{number_most, labels, hash_size}
use Rattle.rules.proofs.MapLaws.{none≢some, some_inj}
use Rattle.images.proofs.Tests.{true≢false, none7, all7, both_none, and_none, zeros, all_zeros}
use Rattle.rules.proofs.ByteLaws.{length-be, bytes_be, value_be, value_below, bytes_append, bytes_part, bytes_at, bytes_zeros, length_part, part-front, part_whole, part-past, get_d_past, part-next, byte_next, number_next, number_last}

-- ---- fields and bytes

-- a row's bytes, by its fields
unfoldable pub row_with : Row → List ℕ
row_with w =
    be 4 w.rev.number.0
    ++ (w.rev.hash ++ (w.kind ∷ w.flag ∷ (be 2 w.zero ++ (w.parent ++ be 8 w.label))))

-- fields that have room in their bytes
pub record RowFits (w : Row) : Type 0 where
  pub number : w.rev.number.0 < 4294967296
  pub hash : length w.rev.hash ≡ hash_size
  pub hash_bytes : Bytes w.rev.hash
  pub kind : w.kind < 256
  pub flag : w.flag < 256
  pub zero : w.zero < 65536
  pub parent : length w.parent ≡ hash_size
  pub parent_bytes : Bytes w.parent
  pub label : w.label < labels

pub length_row_with : (w : Row) → RowFits w → length (row_with w) ≡ row_size
unfolding row_with
length_row_with w f =
    let h = f.hash in let p = f.parent in simp (length-append, length-be) (omega arith)

pub bytes_row_with : (w : Row) → RowFits w → Bytes (row_with w)
unfolding row_with
bytes_row_with w f =
    bytes_append (be 4 w.rev.number.0) _ (bytes_be 4 w.rev.number.0)
    (bytes_append w.rev.hash _ f.hash_bytes (
      f.kind,
      (
        f.flag,
        bytes_append (be 2 w.zero) _ (bytes_be 2 w.zero) (bytes_append w.parent _ f.parent_bytes (bytes_be 8 w.label)),
      ),
    ))

-- what is written is read back
pub row_read : (w : Row) → RowFits w → row_of (row_with w) ≡ w
unfolding row_of row_with
row_read w f =
    let N : List ℕ = be 4 w.rev.number.0 in
    let H : List ℕ = w.rev.hash in
    let Z : List ℕ = be 2 w.zero in
    let P : List ℕ = w.parent in
    let L : List ℕ = be 8 w.label in
    let t3 : List ℕ = P ++ L in
    let t2 : List ℕ = w.kind ∷ w.flag ∷ (Z ++ t3) in
    let t1 : List ℕ = H ++ t2 in
    let n4 : length N ≡ 4 = length-be 4 w.rev.number.0 in
    let z2 : length Z ≡ 2 = length-be 2 w.zero in
    let h : length H ≡ hash_size = f.hash in
    let past : (k n : ℕ) → part (hash_in + (hash_size + k)) n (N ++ t1) ≡ part k n t2 =
    λ k n. part-past N t1 4 (hash_size + k) n n4 ∙ part-past H t2 hash_size k n h in
    let past1 : (k : ℕ) → get_or (N ++ t1) (hash_in + (hash_size + k)) 0 ≡ get_or t2 k 0 =
    λ k. get_d_past N t1 4 (hash_size + k) n4 ∙ get_d_past H t2 hash_size k h in
    let eNumber : value (part 0 4 (N ++ t1)) ≡ w.rev.number.0 = ap value (part-front N t1 4 n4) ∙ value_be 4 w.rev.number.0 f.number in
    let eHash : part hash_in hash_size (N ++ t1) ≡ H = part-past N t1 4 0 hash_size n4 ∙ part-front H t2 hash_size h in
    let eKind : get_or (N ++ t1) kind_in 0 ≡ w.kind = past1 0 in
    let eKnown : get_or (N ++ t1) known_in 0 ≡ w.flag = past1 1 in
    let eZero : value (part row_zero_in 2 (N ++ t1)) ≡ w.zero =
    ap value (past 2 2 ∙ (part-past (w.kind ∷ w.flag ∷ []) (Z ++ t3) 2 0 2 refl ∙ part-front Z t3 2 z2)) ∙ value_be 2 w.zero f.zero in
    let eParent : part parent_hash_in hash_size (N ++ t1) ≡ P =
    past 4 hash_size ∙ (part-past (w.kind ∷ w.flag ∷ []) (Z ++ t3) 2 2 hash_size refl ∙ (part-past Z t3 2 0 hash_size z2 ∙ part-front P L hash_size f.parent)) in
    let eLabel : value (part label_in 8 (N ++ t1)) ≡ w.label =
    ap value
    (past (4 + hash_size) 8
    ∙ (part-past (w.kind ∷ w.flag ∷ []) (Z ++ t3) 2 (2 + hash_size) 8 refl
    ∙ (part-past Z t3 2 hash_size 8 z2 ∙ (part-past P L hash_size 0 8 f.parent ∙ part_whole L 8 (length-be 8 w.label)))))
    ∙ value_be 8 w.label f.label in
    λ i. record {
      rev = record { number = record { 0 = eNumber i }; hash = eHash i };
      kind = eKind i;
      flag = eKnown i;
      zero = eZero i;
      parent = eParent i;
      label = eLabel i;
    }

module _ (b : List ℕ) (p : Bytes b) (size : length b ≡ row_size) where
  -- what is read fits
  pub row_fits : RowFits (row_of b)
  unfolding row_of
  row_fits = record {
    number = value_below 4 (part 0 4 b) (length_part 0 4 b (omega arith)) (bytes_part 0 4 b p);
    hash = length_part hash_in hash_size b (omega arith);
    hash_bytes = bytes_part hash_in hash_size b p;
    kind = bytes_at b kind_in p;
    flag = bytes_at b known_in p;
    zero = value_below 2 (part row_zero_in 2 b) (length_part row_zero_in 2 b (omega arith)) (bytes_part row_zero_in 2 b p);
    parent = length_part parent_hash_in hash_size b (omega arith);
    parent_bytes = bytes_part parent_hash_in hash_size b p;
    label = value_below 8 (part label_in 8 b) (length_part label_in 8 b (omega arith)) (bytes_part label_in 8 b p);
  }

  -- what is read is written back
  pub row_written : row_with (row_of b) ≡ b
  unfolding row_with row_of
  row_written =
      let N : List ℕ = be 4 (value (part 0 4 b)) in
      let Z : List ℕ = be 2 (value (part row_zero_in 2 b)) in
      let L : List ℕ = be 8 (value (part label_in 8 b)) in
      let eLabel : L ≡ drop label_in b = number_last label_in 8 b p (sym size) in
      let eParent : part parent_hash_in hash_size b ++ L ≡ drop parent_hash_in b =
      ap (λ (l : List ℕ). part parent_hash_in hash_size b ++ l) eLabel ∙ sym (part-next parent_hash_in hash_size label_in b refl) in
      let eZero : Z ++ (part parent_hash_in hash_size b ++ L) ≡ drop row_zero_in b =
      ap (λ (l : List ℕ). Z ++ l) eParent ∙ number_next row_zero_in 2 parent_hash_in b p refl (omega arith) in
      let eKnown : ◌≡◌ {A = List ℕ} (get_or b known_in 0 ∷ (Z ++ (part parent_hash_in hash_size b ++ L))) (drop known_in b) =
      ap {B = List ℕ} (λ l. get_or b known_in 0 ∷ l) eZero ∙ sym (byte_next known_in row_zero_in b refl (omega arith)) in
      let eKind : ◌≡◌ {A = List ℕ} (get_or b kind_in 0 ∷ get_or b known_in 0 ∷ (Z ++ (part parent_hash_in hash_size b ++ L))) (drop kind_in b) =
      ap {B = List ℕ} (λ l. get_or b kind_in 0 ∷ l) eKnown ∙ sym (byte_next kind_in known_in b refl (omega arith)) in
      let eHash = ap (λ (l : List ℕ). part hash_in hash_size b ++ l) eKind ∙ sym (part-next hash_in hash_size kind_in b refl) in
      ap (λ (l : List ℕ). N ++ l) eHash ∙ number_next 0 4 hash_in b p refl (omega arith)

-- ---- a row that is not bad

-- "kind, flag, zeros, number 0, parent at number 1, hash or label not zero"
pub record RowRules (w : Row) : Type 0 where
  pub kind : w.kind ≤ 2
  pub flag : w.flag ≤ 1
  pub zero : w.zero ≡ 0
  pub number : 1 ≤ w.rev.number.0
  pub first : w.flag ≡ 1 → w.rev.number.0 ≡ 1 → ⊥
  pub hash : w.flag ≡ 0 → all_zero w.parent ≡ true
  pub label : (w.kind ≡ 1 → ⊥) → w.label ≡ 0

pub rules_row : (w : Row) → RowRules w → bad_row w ≡ false
unfolding bad_row
rules_row w r =
    all7 (ltb 2 w.kind) (ltb 1 w.flag) (not (eqb w.zero 0)) (eqb w.rev.number.0 0)
    (eqb w.flag 1 && eqb w.rev.number.0 1) (eqb w.flag 0 && not (all_zero w.parent))
    (not (eqb w.kind 1) && not (eqb w.label 0)) (
      le-ltb 2 w.kind r.kind,
      le-ltb 1 w.flag r.flag,
      ap not (eq-eqb w.zero 0 r.zero),
      ne_eqb w.rev.number.0 0 (λ e. let h = r.number in omega arith),
      both_none (eqb w.flag 1) (eqb w.rev.number.0 1) (λ e. ne_eqb w.rev.number.0 1 (r.first (eqb-true w.flag 1 e))),
      both_none (eqb w.flag 0) (not (all_zero w.parent)) (λ e. ap not (r.hash (eqb-true w.flag 0 e))),
      both_none (not (eqb w.kind 1)) (not (eqb w.label 0)) (λ e. ap not (eq-eqb w.label 0 (r.label (eqb-false w.kind 1 (not-true (eqb w.kind 1) e))))),
    )

pub row_rules : (w : Row) → bad_row w ≡ false → RowRules w
unfolding bad_row
row_rules w e =
    let n =
    none7 (ltb 2 w.kind) (ltb 1 w.flag) (not (eqb w.zero 0)) (eqb w.rev.number.0 0)
    (eqb w.flag 1 && eqb w.rev.number.0 1) (eqb w.flag 0 && not (all_zero w.parent))
    (not (eqb w.kind 1) && not (eqb w.label 0)) e in
    record {
      kind = ltb-false 2 w.kind n.0;
      flag = ltb-false 1 w.flag n.1;
      zero = eqb-true w.zero 0 (not-false (eqb w.zero 0) n.2);
      number = let h : w.rev.number.0 ≢ 0 = eqb-false w.rev.number.0 0 n.3 in omega arith;
      first = λ p q. true≢false (sym (eq-eqb w.rev.number.0 1 q) ∙ and_none (eqb w.flag 1) (eqb w.rev.number.0 1) n.4 (eq-eqb w.flag 1 p));
      hash = λ p. not-false (all_zero w.parent) (and_none (eqb w.flag 0) (not (all_zero w.parent)) n.5 (eq-eqb w.flag 0 p));
      label = λ p. eqb-true w.label 0 (not-false (eqb w.label 0) (and_none (not (eqb w.kind 1)) (not (eqb w.label 0)) n.6 (ap not (ne_eqb w.kind 1 p))));
    }

-- ---- a row and a known revision

-- what one known revision satisfies by itself
pub record IsRow (v : Revision × Node) : Type 0 where
  pub rev : IsRevision v.0
  pub parent : (p : Revision) → v.1.parent ≡ Some p → IsRevision p
  pub lower : (p : Revision) → v.1.parent ≡ Some p → suc p.number.0 ≡ v.0.number.0
  pub content : (c : Content) → v.1.content ≡ Some c → IsContent c

-- the fields that it has
unfoldable pub row_for : Revision × Node → Row
row_for v = record {
  rev = v.0;
  kind = kind_of v.1.content;
  flag = flag_of v.1.parent;
  zero = 0;
  parent = parent_hash v.1.parent;
  label = label_of v.1.content;
}

pub row_bytes_fields : (v : Revision × Node) → row_bytes v ≡ row_with (row_for v)
unfolding row_bytes row_with row_for
row_bytes_fields v = refl

-- the parent that a flag, a number and a hash say
unfoldable parent_from : ℕ → ℕ → Hash → Option Revision
parent_from f n h = pick (eqb f 0) None (Some (revision (pred n) h))

flag_parent : (f n : ℕ) (h : Hash) → f ≤ 1 → flag_of (parent_from f n h) ≡ f
unfolding parent_from
flag_parent zero n h l = refl
flag_parent (suc zero) n h l = refl
flag_parent (suc (suc f)) n h l = absurd (omega arith)

hash_parent : (f n : ℕ) (h : Hash) → f ≤ 1 → length h ≡ hash_size → (f ≡ 0 → all_zero h ≡ true) → parent_hash (parent_from f n h) ≡ h
unfolding parent_from
hash_parent zero n h l s z = ap (λ (k : ℕ). replicate k 0) (sym s) ∙ sym (zeros h (z refl))
hash_parent (suc zero) n h l s z = refl
hash_parent (suc (suc f)) n h l s z = absurd (omega arith)

parent_from_lem : (f n : ℕ) (h : Hash) (p : Revision) → parent_from f n h ≡ Some p → revision (pred n) h ≡ p
unfolding parent_from
parent_from_lem zero n h p e = absurd (none≢some e)
parent_from_lem (suc f) n h p e = some_inj (ap (λ (b : Bool). pick b None (Some (revision (pred n) h))) (sym (ne_eqb (suc f) 0 (λ x. omega arith))) ∙ e)

parent_flag : (f n : ℕ) (h : Hash) (p : Revision) → parent_from f n h ≡ Some p → 1 ≤ f
unfolding parent_from
parent_flag zero n h p e = absurd (none≢some e)
parent_flag (suc f) n h p e = omega arith

kind_content : (k l : ℕ) → k ≤ 2 → kind_of (content_of_kind k l) ≡ k
kind_content zero l h = refl
kind_content (suc zero) l h = refl
kind_content (suc (suc zero)) l h = refl
kind_content (suc (suc (suc k))) l h = absurd (omega arith)

label_content : (k l : ℕ) → k ≤ 2 → ((k ≡ 1 → ⊥) → l ≡ 0) → label_of (content_of_kind k l) ≡ l
label_content zero l h z = sym (z λ e. omega arith)
label_content (suc zero) l h z = refl
label_content (suc (suc zero)) l h z = sym (z λ e. omega arith)
label_content (suc (suc (suc k))) l h z = absurd (omega arith)

is_content : (k l : ℕ) (c : Content) → k ≤ 2 → l < labels → content_of_kind k l ≡ Some c → IsContent c
is_content zero l c h m e = absurd (none≢some e)
is_content (suc zero) l c h m e = subst IsContent (some_inj e) m
is_content (suc (suc zero)) l c h m e = subst IsContent (some_inj e) tt
is_content (suc (suc (suc k))) l c h m e = absurd (omega arith)

-- ---- from a known revision to its row and back

pub row_of_node : (v : Revision × Node) → IsRow v → node_in (row_for v) ≡ v
unfolding node_in row_for parent_of_row
row_of_node v r = λ i. (v.0, record { parent = e i; content = content_back v.1.content i })
  where
    content_back : (c : Option Content) → content_of_kind (kind_of c) (label_of c) ≡ c
    content_back None = refl
    content_back (Some (Live n)) = refl
    content_back (Some Deleted) = refl

    go : (p : Option Revision) → ((u : Revision) → p ≡ Some u → suc u.number.0 ≡ v.0.number.0)
        → pick (eqb (flag_of p) 0) None (Some (revision (pred v.0.number.0) (parent_hash p))) ≡ p
    go None f = refl
    go (Some u) f = let h = f u refl in let k : pred v.0.number.0 ≡ u.number.0 = omega arith in λ i. Some (record { number = record { 0 = k i }; hash = u.hash })

    e : pick (eqb (flag_of v.1.parent) 0) None (Some (revision (pred v.0.number.0) (parent_hash v.1.parent))) ≡ v.1.parent
    e = go v.1.parent r.lower

pub node_of_row : (w : Row) → RowFits w → RowRules w → row_for (node_in w) ≡ w
unfolding node_in row_for parent_of_row parent_from
node_of_row w f r =
    let flag = flag_parent w.flag w.rev.number.0 w.parent r.flag in
    let hash = hash_parent w.flag w.rev.number.0 w.parent r.flag f.parent r.hash in
    let kind = kind_content w.kind w.label r.kind in
    let label = label_content w.kind w.label r.kind r.label in
    let z : 0 ≡ w.zero = sym r.zero in
    λ i. record { rev = w.rev; kind = kind i; flag = flag i; zero = z i; parent = hash i; label = label i }

-- what a flag, a number and a hash of a row that is not bad give
pub node_is : (w : Row) → RowFits w → RowRules w → IsRow (node_in w)
unfolding node_in parent_of_row parent_from
node_is w f r =
    let n : ℕ = w.rev.number.0 in
    let most = f.number in
    let least = r.number in
    let parent : (p : Revision) → parent_from w.flag n w.parent ≡ Some p → IsRevision p × (suc p.number.0 ≡ n) =
    λ p e.
    let one = parent_flag w.flag n w.parent p e in
    let top = r.flag in
    let flag : w.flag ≡ 1 = omega arith in
    let above : n ≢ 1 = r.first flag in
    let low : 1 ≤ pred n = omega arith in
    let high : pred n ≤ number_most = omega arith in
    let one_lower : suc (pred n) ≡ n = omega arith in
    subst (λ (v : Revision). IsRevision v × (suc v.number.0 ≡ n)) (parent_from_lem w.flag n w.parent p e)
    (record { bytes = f.parent_bytes; size = f.parent; least = low; most = high }, one_lower) in
    record {
      rev = record { bytes = f.hash_bytes; size = f.hash; least = least; most = omega arith };
      parent = λ p e. (parent p e).0;
      lower = λ p e. (parent p e).1;
      content = λ c e. is_content w.kind w.label c r.kind f.label e;
    }

-- the fields of a known revision fit and are not bad
pub fields_fit : (v : Revision × Node) → IsRow v → RowFits (row_for v)
unfolding row_for
fields_fit v r =
    let most = r.rev.most in
    record {
      number = omega arith;
      hash = r.rev.size;
      hash_bytes = r.rev.bytes;
      kind = kind v.1.content;
      flag = flag v.1.parent;
      zero = omega arith;
      parent = size v.1.parent r.parent;
      parent_bytes = bytes v.1.parent r.parent;
      label = label v.1.content r.content;
    }
  where
    kind : (c : Option Content) → kind_of c < 256
    kind None = omega arith
    kind (Some (Live n)) = omega arith
    kind (Some Deleted) = omega arith

    flag : (p : Option Revision) → flag_of p < 256
    flag None = omega arith
    flag (Some p) = omega arith

    size : (p : Option Revision) → ((u : Revision) → p ≡ Some u → IsRevision u) → length (parent_hash p) ≡ hash_size
    size None h = refl
    size (Some u) h = (h u refl).size

    bytes : (p : Option Revision) → ((u : Revision) → p ≡ Some u → IsRevision u) → Bytes (parent_hash p)
    bytes None h = bytes_zeros hash_size
    bytes (Some u) h = (h u refl).bytes

    label : (c : Option Content) → ((d : Content) → c ≡ Some d → IsContent d) → label_of c < labels
    label None h = omega arith
    label (Some (Live n)) h = h (Live n) refl
    label (Some Deleted) h = omega arith

pub fields_rules : (v : Revision × Node) → IsRow v → RowRules (row_for v)
unfolding row_for
fields_rules v r = record {
  kind = kind v.1.content;
  flag = flag v.1.parent;
  zero = refl;
  number = r.rev.least;
  first = first v.1.parent r.parent r.lower;
  hash = hash v.1.parent;
  label = label v.1.content;
}
  where
    kind : (c : Option Content) → kind_of c ≤ 2
    kind None = omega arith
    kind (Some (Live n)) = omega arith
    kind (Some Deleted) = omega arith

    flag : (p : Option Revision) → flag_of p ≤ 1
    flag None = omega arith
    flag (Some p) = omega arith

    first : (p : Option Revision) → ((u : Revision) → p ≡ Some u → IsRevision u)
        → ((u : Revision) → p ≡ Some u → suc u.number.0 ≡ v.0.number.0) → flag_of p ≡ 1 → v.0.number.0 ≡ 1 → ⊥
    first None h k e o = omega arith
    first (Some u) h k e o = let l = (h u refl).least in let m = k u refl in omega arith

    hash : (p : Option Revision) → flag_of p ≡ 0 → all_zero (parent_hash p) ≡ true
    hash None e = all_zeros hash_size
    hash (Some u) e = absurd (omega arith)

    label : (c : Option Content) → (kind_of c ≡ 1 → ⊥) → label_of c ≡ 0
    label None h = refl
    label (Some (Live n)) h = absurd (h refl)
    label (Some Deleted) h = refl
