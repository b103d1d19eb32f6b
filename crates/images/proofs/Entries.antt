-- One entry: its bytes are read back, its fields are written back, and an entry that is not bad is
-- one document's. Assumes nothing.
use mathlib.Core.Path.{◌≡◌, refl, sym, ap, ◌∙◌}
use mathlib.Core.Bool.{true, false, not}
use mathlib.Core.List.{List, [], ◌∷◌, ◌++◌, append_assoc}
use mathlib.Core.Logic.{◌≢◌}
use Rattle.std.specs.Prelude.{Option}
use Prim.Native.Nat.{ℕ, ◌+◌, ◌-◌, ◌≤◌, ◌<◌}
use native.Mathlib.Omega.{arith}
use lib.Dec.{eqb, ltb}
use lib.ListN.{length, get_or, take, drop, replicate, length-append, length-replicate, length-take, take-append-drop}
use lib.Seq.{take_at, drop_at}
use borrow.Author.Tests.{ltb-false, eqb-true, eqb-false, not-false, le-ltb, eq-eqb, ne_eqb}
use Rattle.rules.specs.Bytes.{be, value, part, Bytes, all_zero}
use Rattle.rules.specs.Faults.{bad_entry, not_above}
use Rattle.rules.specs.Image.{entry_bytes}
use Rattle.rules.specs.Layout.{Entry, entry_of, entry_size, id_in, entry_zero_in, count_in, own_in, place_in}
use Rattle.rules.specs.Replica.{Id, Document, IsId}
use Rattle.rules.specs.Room.{id_most, seq_most}
use Rattle.rules.proofs.ByteLaws.{length-be, bytes_be, value_be, value_below, bytes_append, bytes_take, bytes_drop, bytes_part, bytes_at, bytes_zeros, length_part, part-front, part_whole, part-past, get_d_past, part-next, byte_next, number_next, number_last}
use Rattle.images.proofs.Tests.{none7, all7, zeros, all_zeros}

-- ---- fields and bytes

-- an entry's bytes, by its fields
unfoldable pub entry_with : Entry → List ℕ
entry_with e = e.size ∷ (e.id ++ (e.fill ++ (e.zero ∷ (be 2 e.rows ++ (be 4 e.seq ++ be 4 e.place)))))

-- fields that have room in their bytes
pub record EntryFits (e : Entry) : Type 0 where
  pub size : e.size < 256
  pub id : e.size ≤ id_most → length e.id ≡ e.size
  pub filled : length e.id + length e.fill ≡ id_most
  pub id_bytes : Bytes e.id
  pub fill_bytes : Bytes e.fill
  pub zero : e.zero < 256
  pub rows : e.rows < 65536
  pub seq : e.seq < 4294967296
  pub place : e.place < 4294967296

pub length_entry_with : (e : Entry) → EntryFits e → length (entry_with e) ≡ entry_size
unfolding entry_with
length_entry_with e f = let h = f.filled in simp (length-append, length-be) (omega arith)

pub bytes_entry_with : (e : Entry) → EntryFits e → Bytes (entry_with e)
unfolding entry_with
bytes_entry_with e f = (
  f.size,
  bytes_append e.id _ f.id_bytes
      (bytes_append e.fill _ f.fill_bytes (
        f.zero,
        bytes_append (be 2 e.rows) _ (bytes_be 2 e.rows)
            (bytes_append (be 4 e.seq) _ (bytes_be 4 e.seq) (bytes_be 4 e.place)),
      )),
)

-- what is written is read back
pub entry_read : (e : Entry) → EntryFits e → e.size ≤ id_most → entry_of (entry_with e) ≡ e
unfolding entry_of entry_with
entry_read e f most =
    let R : List ℕ = be 2 e.rows in
    let S : List ℕ = be 4 e.seq in
    let P : List ℕ = be 4 e.place in
    let I : List ℕ = e.id ++ e.fill in
    let t : List ℕ = R ++ (S ++ P) in
    let B : List ℕ = entry_with e in
    let filled : length I ≡ id_most = length-append e.id e.fill ∙ f.filled in
    let r2 : length R ≡ 2 = length-be 2 e.rows in
    let s4 : length S ≡ 4 = length-be 4 e.seq in
    let b : ◌≡◌ {A = List ℕ} B (e.size ∷ (I ++ (e.zero ∷ t))) =
    ap {B = List ℕ} (λ l. e.size ∷ l) (sym (append_assoc e.id e.fill (e.zero ∷ t))) in
    let past : (k n : ℕ) → part (id_in + (id_most + (1 + k))) n B ≡ part k n t =
    λ k n.
    ap (part (id_in + (id_most + (1 + k))) n) b
    ∙ (part-past (e.size ∷ []) (I ++ (e.zero ∷ t)) 1 (id_most + (1 + k)) n refl
    ∙ (part-past I (e.zero ∷ t) id_most (1 + k) n filled ∙ part-past (e.zero ∷ []) t 1 k n refl)) in
    let ids : part id_in id_most B ≡ I =
    ap (part id_in id_most) b ∙ (part-past (e.size ∷ []) (I ++ (e.zero ∷ t)) 1 0 id_most refl ∙ part-front I (e.zero ∷ t) id_most filled) in
    let id : take e.size (part id_in id_most B) ≡ e.id = ap (take e.size) ids ∙ take_at e.id e.fill e.size (f.id most) in
    let fill : drop e.size (part id_in id_most B) ≡ e.fill = ap (drop e.size) ids ∙ drop_at e.id e.fill e.size (f.id most) in
    let zero : get_or B entry_zero_in 0 ≡ e.zero =
    ap (λ (l : List ℕ). get_or l entry_zero_in 0) b
    ∙ (get_d_past (e.size ∷ []) (I ++ (e.zero ∷ t)) 1 id_most refl ∙ get_d_past I (e.zero ∷ t) id_most 0 filled) in
    let rows : value (part count_in 2 B) ≡ e.rows = ap value (past 0 2 ∙ part-front R (S ++ P) 2 r2) ∙ value_be 2 e.rows f.rows in
    let seq : value (part own_in 4 B) ≡ e.seq =
    ap value (past 2 4 ∙ (part-past R (S ++ P) 2 0 4 r2 ∙ part-front S P 4 s4)) ∙ value_be 4 e.seq f.seq in
    let place : value (part place_in 4 B) ≡ e.place =
    ap value (past 6 4 ∙ (part-past R (S ++ P) 2 4 4 r2 ∙ (part-past S P 4 0 4 s4 ∙ part_whole P 4 (length-be 4 e.place))))
    ∙ value_be 4 e.place f.place in
    λ i. record { size = e.size; id = id i; fill = fill i; zero = zero i; rows = rows i; seq = seq i; place = place i }

module _ (b : List ℕ) (p : Bytes b) (size : length b ≡ entry_size) where
  -- what is read fits
  pub entry_fits : EntryFits (entry_of b)
  unfolding entry_of
  entry_fits =
      let n : ℕ = get_or b 0 0 in
      let l : length (part id_in id_most b) ≡ id_most = length_part id_in id_most b (omega arith) in
      record {
        size = bytes_at b 0 p;
        id = λ h. length-take n (part id_in id_most b) ∙ omega arith;
        filled = sym (length-append (take n (part id_in id_most b)) (drop n (part id_in id_most b))) ∙ (ap length (take-append-drop n (part id_in id_most b)) ∙ l);
        id_bytes = bytes_take n (part id_in id_most b) (bytes_part id_in id_most b p);
        fill_bytes = bytes_drop n (part id_in id_most b) (bytes_part id_in id_most b p);
        zero = bytes_at b entry_zero_in p;
        rows = value_below 2 (part count_in 2 b) (length_part count_in 2 b (omega arith)) (bytes_part count_in 2 b p);
        seq = value_below 4 (part own_in 4 b) (length_part own_in 4 b (omega arith)) (bytes_part own_in 4 b p);
        place = value_below 4 (part place_in 4 b) (length_part place_in 4 b (omega arith)) (bytes_part place_in 4 b p);
      }

  -- what is read is written back
  pub entry_written : entry_with (entry_of b) ≡ b
  unfolding entry_with entry_of
  entry_written =
      let n : ℕ = get_or b 0 0 in
      let I : List ℕ = part id_in id_most b in
      let R : List ℕ = be 2 (value (part count_in 2 b)) in
      let S : List ℕ = be 4 (value (part own_in 4 b)) in
      let P : List ℕ = be 4 (value (part place_in 4 b)) in
      let ePlace : P ≡ drop place_in b = number_last place_in 4 b p (sym size) in
      let eOwn : S ++ P ≡ drop own_in b = ap (λ (l : List ℕ). S ++ l) ePlace ∙ number_next own_in 4 place_in b p refl (omega arith) in
      let eCount : R ++ (S ++ P) ≡ drop count_in b = ap (λ (l : List ℕ). R ++ l) eOwn ∙ number_next count_in 2 own_in b p refl (omega arith) in
      let t : List ℕ = get_or b entry_zero_in 0 ∷ (R ++ (S ++ P)) in
      let eZero : t ≡ drop entry_zero_in b =
      ap {B = List ℕ} (λ l. get_or b entry_zero_in 0 ∷ l) eCount ∙ sym (byte_next entry_zero_in count_in b refl (omega arith)) in
      let eId : take n I ++ (drop n I ++ t) ≡ drop id_in b =
      sym (append_assoc (take n I) (drop n I) t)
      ∙ (ap (λ (l : List ℕ). l ++ t) (take-append-drop n I)
      ∙ (ap (λ (l : List ℕ). I ++ l) eZero ∙ sym (part-next id_in id_most entry_zero_in b refl))) in
      ap {B = List ℕ} (λ l. n ∷ l) eId ∙ sym (byte_next 0 id_in b refl (omega arith))

-- ---- an entry that is not bad

-- "contents entry, sequence aside"
pub record EntryRules (due : ℕ) (before : Option Id) (e : Entry) : Type 0 where
  pub least : 1 ≤ e.size
  pub most : e.size ≤ id_most
  pub fill : all_zero e.fill ≡ true
  pub zero : e.zero ≡ 0
  pub rows : 1 ≤ e.rows
  pub place : e.place ≡ due
  pub above : not_above before e.id ≡ false

module _ (place : ℕ) (before : Option Id) (e : Entry) where
  pub rules_entry : EntryRules place before e → bad_entry place before e ≡ false
  unfolding bad_entry
  rules_entry r =
      all7 (eqb e.size 0) (ltb id_most e.size) (not (all_zero e.fill)) (not (eqb e.zero 0)) (eqb e.rows 0)
      (not (eqb e.place place)) (not_above before e.id) (
        ne_eqb e.size 0 (λ z. let h = r.least in omega arith),
        le-ltb id_most e.size r.most,
        ap not r.fill,
        ap not (eq-eqb e.zero 0 r.zero),
        ne_eqb e.rows 0 (λ z. let h = r.rows in omega arith),
        ap not (eq-eqb e.place place r.place),
        r.above,
      )

  pub entry_rules : bad_entry place before e ≡ false → EntryRules place before e
  unfolding bad_entry
  entry_rules z =
      let n =
      none7 (eqb e.size 0) (ltb id_most e.size) (not (all_zero e.fill)) (not (eqb e.zero 0)) (eqb e.rows 0)
      (not (eqb e.place place)) (not_above before e.id) z in
      record {
        least = let h : e.size ≢ 0 = eqb-false e.size 0 n.0 in omega arith;
        most = ltb-false id_most e.size n.1;
        fill = not-false (all_zero e.fill) n.2;
        zero = eqb-true e.zero 0 (not-false (eqb e.zero 0) n.3);
        rows = let h : e.rows ≢ 0 = eqb-false e.rows 0 n.4 in omega arith;
        place = eqb-true e.place place (not-false (eqb e.place place) n.5);
        above = n.6;
      }

-- ---- an entry and a document

-- the fields that a document has
unfoldable pub entry_for : ℕ → Id × Document → Entry
entry_for place d = record {
  size = length d.0;
  id = d.0;
  fill = replicate (id_most - length d.0) 0;
  zero = 0;
  rows = length d.1.tree;
  seq = d.1.seq.0;
  place = place;
}

pub entry_bytes_fields : (place : ℕ) (d : Id × Document) → entry_bytes place d ≡ entry_with (entry_for place d)
unfolding entry_bytes entry_with entry_for
entry_bytes_fields place d = refl

-- what an entry needs of its document
pub record IsEntry (due : ℕ) (d : Id × Document) : Type 0 where
  pub id : IsId d.0
  pub rows_least : 1 ≤ length d.1.tree
  pub rows_most : length d.1.tree < 65536
  pub seq_at_most : d.1.seq.0 ≤ seq_most
  pub place : due < 4294967296

pub entry_for_fits : (place : ℕ) (d : Id × Document) → IsEntry place d → EntryFits (entry_for place d)
unfolding entry_for
entry_for_fits place d r =
    let most = r.id.most in
    let seq = r.seq_at_most in
    record {
      size = omega arith;
      id = λ h. refl;
      filled = ap (λ (k : ℕ). length d.0 + k) (length-replicate (id_most - length d.0) 0) ∙ omega arith;
      id_bytes = r.id.bytes;
      fill_bytes = bytes_zeros (id_most - length d.0);
      zero = omega arith;
      rows = r.rows_most;
      seq = omega arith;
      place = r.place;
    }

pub entry_for_rules : (place : ℕ) (before : Option Id) (d : Id × Document) → IsEntry place d → not_above before d.0 ≡ false → EntryRules place before (entry_for place d)
unfolding entry_for
entry_for_rules place before d r above = record {
  least = r.id.least;
  most = r.id.most;
  fill = all_zeros (id_most - length d.0);
  zero = refl;
  rows = r.rows_least;
  place = refl;
  above = above;
}

-- the entry that a document needs is the one that it was read from
pub document_entry : (place : ℕ) (before : Option Id) (e : Entry) (d : Id × Document) → EntryFits e → EntryRules place before e
    → d.0 ≡ e.id → length d.1.tree ≡ e.rows → d.1.seq.0 ≡ e.seq → entry_for place d ≡ e
unfolding entry_for
document_entry place before e d f r id rows seq =
    let size : length d.0 ≡ e.size = ap length id ∙ f.id r.most in
    let a = f.filled in
    let b = f.id r.most in
    let n : id_most - length d.0 ≡ length e.fill = omega arith in
    let fill : replicate (id_most - length d.0) 0 ≡ e.fill = ap (λ (k : ℕ). replicate k 0) n ∙ sym (zeros e.fill r.fill) in
    let z : 0 ≡ e.zero = sym r.zero in
    let p : place ≡ e.place = sym r.place in
    λ i. record { size = size i; id = id i; fill = fill i; zero = z i; rows = rows i; seq = seq i; place = p i }

pub entry_id : (place : ℕ) (before : Option Id) (e : Entry) → EntryFits e → EntryRules place before e → IsId e.id
entry_id place before e f r =
    let b = f.id r.most in
    let l = r.least in
    let m = r.most in
    record { bytes = f.id_bytes; least = omega arith; most = omega arith }
