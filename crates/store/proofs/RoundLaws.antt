-- Storage's entry: it is read back, and written field by field. Assumes nothing.
use mathlib.Core.Path.{◌≡◌, refl, sym, ap, ◌∙◌}
use Prim.Native.Nat.{ℕ, ◌+◌, ◌-◌, ◌≤◌}
use native.Mathlib.Omega.{arith}
use mathlib.Core.List.{List, [], ◌∷◌, ◌++◌, append_assoc}
use lib.ListN.{length, take, replicate, set, length-append, length-replicate, replicate-append-replicate}
use lib.Seq.{take_at}
use Rattle.rules.specs.Bytes.{be, value, part}
use Rattle.rules.specs.Image.{entry_bytes}
use Rattle.rules.specs.Layout.{Entry, id_in, entry_zero_in, count_in, own_in, entry_size, entry_of}
use Rattle.rules.specs.Replica.{Id, Document}
use Rattle.rules.specs.Room.{revisions_most, id_most, seq_most}
use Rattle.rules.proofs.ByteLaws.{length-be, part-past}
use Rattle.octets.specs.Splice.{splice}
use Rattle.octets.proofs.SpliceLaws.{replace}
use Rattle.store.specs.Storage.{stored_entry}
use Rattle.store.specs.Change.{blank}
use Rattle.store.proofs.PieceLaws.{number_front}

-- edition 1 shows it with a place, which is 0 here
pub entry_shown : (d : Id × Document) → stored_entry d ≡ entry_bytes 0 d
unfolding stored_entry entry_bytes
entry_shown d = refl

-- an id filled up
abbrev filled_id : Id → List ℕ
filled_id i = i ++ replicate (id_most - length i) 0

length-filled : (i : Id) → length i ≤ id_most → length (filled_id i) ≡ id_most
length-filled i h = simp (length-append, length-replicate) (omega arith)

-- the bytes before its count
abbrev front : Id → List ℕ
front i = length i ∷ (filled_id i ++ (0 ∷ []))

length_front : (i : Id) → length i ≤ id_most → length (front i) ≡ count_in
length_front i h = simp (length-append, length-replicate) (omega arith)

abbrev count : Id × Document → List ℕ
count d = be 2 (length d.1.tree)

abbrev own : Id × Document → List ℕ
own d = be 4 d.1.seq.0

entry_split : (d : Id × Document) → stored_entry d ≡ front d.0 ++ (count d ++ (own d ++ be 4 0))
unfolding stored_entry
entry_split d = simp append_assoc

pub length-entry : (d : Id × Document) → length d.0 ≤ id_most → length (stored_entry d) ≡ entry_size
length-entry d h = rw (entry_split d) (simp (length-append, length-be, length-replicate) (omega arith))

-- ---- reading

pub record EntryFields (d : Id × Document) (e : Entry) : Type 0 where
  pub size : e.size ≡ length d.0
  pub id : e.id ≡ d.0
  pub rows : e.rows ≡ length d.1.tree
  pub seq : e.seq ≡ d.1.seq.0

module _ (d : Id × Document) (h : length d.0 ≤ id_most) where
  id_back : (T : List ℕ) → take (length d.0) (part id_in id_most (front d.0 ++ T)) ≡ d.0
  unfolding part
  id_back T =
      let i = d.0 in
      let n = length-filled i h in
      ap (take (length i)) (ap (take id_most) (append_assoc (filled_id i) (0 ∷ []) T) ∙ take_at (filled_id i) _ id_most n)
      ∙ take_at i _ (length i) refl

  pub entry_fields : length d.1.tree ≤ revisions_most → d.1.seq.0 ≤ seq_most → EntryFields d (entry_of (stored_entry d))
  unfolding entry_of
  entry_fields k q =
      let F = front d.0 in
      let n = length_front d.0 h in
      rw (entry_split d) (record {
        size = refl;
        id = id_back _;
        rows = ap value (part-past F _ count_in 0 2 n) ∙ number_front 2 (length d.1.tree) _ (omega arith);
        seq = ap value (part-past F _ count_in 2 4 n ∙ part-past (count d) _ 2 0 4 (length-be 2 _)) ∙ number_front 4 d.1.seq.0 _ (omega arith);
      })

-- ---- writing

module _ (x y : Id × Document) (h : length x.0 ≤ id_most) (i : y.0 ≡ x.0) where
  pub entry_count : y.1.seq ≡ x.1.seq → splice (stored_entry x) count_in (count y) ≡ stored_entry y
  entry_count q =
      let n = length_front x.0 h in
      rw (entry_split x, entry_split y, i, q, replace (front x.0) (count x) (own x ++ be 4 0) (count y) count_in n (length-be 2 _ ∙ sym (length-be 2 _)))

  pub entry_own : y.1.tree ≡ x.1.tree → splice (stored_entry x) own_in (own y) ≡ stored_entry y
  entry_own q =
      let F = front x.0 in
      let n = length_front x.0 h in
      let m : length (F ++ count x) ≡ own_in = simp (length-append, length-replicate, length-be) (omega arith) in
      rw (
        entry_split x,
        entry_split y,
        i,
        q,
        sym (append_assoc F (count x) (own x ++ be 4 0)),
        replace (F ++ count x) (own x) (be 4 0) (own y) own_in m (length-be 4 _ ∙ sym (length-be 4 _)),
      )
      (append_assoc F (count x) (own y ++ be 4 0))

-- ---- a document without revisions

-- the bytes behind the id's length, and those behind the id's field
abbrev behind : ℕ
behind = entry_size - id_in

abbrev after : ℕ
after = entry_size - entry_zero_in

zeros : (m n k : ℕ) → m + k ≡ n → ◌≡◌ {A = List ℕ} (replicate n 0) (replicate m 0 ++ replicate k 0)
zeros m n k e = rw (replicate-append-replicate {A = ℕ} m k 0, e)

pub blank_bytes : (i t t₁ : List ℕ) → length i ≤ id_most → t ≡ set (replicate entry_size 0) 0 (length i) → t₁ ≡ splice t id_in i → t₁ ≡ stored_entry (blank i)
unfolding stored_entry be
blank_bytes i t t₁ h e f =
    let rest = behind - length i in
    let z = zeros (length i) behind rest (omega arith) in
    let y = zeros (id_most - length i) rest after (omega arith) in
    f ∙ (ap (λ (x : List ℕ). splice x id_in i) (e ∙ ap (λ (x : List ℕ). length i ∷ x) z)
    ∙ (replace (length i ∷ []) (replicate (length i) 0) (replicate rest 0) i id_in refl (length-replicate {A = ℕ} (length i) 0) ∙ rw y))

pub length-blank : (i t : List ℕ) → length i ≤ id_most → t ≡ stored_entry (blank i) → length t ≡ entry_size
length-blank i t h e = ap length e ∙ length-entry (blank i) h
