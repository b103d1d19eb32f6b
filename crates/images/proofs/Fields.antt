-- A whole image by its fields: head, entries and rows are read back from what they write, and write back what
-- they were read from. Assumes nothing.
use mathlib.Core.Path.{◌≡◌, refl, sym, ap, ap₂, ◌∙◌}
use mathlib.Core.List.{List, [], ◌∷◌, ◌++◌, map, append_assoc, append-nil}
use Prim.Native.Nat.{ℕ, ◌+◌, ◌*◌, ◌≤◌, ◌<◌}
use native.Mathlib.Omega.{arith}
use lib.ListN.{length, drop, length-append, length-drop, length-map, take-append-drop}
use lib.Seq.{drop_at, drop-drop, take_all}
use Rattle.rules.specs.Bytes.{be, value, part, pieces, join, Bytes}
use Rattle.rules.specs.Image.{entries_of, rows_of, total_length}
use Rattle.rules.specs.Layout.{Head, head_of, Entry, entry_of, Row, row_of, entry_size, row_size, documents_at, revisions_at, head_zero_at, sequence_at, total_at, head_size}
use Rattle.rules.specs.Room.{id_most}
use Rattle.rules.proofs.ByteLaws.{length-be, bytes_be, value_be, value_below, bytes_append, bytes_drop, bytes_part, length_part, part-front, part-past, number_next, length-pieces}
use Rattle.images.proofs.Lists.{Each, each_map, each_onto, each_piece, length-all, bytes_all, read_all, write_all_lem}
use Rattle.images.proofs.Rows.{row_with, RowFits, length_row_with, bytes_row_with, row_read, row_fits, row_written}
use Rattle.images.proofs.Entries.{entry_with, EntryFits, length_entry_with, bytes_entry_with, entry_read, entry_fits, entry_written}

-- ---- the head

unfoldable pub head_with : Head → List ℕ
head_with h =
    be 2 h.edition
    ++ (be 2 h.documents ++ (be 2 h.revisions ++ (be 2 h.zero ++ (be 4 h.seq ++ be 4 h.total))))

pub record HeadFits (h : Head) : Type 0 where
  pub edition : h.edition < 65536
  pub documents : h.documents < 65536
  pub revisions : h.revisions < 65536
  pub zero : h.zero < 65536
  pub seq : h.seq < 4294967296
  pub total : h.total < 4294967296

pub length_head_with : (h : Head) → length (head_with h) ≡ head_size
unfolding head_with
length_head_with h = simp (length-append, length-be)

pub bytes_head_with : (h : Head) → Bytes (head_with h)
unfolding head_with
bytes_head_with h =
    bytes_append (be 2 h.edition) _ (bytes_be 2 h.edition)
    (bytes_append (be 2 h.documents) _ (bytes_be 2 h.documents)
    (bytes_append (be 2 h.revisions) _ (bytes_be 2 h.revisions)
    (bytes_append (be 2 h.zero) _ (bytes_be 2 h.zero)
    (bytes_append (be 4 h.seq) _ (bytes_be 4 h.seq) (bytes_be 4 h.total)))))

-- what is written is read back, whatever follows
pub head_read : (h : Head) (t : List ℕ) → HeadFits h → head_of (head_with h ++ t) ≡ h
unfolding head_of head_with
head_read h t f =
    let E : List ℕ = be 2 h.edition in
    let D : List ℕ = be 2 h.documents in
    let R : List ℕ = be 2 h.revisions in
    let Z : List ℕ = be 2 h.zero in
    let S : List ℕ = be 4 h.seq in
    let T : List ℕ = be 4 h.total in
    let B : List ℕ = head_with h ++ t in
    let e2 : length E ≡ 2 = length-be 2 h.edition in
    let d2 : length D ≡ 2 = length-be 2 h.documents in
    let r2 : length R ≡ 2 = length-be 2 h.revisions in
    let z2 : length Z ≡ 2 = length-be 2 h.zero in
    let s4 : length S ≡ 4 = length-be 4 h.seq in
    let t5 : List ℕ = T ++ t in
    let t4 : List ℕ = S ++ t5 in
    let t3 : List ℕ = Z ++ t4 in
    let t2 : List ℕ = R ++ t3 in
    let t1 : List ℕ = D ++ t2 in
    let b : B ≡ E ++ t1 = simp append_assoc in
    let p1 : (k n : ℕ) → part (2 + k) n B ≡ part k n t1 = λ k n. ap (part (2 + k) n) b ∙ part-past E t1 2 k n e2 in
    let p2 : (k n : ℕ) → part (2 + (2 + k)) n B ≡ part k n t2 = λ k n. p1 (2 + k) n ∙ part-past D t2 2 k n d2 in
    let p3 : (k n : ℕ) → part (2 + (2 + (2 + k))) n B ≡ part k n t3 = λ k n. p2 (2 + k) n ∙ part-past R t3 2 k n r2 in
    let p4 : (k n : ℕ) → part (2 + (2 + (2 + (2 + k)))) n B ≡ part k n t4 = λ k n. p3 (2 + k) n ∙ part-past Z t4 2 k n z2 in
    let edition = ap value (ap (part 0 2) b ∙ part-front E t1 2 e2) ∙ value_be 2 h.edition f.edition in
    let documents = ap value (p1 0 2 ∙ part-front D t2 2 d2) ∙ value_be 2 h.documents f.documents in
    let revisions = ap value (p2 0 2 ∙ part-front R t3 2 r2) ∙ value_be 2 h.revisions f.revisions in
    let zero = ap value (p3 0 2 ∙ part-front Z t4 2 z2) ∙ value_be 2 h.zero f.zero in
    let seq = ap value (p4 0 4 ∙ part-front S t5 4 s4) ∙ value_be 4 h.seq f.seq in
    let total =
    ap value (p4 4 4 ∙ (part-past S t5 4 0 4 s4 ∙ part-front T t 4 (length-be 4 h.total))) ∙ value_be 4 h.total f.total in
    λ i. record { edition = edition i; documents = documents i; revisions = revisions i; zero = zero i; seq = seq i; total = total i }

module _ (s : List ℕ) (p : Bytes s) (size : head_size ≤ length s) where
  pub head_fits : HeadFits (head_of s)
  unfolding head_of
  head_fits = record {
    edition = value_below 2 (part 0 2 s) (length_part 0 2 s (omega arith)) (bytes_part 0 2 s p);
    documents = value_below 2 (part documents_at 2 s) (length_part documents_at 2 s (omega arith)) (bytes_part documents_at 2 s p);
    revisions = value_below 2 (part revisions_at 2 s) (length_part revisions_at 2 s (omega arith)) (bytes_part revisions_at 2 s p);
    zero = value_below 2 (part head_zero_at 2 s) (length_part head_zero_at 2 s (omega arith)) (bytes_part head_zero_at 2 s p);
    seq = value_below 4 (part sequence_at 4 s) (length_part sequence_at 4 s (omega arith)) (bytes_part sequence_at 4 s p);
    total = value_below 4 (part total_at 4 s) (length_part total_at 4 s (omega arith)) (bytes_part total_at 4 s p);
  }

  -- what is read is written back
  pub head_written : head_with (head_of s) ++ drop head_size s ≡ s
  unfolding head_with head_of
  head_written =
      let step : (k n m : ℕ) (t : List ℕ) → k + n ≡ m → m ≤ head_size → t ++ drop head_size s ≡ drop m s
      → (be n (value (part k n s)) ++ t) ++ drop head_size s ≡ drop k s =
      λ k n m t e h q.
      append_assoc (be n (value (part k n s))) t (drop head_size s)
      ∙ (ap (λ (l : List ℕ). be n (value (part k n s)) ++ l) q ∙ number_next k n m s p e (omega arith)) in
      let tTotal : List ℕ = be 4 (value (part total_at 4 s)) in
      let tSeq : List ℕ = be 4 (value (part sequence_at 4 s)) ++ tTotal in
      let tZero : List ℕ = be 2 (value (part head_zero_at 2 s)) ++ tSeq in
      let tRevisions : List ℕ = be 2 (value (part revisions_at 2 s)) ++ tZero in
      let tDocuments : List ℕ = be 2 (value (part documents_at 2 s)) ++ tRevisions in
      let eTotal : tTotal ++ drop head_size s ≡ drop total_at s = number_next total_at 4 head_size s p refl (omega arith) in
      let eSeq : tSeq ++ drop head_size s ≡ drop sequence_at s = step sequence_at 4 total_at tTotal refl (omega arith) eTotal in
      let eZero : tZero ++ drop head_size s ≡ drop head_zero_at s = step head_zero_at 2 sequence_at tSeq refl (omega arith) eSeq in
      let eRevisions : tRevisions ++ drop head_size s ≡ drop revisions_at s = step revisions_at 2 head_zero_at tZero refl (omega arith) eZero in
      let eDocuments : tDocuments ++ drop head_size s ≡ drop documents_at s = step documents_at 2 revisions_at tRevisions refl (omega arith) eRevisions in
      step 0 2 documents_at tDocuments refl (omega arith) eDocuments

-- ---- the whole

-- an image by its fields
unfoldable pub image_with : Head → List Entry → List Row → List ℕ
image_with h es ws = head_with h ++ (join (map entry_with es) ++ join (map row_with ws))

-- fields that have room in their bytes, and as many as the head says
pub record Fits (h : Head) (es : List Entry) (ws : List Row) : Type 0 where
  pub head : HeadFits h
  pub entries : Each EntryFits es
  pub rows : Each RowFits ws
  pub documents : length es ≡ h.documents
  pub revisions : length ws ≡ h.revisions

module _ (h : Head) (es : List Entry) (ws : List Row) (f : Fits h es ws) where
  entries_length : length (join (map entry_with es)) ≡ length es * entry_size
  entries_length = length-all entry_with entry_of entry_size es (each_map EntryFits (λ e. length (entry_with e) ≡ entry_size) length_entry_with es f.entries)

  rows_length : length (join (map row_with ws)) ≡ length ws * row_size
  rows_length = length-all row_with row_of row_size ws (each_map RowFits (λ w. length (row_with w) ≡ row_size) length_row_with ws f.rows)

  pub length_image_with : length (image_with h es ws) ≡ total_length h.documents h.revisions
  unfolding image_with
  length_image_with =
      let d = f.documents in
      let r = f.revisions in
      let a = length_head_with h in
      let b = entries_length in
      let c = rows_length in
      length-append (head_with h) (join (map entry_with es) ++ join (map row_with ws))
      ∙ (ap (λ (n : ℕ). length (head_with h) + n) (length-append (join (map entry_with es)) (join (map row_with ws))) ∙ omega arith)

  pub bytes_image_with : Bytes (image_with h es ws)
  unfolding image_with
  bytes_image_with =
      bytes_append (head_with h) (join (map entry_with es) ++ join (map row_with ws)) (bytes_head_with h)
      (bytes_append (join (map entry_with es)) (join (map row_with ws))
      (bytes_all entry_with es (each_map EntryFits (λ e. Bytes (entry_with e)) bytes_entry_with es f.entries))
      (bytes_all row_with ws (each_map RowFits (λ w. Bytes (row_with w)) bytes_row_with ws f.rows)))

  pub image_head : head_of (image_with h es ws) ≡ h
  unfolding image_with
  image_head = head_read h (join (map entry_with es) ++ join (map row_with ws)) f.head

  pub image_entries : Each (λ e. e.size ≤ id_most) es → entries_of (image_with h es ws) ≡ es
  unfolding entries_of image_with
  image_entries small =
      ap₂ (λ (n : ℕ) (l : List ℕ). map entry_of (pieces n entry_size l))
      (ap (λ (x : Head). x.documents) image_head ∙ sym f.documents)
      (drop_at (head_with h) (join (map entry_with es) ++ join (map row_with ws)) head_size (length_head_with h))
      ∙ read_all entry_with entry_of entry_size es (join (map row_with ws))
      (each_map EntryFits (λ e. length (entry_with e) ≡ entry_size) length_entry_with es f.entries) (go es f.entries small)
    where
      go : (xs : List Entry) → Each EntryFits xs → Each (λ e. e.size ≤ id_most) xs → Each (λ e. entry_of (entry_with e) ≡ e) xs
      go [] a b = tt
      go (x ∷ xs) a b = (entry_read x a.0 b.0, go xs a.1 b.1)

  pub image_rows : rows_of (image_with h es ws) ≡ ws
  unfolding rows_of image_with
  image_rows =
      let E : List ℕ = join (map entry_with es) in
      let W : List ℕ = join (map row_with ws) in
      let d : (head_of (head_with h ++ (E ++ W))).documents ≡ length es = ap (λ (x : Head). x.documents) image_head ∙ sym f.documents in
      let r : (head_of (head_with h ++ (E ++ W))).revisions ≡ length ws = ap (λ (x : Head). x.revisions) image_head ∙ sym f.revisions in
      let a = length_head_with h in
      let b = entries_length in
      let n : length (head_with h ++ E) ≡ head_size + entry_size * (head_of (head_with h ++ (E ++ W))).documents = length-append (head_with h) E ∙ omega arith in
      let rest : drop (head_size + entry_size * (head_of (head_with h ++ (E ++ W))).documents) (head_with h ++ (E ++ W)) ≡ W ++ [] =
      ap (drop (head_size + entry_size * (head_of (head_with h ++ (E ++ W))).documents)) (sym (append_assoc (head_with h) E W))
      ∙ (drop_at (head_with h ++ E) W (head_size + entry_size * (head_of (head_with h ++ (E ++ W))).documents) n ∙ sym (append-nil W)) in
      ap₂ (λ (k : ℕ) (l : List ℕ). map row_of (pieces k row_size l)) r rest
      ∙ read_all row_with row_of row_size ws [] (each_map RowFits (λ w. length (row_with w) ≡ row_size) length_row_with ws f.rows)
      (each_map RowFits (λ w. row_of (row_with w) ≡ w) row_read ws f.rows)

module _ (s : List ℕ) (p : Bytes s) (size : length s ≡ total_length (head_of s).documents (head_of s).revisions) where
  pub image_fits : Fits (head_of s) (entries_of s) (rows_of s)
  unfolding entries_of rows_of
  image_fits =
      let d : ℕ = (head_of s).documents in
      let r : ℕ = (head_of s).revisions in
      record {
        head = head_fits s p (omega arith);
        entries = each_onto EntryFits entry_of (pieces d entry_size (drop head_size s))
            (each_piece (λ b. EntryFits (entry_of b)) entry_size entry_fits d (drop head_size s) (bytes_drop head_size s p) (simp length-drop (omega arith)));
        rows = each_onto RowFits row_of (pieces r row_size (drop (head_size + entry_size * d) s))
            (each_piece (λ b. RowFits (row_of b)) row_size row_fits r (drop (head_size + entry_size * d) s) (bytes_drop (head_size + entry_size * d) s p) (simp length-drop (omega arith)));
        documents = length-map (pieces d entry_size (drop head_size s)) entry_of ∙ length-pieces d entry_size (drop head_size s);
        revisions = length-map (pieces r row_size (drop (head_size + entry_size * d) s)) row_of ∙ length-pieces r row_size (drop (head_size + entry_size * d) s);
      }

  -- what is read is written back
  pub image_written : image_with (head_of s) (entries_of s) (rows_of s) ≡ s
  unfolding image_with entries_of rows_of
  image_written =
      let d : ℕ = (head_of s).documents in
      let r : ℕ = (head_of s).revisions in
      let tail : List ℕ = drop (head_size + entry_size * d) s in
      let rows : join (map row_with (map row_of (pieces r row_size tail))) ≡ tail =
      write_all_lem row_with row_of row_size row_written r tail (bytes_drop (head_size + entry_size * d) s p) (simp length-drop (omega arith))
      ∙ take_all (r * row_size) tail (simp length-drop (omega arith)) in
      let k : head_size + d * entry_size ≡ head_size + entry_size * d = omega arith in
      let entries : join (map entry_with (map entry_of (pieces d entry_size (drop head_size s)))) ++ tail ≡ drop head_size s =
      ap₂ (λ (a b : List ℕ). a ++ b)
      (write_all_lem entry_with entry_of entry_size entry_written d (drop head_size s) (bytes_drop head_size s p) (simp length-drop (omega arith)))
      (ap (λ (n : ℕ). drop n s) (sym k) ∙ sym (drop-drop (d * entry_size) head_size s))
      ∙ take-append-drop (d * entry_size) (drop head_size s) in
      ap (λ (l : List ℕ). head_with (head_of s) ++ (join (map entry_with (map entry_of (pieces d entry_size (drop head_size s)))) ++ l)) rows
      ∙ (ap (λ (l : List ℕ). head_with (head_of s) ++ l) entries ∙ head_written s p (omega arith))
