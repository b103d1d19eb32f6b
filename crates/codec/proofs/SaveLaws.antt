-- A replica in a buffer, written as its image. Assumes nothing.
use mathlib.Core.Path.{◌≡◌, refl, sym, ap, ap₂, ◌∙◌}
use Rattle.std.specs.Prelude.{Ok, Err}
use mathlib.Core.List.{List, ◌++◌, append_assoc}
use Prim.Native.Nat.{ℕ, ◌+◌, ◌-◌, ◌*◌, ◌≤◌, ◌<◌}
use native.Mathlib.Nat.{zero-add}
use native.Mathlib.Omega.{arith}
use borrow.Author.Tests.{lt-ltb, le-ltb}
use lib.ListN.{length, take, drop, replicate}
use lib.Seq.{take_at}
use Rattle.rules.specs.declared.Refusal.TheVariants.{ShortBuffer}
use Rattle.rules.specs.Bytes.{be, part, join}
use Rattle.rules.specs.Choice.{first_that}
use Rattle.rules.specs.Image.{head_bytes, contents_bytes, body_bytes, image, save, total_length, edition}
use Rattle.rules.specs.Layout.{head_of, entry_size, row_size, documents_at, total_at, head_size}
use Rattle.rules.specs.Map.{Map}
use Rattle.rules.specs.Outcome.{Does}
use Rattle.rules.specs.Read.{front, short_buffer, reads}
use Rattle.rules.specs.Replica.{Id, Document, Replica, revisions_held}
use Rattle.rules.proofs.ByteLaws.{length-be, length_part}
use Rattle.images.proofs.Theorems.{image_length}
use Rattle.octets.specs.Splice.{splice}
use Rattle.octets.proofs.SpliceLaws.{five}
use Rattle.store.specs.Storage.{contents_room, rows_room, rows_place, filled, stored_head, stored_entries, stored_rows, stored, replica_of, Storable, IsStored}
use Rattle.store.proofs.FitLaws.{stored_laid}
use Rattle.store.proofs.StoredLaws.{length_head, size_rows, size_laid, past_contents, documents_stored, revisions_stored}
use Rattle.codec.specs.Codec.{head_middle, moved, image_from, CanWrite}
use Rattle.codec.proofs.MoveLaws.{entries_with, length_moved, contents_entries, stored_entries_lem, moved_entries, body_rows}

-- ---- the parts of a buffer

module _ (r : Replica) (h : Storable r) where
  abbrev ds : Map Id Document
  ds = r.documents

  abbrev count : ℕ
  count = length r.documents

  abbrev held : ℕ
  held = revisions_held r.documents

  abbrev head : List ℕ
  head = stored_head count held r.seq.0

  entries_saved : (place : ℕ) → moved row_size place count head_size (stored r) ≡ contents_bytes place ds
  unfolding stored filled
  entries_saved place =
      let E : List ℕ = join (stored_entries ds) in
      let Z : List ℕ = replicate (contents_room - length E) 0 in
      let R : List ℕ = filled rows_room (join (stored_rows ds)) in
      let s : (E ++ Z) ++ R ≡ entries_with 0 0 ds ++ (Z ++ R) = append_assoc E Z R ∙ ap (λ (l : List ℕ). l ++ (Z ++ R)) (stored_entries_lem ds) in
      ap (λ (l : List ℕ). moved row_size place count head_size (head ++ l)) s
      ∙ (moved_entries row_size place 0 0 ds head (Z ++ R) head_size (length_head count held r.seq.0) h.documents h.revisions_at_most
      ∙ sym (contents_entries place ds))

  rows_saved : (k : ℕ) → k ≡ row_size * held → take k (drop rows_place (stored r)) ≡ body_bytes ds
  unfolding filled
  rows_saved k e =
      let w : length (join (stored_rows ds)) ≡ k = size_rows r h ∙ omega arith in
      ap (take k) (past_contents r h) ∙ (take_at (join (stored_rows ds)) _ k w ∙ sym (body_rows ds))

  -- the head has its edition and its total length put anew
  image_saved : be 2 edition ++ (part documents_at head_middle (stored r) ++ (be 4 (total_length count held) ++ (contents_bytes (head_size + entry_size * count) ds ++ body_bytes ds))) ≡ image r
  unfolding image stored head_bytes stored_head be part
  image_saved = refl

-- ---- how the code writes it

-- o1 to o5 are what the writes leave, one after the other
pub parts_written : (b o o1 o2 o3 o4 o5 : List ℕ) (d r rows e t : ℕ) → CanWrite b o d r → rows ≡ head_size + entry_size * d → e ≡ rows_place + row_size * r → t ≡ rows + row_size * r
    → o1 ≡ splice o 0 (be 2 edition) → o2 ≡ splice o1 documents_at (take head_middle (drop documents_at b)) → o3 ≡ splice o2 total_at (be 4 t)
    → o4 ≡ splice o3 head_size (moved row_size rows d head_size b) → o5 ≡ splice o4 rows (take (e - rows_place) (drop rows_place b))
    → o5 ≡ splice o 0 (image_from d r b)
unfolding image_from part
parts_written b o o1 o2 o3 o4 o5 d r rows e t w p q u e1 e2 e3 e4 e5 =
    let X : List ℕ = part documents_at head_middle b in
    let M : List ℕ = moved row_size rows d head_size b in
    let B : List ℕ = take (e - rows_place) (drop rows_place b) in
    let lx : length X ≡ head_middle = length_part documents_at head_middle b (omega arith) in
    let lm : length M ≡ d * entry_size = length_moved row_size rows d head_size b (omega arith) in
    let lb : length B ≡ row_size * r = length_part rows_place (e - rows_place) b (omega arith) ∙ omega arith in
    let n : e - rows_place ≡ row_size * r = omega arith in
    let z : t ≡ total_length d r = omega arith in
    let whole : be 2 edition ++ (X ++ (be 4 t ++ (M ++ B))) ≡ image_from d r b
    = λ i. be 2 edition ++ (X ++ (be 4 (z i) ++ (moved row_size (p i) d head_size b ++ take (n i) (drop rows_place b)))) in
    let is : o5 ≡ splice (splice (splice (splice (splice o 0 (be 2 edition)) documents_at X) total_at (be 4 t)) head_size M) rows B = cc in
    is
    ∙ (five o (be 2 edition) X (be 4 t) M B 0 documents_at total_at head_size rows
    (omega (arith, length-be 2 edition)) (omega arith) (ap (λ (k : ℕ). total_at + k) (length-be 4 t)) (omega arith) (omega arith)
    ∙ ap (splice o 0) whole)

-- of a replica it is its image
pub image_from_lem : (b : List ℕ) (d r : ℕ) → IsStored b → d ≡ length (replica_of b).documents → r ≡ revisions_held (replica_of b).documents
    → image_from d r b ≡ image (replica_of b)
unfolding image_from part
image_from_lem b d r i p q =
    let l = stored_laid b i in
    let R : Replica = replica_of b in
    let D : ℕ = length R.documents in
    let N : ℕ = revisions_held R.documents in
    let same : image_from d r b ≡ image_from D N (stored R) = ap₂ (λ (x y : ℕ). image_from x y b) p q ∙ ap (image_from D N) l.same in
    let m : moved row_size (head_size + entry_size * D) D head_size (stored R) ≡ contents_bytes (head_size + entry_size * D) R.documents = entries_saved R l.fits (head_size + entry_size * D) in
    let y : take (row_size * N) (drop rows_place (stored R)) ≡ body_bytes R.documents = rows_saved R l.fits (row_size * N) refl in
    same
    ∙ (ap₂ (λ (x z : List ℕ). be 2 edition ++ (part documents_at head_middle (stored R) ++ (be 4 (total_length D N) ++ (x ++ z)))) m y
    ∙ image_saved R l.fits)

-- what its buffer says of the counts
pub stored_counts : (b : List ℕ) → IsStored b → ((head_of b).documents ≡ length (replica_of b).documents) × ((head_of b).revisions ≡ revisions_held (replica_of b).documents)
stored_counts b i =
    let l = stored_laid b i in (
      ap (λ (s : List ℕ). (head_of s).documents) l.same ∙ documents_stored (replica_of b) l.fits,
      ap (λ (s : List ℕ). (head_of s).revisions) l.same ∙ revisions_stored (replica_of b) l.fits,
    )

pub can_write : (b out : List ℕ) (d r : ℕ) → IsStored b → d ≡ length (replica_of b).documents → r ≡ revisions_held (replica_of b).documents → total_length d r ≤ length out
    → CanWrite b out d r
can_write b out d r i p q h = record {
  size = size_laid b (stored_laid b i);
  documents = omega (arith, i.replica.documents_at_most);
  revisions = omega (arith, i.replica.revisions_at_most);
  room = h;
}

-- ---- the answer

pub saved_length : (b : List ℕ) (d r t : ℕ) → IsStored b → d ≡ length (replica_of b).documents → r ≡ revisions_held (replica_of b).documents → t ≡ total_length d r
    → t ≡ length (image (replica_of b))
saved_length b d r t i p q e = let l = image_length (replica_of b) i.replica in omega arith

module _ (r : Replica) (out : List ℕ) (n : ℕ) (e : n ≡ length (image r)) where
  pub save_short : length out < n → Does (save r out) (Err ShortBuffer) out
  unfolding save reads short_buffer first_that
  save_short h =
      let k : length out < length (image r) = omega arith in
      rw (lt-ltb (length out) (length (image r)) k) (record { answers = refl; left = refl })

  pub save_written : (after : List ℕ) → n ≤ length out → after ≡ splice out 0 (image r) → Does (save r out) (Ok n) after
  unfolding save reads short_buffer first_that front splice
  save_written after h w =
      let k : length (image r) ≤ length out = omega arith in
      rw (le-ltb (length out) (length (image r)) k)
      (record { answers = ap Ok e; left = w ∙ ap (λ (j : ℕ). image r ++ drop j out) (zero-add (length (image r))) })
