-- What is read at a document's entry. Assumes nothing.
use mathlib.Core.Path.{◌≡◌, sym, ap, ◌∙◌}
use Prim.Native.Nat.{ℕ, zero, suc, ◌+◌, ◌*◌, ◌<◌, ◌≤◌}
use native.Mathlib.Nat.{not-suc-le-zero, le_of_suc-le-suc}
use native.Mathlib.Numerals.{add-one}
use native.Mathlib.Omega.{arith}
use mathlib.Core.List.{List, [], ◌∷◌, map, append_assoc}
use lib.ListN.{length, get_or, get_or-map}
use Rattle.rules.specs.Bytes.{part, join}
use Rattle.rules.specs.Layout.{head_size, entry_size, head_of, entry_of}
use Rattle.rules.specs.Map.{Map}
use Rattle.rules.specs.Replica.{Id, Document, Replica, revisions_held}
use Rattle.rules.specs.Room.{documents_most, revisions_most, seq_most}
use Rattle.layout.specs.Fields.{entry_place}
use Rattle.store.specs.Storage.{rows_room, store_size, filled, stored_head, stored_entry, stored_entries, stored_rows, stored, replica_of, All, FitsDocument, Storable, Laid}
use Rattle.store.specs.Documents.{documents_of, no_document, document_at, first_row, HasDocument}
use Rattle.rules.proofs.ByteLaws.{part-past}
use Rattle.store.proofs.PieceLaws.{piece_at}
use Rattle.store.proofs.RoundLaws.{EntryFields, entry_fields}
use Rattle.store.proofs.StoredLaws.{length-map, entries_sized, length_head, size_laid, documents_stored, revisions_stored, seq_stored}

pub all_at : {A : Type 0} (P : A → Type 0) (xs : List A) (i : ℕ) (x : A) → All P xs → i < length xs → P (get_or xs i x)
all_at P [] i x h l = absurd (not-suc-le-zero l)
all_at P (y ∷ ys) zero x h l = h.0
all_at P (y ∷ ys) (suc i) x h l = all_at P ys i x h.1 (le_of_suc-le-suc l)

pub document_fits : (ds : Map Id Document) (d : ℕ) → All FitsDocument ds → d < length ds → FitsDocument (document_at ds d)
unfolding document_at
document_fits ds d h l = all_at FitsDocument ds d no_document h l

-- what is held up to a document, and with it
pub first_next : (ds : Map Id Document) (d : ℕ) → d < length ds → first_row ds (suc d) ≡ first_row ds d + length (document_at ds d).1.tree
unfolding first_row document_at revisions_held
first_next [] d h = absurd (not-suc-le-zero h)
first_next (x ∷ ds) zero h = omega arith
first_next (x ∷ ds) (suc d) h = let t = first_next ds d (le_of_suc-le-suc h) in omega arith

-- the sum of a loop over the documents
pub first_none : (ds : Map Id Document) (i sum : ℕ) → i ≡ 0 → sum ≡ 0 → sum ≡ first_row ds i
unfolding first_row revisions_held
first_none ds i sum e f = rw (e, f)

pub first_more : (ds : Map Id Document) (d sum n : ℕ) → d < length ds → sum ≡ first_row ds d → n ≡ length (document_at ds d).1.tree → sum + n ≡ first_row ds (d + 1)
first_more ds d sum n h e f = rw (e, f, add-one) (sym (first_next ds d h))

pub first_most : (ds : Map Id Document) (d : ℕ) → first_row ds d ≤ revisions_held ds
unfolding first_row revisions_held
first_most [] zero = omega arith
first_most [] (suc d) = omega arith
first_most (x ∷ ds) zero = omega arith
first_most (x ∷ ds) (suc d) = let t = first_most ds d in omega arith

-- ---- a laid buffer

-- its size and its counts in their ranges
pub record Standing (s : List ℕ) : Type 0 where
  pub size : length s ≡ store_size
  pub documents : (head_of s).documents ≡ length (documents_of s)
  pub revisions : (head_of s).revisions ≡ revisions_held (documents_of s)
  pub seq : (head_of s).seq ≡ (replica_of s).seq.0
  pub documents_at_most : length (documents_of s) ≤ documents_most
  pub revisions_at_most : revisions_held (documents_of s) ≤ revisions_most
  pub seq_at_most : (replica_of s).seq.0 ≤ seq_most

pub standing : (s : List ℕ) → Laid s → Standing s
standing s h = record {
  size = size_laid s h;
  documents = ap (λ (x : List ℕ). (head_of x).documents) h.same ∙ documents_stored (replica_of s) h.fits;
  revisions = ap (λ (x : List ℕ). (head_of x).revisions) h.same ∙ revisions_stored (replica_of s) h.fits;
  seq = ap (λ (x : List ℕ). (head_of x).seq) h.same ∙ seq_stored (replica_of s) h.fits;
  «documents_at_most» = h.fits.documents_at_most;
  «revisions_at_most» = h.fits.revisions_at_most;
  «seq_at_most» = h.fits.seq_at_most;
}

entry_stored : (r : Replica) (d : ℕ) → Storable r → d < length r.documents → part (entry_place d) entry_size (stored r) ≡ stored_entry (document_at r.documents d)
unfolding stored filled stored_entries document_at
entry_stored r d h l =
    let ds = r.documents in
    let H : List ℕ = stored_head (length ds) (revisions_held ds) r.seq.0 in
    let es : List (List ℕ) = map stored_entry ds in
    rw (part-past H _ head_size (entry_size * d) entry_size (length_head _ _ _), append_assoc (join es) _ (filled rows_room (join (stored_rows ds))))
    (piece_at entry_size es _ (stored_entry no_document) d (entries_sized ds h.documents) (rw (length-map stored_entry ds) l)
    ∙ get_or-map stored_entry ds d no_document)

-- what stands at p, where document d's entry begins
pub record EntryHeld (s : List ℕ) (d p : ℕ) : Type 0 where
  pub within : p + entry_size ≤ length s
  pub fits : FitsDocument (document_at (documents_of s) d)
  pub entry : EntryFields (document_at (documents_of s) d) (entry_of (part p entry_size s))
  pub first_most : first_row (documents_of s) d + length (document_at (documents_of s) d).1.tree ≤ revisions_held (documents_of s)

pub entry_held : (s : List ℕ) (d p : ℕ) → HasDocument s d → p ≡ entry_place d → EntryHeld s d p
entry_held s d p h e =
    let r = replica_of s in
    let ds = r.documents in
    let x : Id × Document = document_at ds d in
    let q = standing s h.laid in
    let st = h.laid.fits in
    let w = h.within in
    let f : FitsDocument x = document_fits ds d st.documents w in
    let n = first_next ds d w in
    let m = first_most ds (suc d) in
    let bytes : part p entry_size s ≡ stored_entry x = rw e (ap (part (entry_place d) entry_size) h.laid.same ∙ entry_stored r d st w) in
    record {
      within = omega arith;
      fits = f;
      entry = rw bytes (entry_fields x f.id (omega arith) f.seq);
      «first_most» = omega arith;
    }
