-- What the changes do to the bytes. Assumes nothing.
use mathlib.Core.Path.{◌≡◌, refl, sym, ap, ◌∙◌}
use Prim.Native.Nat.{ℕ, zero, suc, ◌+◌, ◌*◌, ◌<◌, ◌≤◌, ◌-◌}
use native.Mathlib.Omega.{arith}
use mathlib.Core.List.{List, [], ◌∷◌, ◌++◌, map}
use lib.ListN.{length, get_or, replicate, length-replicate}
use Rattle.rules.specs.declared.Seq.{Seq}
use Rattle.rules.specs.Bytes.{be, part, join}
use Rattle.rules.specs.Layout.{documents_at, revisions_at, sequence_at, head_size, own_in, entry_size}
use Rattle.rules.specs.Map.{Map}
use Rattle.rules.specs.Replica.{Id, Document, Replica, fresh, revisions_held}
use Rattle.rules.specs.Room.{documents_most, id_most, seq_most}
use Rattle.rules.proofs.ByteLaws.{length-be}
use Rattle.octets.specs.Splice.{splice}
use Rattle.octets.proofs.SpliceLaws.{splice_whole}
use Rattle.layout.specs.Fields.{entry_place}
use Rattle.store.specs.Storage.{contents_room, rows_room, store_size, filled, stored_head, stored_entry, stored_entries, rows_in, stored_rows, stored, replica_of, All, FitsDocument, Storable}
use Rattle.store.specs.Documents.{documents_of, no_document, document_at, HasDocument}
use Rattle.tree.specs.Rows.{stored_row}
use Rattle.tree.specs.Table.{insert_at}
use Rattle.store.specs.Change.{modify, blank, with_document, set_seq, with_seq, Holds, CanAddDocument}
use Rattle.store.proofs.RoundLaws.{length-entry, entry_own}
use Rattle.store.proofs.StoredLaws.{length-map, entries_sized, length_head, stored_back, laid_stored, fresh_fits, fresh_stored}
use Rattle.store.proofs.EntryLaws.{document_fits}
use Rattle.store.proofs.TableLaws.{length-modify, length_insert, map_insert, table_splice, table_insert}

-- bytes that are those of a replica that can be laid out hold it
pub holds : (r : Replica) (s : List ℕ) → Storable r → s ≡ stored r → Holds r s
holds r s h e = record { bytes = e; laid = laid_stored r h s e; means = ap replica_of e ∙ stored_back r h }

-- ---- the head

module _ (d r q : ℕ) (T : List ℕ) where
  pub put_documents : (n : ℕ) → splice (stored_head d r q ++ T) documents_at (be 2 n) ≡ stored_head n r q ++ T
  unfolding splice stored_head be
  put_documents n = refl

  pub put_revisions : (n : ℕ) → splice (stored_head d r q ++ T) revisions_at (be 2 n) ≡ stored_head d n q ++ T
  unfolding splice stored_head be
  put_revisions n = refl

  pub put_seq : (n : ℕ) → splice (stored_head d r q ++ T) sequence_at (be 4 n) ≡ stored_head d r n ++ T
  unfolding splice stored_head be
  put_seq n = refl

-- ---- lists of documents

pub modify_map : {A B : Type 0} (f : A → B) (g : A → A) (h : B → B) (i : ℕ) (xs : List A) (x : A) → h (f (get_or xs i x)) ≡ f (g (get_or xs i x))
    → modify i h (map f xs) ≡ map f (modify i g xs)
unfolding modify
modify_map f g h i [] x e = refl
modify_map f g h zero (y ∷ ys) x e = ap (λ (a : _). a ∷ map f ys) e
modify_map f g h (suc i) (y ∷ ys) x e = ap (λ (l : List _). f y ∷ l) (modify_map f g h i ys x e)

pub all_modify : {A : Type 0} (P : A → Type 0) (i : ℕ) (f : A → A) (xs : List A) (x : A) → All P xs → P (f (get_or xs i x)) → All P (modify i f xs)
unfolding modify
all_modify P i f [] x h k = tt
all_modify P zero f (y ∷ ys) x h k = (k, h.1)
all_modify P (suc i) f (y ∷ ys) x h k = (h.0, all_modify P i f ys x h.1 k)

pub all_insert : {A : Type 0} (P : A → Type 0) (i : ℕ) (x : A) (xs : List A) → All P xs → P x → All P (insert_at i x xs)
unfolding insert_at
all_insert P zero x xs h k = (k, h)
all_insert P (suc i) x [] h k = (k, tt)
all_insert P (suc i) x (y ∷ ys) h k = (h.0, all_insert P i x ys h.1 k)

held_seq : (d : ℕ) (q : Seq) (ds : Map Id Document) → revisions_held (modify d (set_seq q) ds) ≡ revisions_held ds
unfolding modify revisions_held
held_seq d q [] = refl
held_seq zero q (x ∷ ds) = refl
held_seq (suc d) q (x ∷ ds) = rw (held_seq d q ds)

rows_seq : (d : ℕ) (q : Seq) (ds : Map Id Document) → rows_in (modify d (set_seq q) ds) ≡ rows_in ds
unfolding modify rows_in
rows_seq d q [] = refl
rows_seq zero q (x ∷ ds) = refl
rows_seq (suc d) q (x ∷ ds) = rw (rows_seq d q ds)

-- ---- entries

-- part of an entry is written
pub put_entry : (ds : Map Id Document) (n m q : ℕ) (W : List ℕ) (d k p : ℕ) (y : List ℕ) (g : Id × Document → Id × Document)
    → All FitsDocument ds → p ≡ entry_place d + k → d < length ds → k + length y ≤ entry_size
    → splice (stored_entry (document_at ds d)) k y ≡ stored_entry (g (document_at ds d))
    → splice (stored_head n m q ++ (filled contents_room (join (stored_entries ds)) ++ W)) p y
    ≡ stored_head n m q ++ (filled contents_room (join (stored_entries (modify d g ds))) ++ W)
unfolding stored_entries document_at
put_entry ds n m q W d k p y g h e l z x =
    let o = modify_map stored_entry g (λ (b : List ℕ). splice b k y) d ds no_document x in
    table_splice (stored_head n m q) head_size entry_size contents_room (map stored_entry ds) W (length_head _ _ _) (entries_sized ds h) p d k y (omega arith) (rw (length-map stored_entry ds) l) z
    ∙ rw o

-- ---- sequences

module _ (r : Replica) (h : Storable r) where
  abbrev ds : Map Id Document
  ds = r.documents

  seq_bytes : (d : ℕ) (q : Seq) → d < length ds
      → splice (splice (stored r) (entry_place d + own_in) (be 4 q.0)) sequence_at (be 4 q.0) ≡ stored (with_seq d q r)
  unfolding stored with_seq stored_rows
  seq_bytes d q l =
      let x : Id × Document = document_at ds d in
      let e = entry_own x (set_seq q x) (document_fits ds d h.documents l).id refl refl in
      let n = length-be 4 q.0 in
      let p = put_entry ds (length ds) (revisions_held ds) r.seq.0 _ d own_in (entry_place d + own_in) (be 4 q.0) (set_seq q) h.documents refl l (omega arith) e in
      ap (λ (s : List ℕ). splice s sequence_at (be 4 q.0)) p
      ∙ (put_seq (length ds) (revisions_held ds) r.seq.0 _ q.0
      ∙ rw (length-modify d (set_seq q) ds, held_seq d q ds, rows_seq d q ds))

  seq_fits : (d : ℕ) (q : Seq) → d < length ds → q.0 ≤ seq_most → Storable (with_seq d q r)
  unfolding with_seq document_at
  seq_fits d q l m =
      let f = document_fits ds d h.documents l in
      record {
        documents = all_modify FitsDocument d (set_seq q) ds no_document h.documents (record { id = f.id; seq = m; rows = f.rows });
        «documents_at_most» = rw (length-modify d (set_seq q) ds) h.documents_at_most;
        «revisions_at_most» = rw (held_seq d q ds) h.revisions_at_most;
        «seq_at_most» = m;
      }

pub seq_holds : (s s₁ s₂ : List ℕ) (d p : ℕ) (q : Seq) → HasDocument s d → q.0 ≤ seq_most → p ≡ entry_place d
    → s₁ ≡ splice s (p + own_in) (be 4 q.0) → s₂ ≡ splice s₁ sequence_at (be 4 q.0) → Holds (with_seq d q (replica_of s)) s₂
seq_holds s s₁ s₂ d p q h m e f g =
    holds (with_seq d q (replica_of s)) s₂ (seq_fits (replica_of s) h.laid.fits d q h.within m)
    (rw (g, f, e) (ap (λ (b : List ℕ). splice (splice b (entry_place d + own_in) (be 4 q.0)) sequence_at (be 4 q.0)) h.laid.same ∙ seq_bytes (replica_of s) h.laid.fits d q h.within))

-- ---- a new document

held_insert : (at : ℕ) (x : Id × Document) (ds : Map Id Document) → x.1.tree ≡ [] → revisions_held (insert_at at x ds) ≡ revisions_held ds
unfolding insert_at revisions_held
held_insert zero x ds e = rw e (omega arith)
held_insert (suc at) x [] e = rw e
held_insert (suc at) x (y ∷ ds) e = rw (held_insert at x ds e)

rows_insert : (at : ℕ) (x : Id × Document) (ds : Map Id Document) → x.1.tree ≡ [] → rows_in (insert_at at x ds) ≡ rows_in ds
unfolding insert_at rows_in
rows_insert zero x ds e = rw e
rows_insert (suc at) x [] e = rw e
rows_insert (suc at) x (y ∷ ds) e = rw (rows_insert at x ds e)

module _ (r : Replica) (h : Storable r) (at : ℕ) (i : Id) (place : at ≤ length r.documents) (room : length r.documents < documents_most) (short : length i ≤ id_most) where
  document_bytes : (p len : ℕ) → p ≡ entry_place at → len ≡ (length r.documents - at) * entry_size
      → splice (splice (splice (stored r) (p + entry_size) (part p len (stored r))) p (stored_entry (blank i))) documents_at (be 2 (length r.documents + 1)) ≡ stored (with_document at i r)
  unfolding stored with_document stored_entries stored_rows
  document_bytes p len e f =
      let docs = r.documents in
      let t = table_insert (stored_head (length docs) (revisions_held docs) r.seq.0) head_size entry_size contents_room (map stored_entry docs) (filled rows_room (join (map stored_row (rows_in docs)))) (length_head _ _ _) (entries_sized docs h.documents)
      (length docs) at p len (stored_entry (blank i)) (sym (length-map stored_entry docs)) place (omega arith) (length-entry (blank i) short) (omega arith) f in
      let n : length (insert_at at (blank i) docs) ≡ length docs + 1 = length_insert at (blank i) docs place ∙ omega arith in
      ap (λ (s : List ℕ). splice s documents_at (be 2 (length docs + 1))) t
      ∙ (put_documents (length docs) (revisions_held docs) r.seq.0 _ (length docs + 1)
      ∙ rw (n, held_insert at (blank i) docs refl, rows_insert at (blank i) docs refl, map_insert stored_entry at (blank i) docs))

  blank_fits : Storable (with_document at i r)
  unfolding with_document
  blank_fits =
      let docs = r.documents in
      record {
        documents = all_insert FitsDocument at (blank i) docs h.documents (record { id = short; seq = omega arith; rows = tt });
        «documents_at_most» = rw (length_insert at (blank i) docs place) (omega arith);
        «revisions_at_most» = rw (held_insert at (blank i) docs refl) h.revisions_at_most;
        «seq_at_most» = h.seq_at_most;
      }

pub document_holds : (s s₁ s₂ s₃ : List ℕ) (at : ℕ) (i : Id) (n p len : ℕ) → CanAddDocument s at i → n ≡ length (documents_of s) → p ≡ entry_place at → len ≡ (n - at) * entry_size
    → s₁ ≡ splice s (p + entry_size) (part p len s) → s₂ ≡ splice s₁ p (stored_entry (blank i)) → s₃ ≡ splice s₂ documents_at (be 2 (n + 1))
    → Holds (with_document at i (replica_of s)) s₃
document_holds s s₁ s₂ s₃ at i n p len h e f g a b c =
    let r = replica_of s in
    let l = h.laid in
    holds (with_document at i r) s₃ (blank_fits r l.fits at i h.place h.room h.id)
    (rw (c, b, a, e) (ap (λ (x : List ℕ). splice (splice (splice x (p + entry_size) (part p len x)) p (stored_entry (blank i))) documents_at (be 2 (length (documents_of s) + 1))) l.same
    ∙ document_bytes r l.fits at i h.place h.room h.id p len f (rw e at g)))

-- ---- fresh

pub fresh_holds : (s s₁ : List ℕ) → length s ≡ store_size → s₁ ≡ splice s 0 (replicate store_size 0) → Holds fresh s₁
fresh_holds s s₁ h e =
    holds fresh s₁ fresh_fits (e ∙ (splice_whole s (replicate store_size 0) (length-replicate {A = ℕ} store_size 0 ∙ sym h) ∙ sym fresh_stored))
