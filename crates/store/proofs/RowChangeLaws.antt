-- What a changed row does to the bytes. Assumes nothing.
use mathlib.Core.Path.{◌≡◌, refl, sym, ap, ap₂, ◌∙◌}
use Prim.Native.Nat.{ℕ, zero, suc, ◌+◌, ◌*◌, ◌<◌, ◌≤◌, ◌-◌}
use native.Mathlib.Nat.{not-suc-le-zero, le_of_suc-le-suc, zero-add, suc-add, add_assoc}
use native.Mathlib.Omega.{arith}
use mathlib.Core.List.{List, [], ◌∷◌, ◌++◌, map, append_assoc, append-nil}
use lib.ListN.{length, take, drop, get_or, set, length-append, length-set}
use lib.Seq.{set-append_left, take-append-le, drop-append-le}
use Rattle.rules.specs.declared.Revision.{Revision}
use Rattle.rules.specs.Bytes.{be, join}
use Rattle.rules.specs.Layout.{revisions_at, count_in, row_size}
use Rattle.rules.specs.Map.{Map}
use Rattle.rules.specs.Replica.{Id, Node, Tree, Document, Replica, revisions_held}
use Rattle.rules.specs.Room.{revisions_most}
use Rattle.rules.proofs.ByteLaws.{length-be}
use Rattle.octets.specs.Splice.{splice}
use Rattle.octets.proofs.SpliceLaws.{splice_whole}
use Rattle.tree.specs.declared.table.Body.{Body}
use Rattle.tree.specs.Rows.{stored_row, FitsRow}
use Rattle.tree.specs.Table.{insert_at, row_start, insert_bytes}
use Rattle.tree.proofs.RowLaws.{length_row}
use Rattle.layout.specs.Fields.{entry_place}
use Rattle.store.specs.Storage.{contents_room, rows_room, rows_place, filled, stored_head, stored_entry, stored_entries, rows_in, stored_rows, stored, replica_of, All, FitsDocument, Storable}
use Rattle.store.specs.Documents.{documents_of, no_document, document_at, first_row, row_place, IsBody}
use Rattle.store.specs.Change.{modify, set_tree, with_tree, Holds, CanInsertRow}
use Rattle.store.proofs.RoundLaws.{entry_count}
use Rattle.store.proofs.StoredLaws.{length-map, length-rows_in, rows_sized, fit_rows, length_head, size_contents}
use Rattle.store.proofs.EntryLaws.{document_fits, all_at, first_next, first_most}
use Rattle.store.proofs.TableLaws.{length-modify, modify_id, set_modify, modify_same, length_insert, map_insert, table_splice, table_insert}
use Rattle.store.proofs.ChangeLaws.{holds, put_revisions, put_entry, modify_map, all_modify, all_insert}

-- ---- lists

insert_front : {A : Type 0} (i : ℕ) (x : A) (t z : List A) → i ≤ length t → insert_at i x (t ++ z) ≡ insert_at i x t ++ z
unfolding insert_at
insert_front i x t z h =
    rw (take-append-le i t z h, drop-append-le i t z h) (sym (append_assoc (take i t) (x ∷ drop i t) z))

insert_past : {A : Type 0} (j : ℕ) (x : A) (t z : List A) → insert_at (length t + j) x (t ++ z) ≡ t ++ insert_at j x z
unfolding insert_at
insert_past j x [] z = rw (zero-add j)
insert_past j x (y ∷ t) z = rw (suc-add (length t) j) (ap (λ (l : List _). y ∷ l) (insert_past j x t z))

set_past : {A : Type 0} (j : ℕ) (x : A) (t z : List A) → set (t ++ z) (length t + j) x ≡ t ++ set z j x
set_past j x [] z = rw (zero-add j)
set_past j x (y ∷ t) z = rw (suc-add (length t) j) (ap (λ (l : List _). y ∷ l) (set_past j x t z))

all_set : {A : Type 0} (P : A → Type 0) (xs : List A) (i : ℕ) (x : A) → All P xs → P x → All P (set xs i x)
all_set P [] i x h k = tt
all_set P (y ∷ ys) zero x h k = (k, h.1)
all_set P (y ∷ ys) (suc i) x h k = (h.0, all_set P ys i x h.1 k)

entry_same : (x : Id × Document) (f : Tree → Tree) → length (f x.1.tree) ≡ length x.1.tree → stored_entry x ≡ stored_entry (set_tree f x)
unfolding stored_entry
entry_same x f e = rw e

-- ---- rows among all rows

rows_insert : (ds : Map Id Document) (d i : ℕ) (v : Revision × Node) → d < length ds → i ≤ length (document_at ds d).1.tree
    → rows_in (modify d (set_tree (insert_at i v)) ds) ≡ insert_at (first_row ds d + i) v (rows_in ds)
unfolding rows_in modify first_row document_at revisions_held
rows_insert [] d i v h k = absurd (not-suc-le-zero h)
rows_insert (x ∷ ds) zero i v h k = rw (zero-add i) (sym (insert_front i v x.1.tree (rows_in ds) k))
rows_insert (x ∷ ds) (suc d) i v h k =
    rw (add_assoc (length x.1.tree) (revisions_held (take d ds)) i, insert_past (revisions_held (take d ds) + i) v x.1.tree (rows_in ds), rows_insert ds d i v (le_of_suc-le-suc h) k)

rows_set : (ds : Map Id Document) (d i : ℕ) (v : Revision × Node) → d < length ds → i < length (document_at ds d).1.tree
    → rows_in (modify d (set_tree (λ t. set t i v)) ds) ≡ set (rows_in ds) (first_row ds d + i) v
unfolding rows_in modify first_row document_at revisions_held
rows_set [] d i v h k = absurd (not-suc-le-zero h)
rows_set (x ∷ ds) zero i v h k = rw (zero-add i) (sym (set-append_left x.1.tree (rows_in ds) i v k))
rows_set (x ∷ ds) (suc d) i v h k =
    rw (add_assoc (length x.1.tree) (revisions_held (take d ds)) i, set_past (revisions_held (take d ds) + i) v x.1.tree (rows_in ds), rows_set ds d i v (le_of_suc-le-suc h) k)

-- ---- a changed document

pub first_modify : (ds : Map Id Document) (d : ℕ) (g : Id × Document → Id × Document) → first_row (modify d g ds) d ≡ first_row ds d
unfolding first_row modify revisions_held
first_modify [] d g = refl
first_modify (x ∷ ds) zero g = refl
first_modify (x ∷ ds) (suc d) g = rw (first_modify ds d g)

pub at_modify : (ds : Map Id Document) (d : ℕ) (g : Id × Document → Id × Document) → d < length ds → document_at (modify d g ds) d ≡ g (document_at ds d)
unfolding document_at modify
at_modify [] d g h = absurd (not-suc-le-zero h)
at_modify (x ∷ ds) zero g h = refl
at_modify (x ∷ ds) (suc d) g h = at_modify ds d g (le_of_suc-le-suc h)

-- only what becomes of document d's tree counts
pub tree_same : (r : Replica) (d : ℕ) (f g : Tree → Tree) → f (document_at r.documents d).1.tree ≡ g (document_at r.documents d).1.tree → with_tree d f r ≡ with_tree d g r
unfolding with_tree document_at
tree_same r d f g e =
    let x = get_or r.documents d no_document in
    let m = modify_same d (set_tree f) (set_tree g) r.documents no_document (ap (λ (u : Tree). (x.0, record { seq = x.1.seq; tree = u })) e) in
    λ i. record { seq = r.seq; documents = m i }

module _ (r : Replica) (h : Storable r) (d : ℕ) (l : d < length r.documents) where
  abbrev ds : Map Id Document
  ds = r.documents

  abbrev t : Tree
  t = (document_at ds d).1.tree

  abbrev H : List ℕ
  H = stored_head (length ds) (revisions_held ds) r.seq.0

  abbrev C : List ℕ
  C = filled contents_room (join (stored_entries ds))

  -- the bytes with the rows last
  rows_last : stored r ≡ (H ++ C) ++ (filled rows_room (join (map stored_row (rows_in ds))) ++ [])
  unfolding stored stored_rows
  rows_last = rw (append-nil (filled rows_room (join (map stored_row (rows_in ds))))) (sym (append_assoc H C (filled rows_room (join (map stored_row (rows_in ds))))))

  length_HC : length (H ++ C) ≡ rows_place
  length_HC = length-append H C ∙ ap₂ ◌+◌ (length_head _ _ _) (size_contents r h)

  tree_fits : (f : Tree → Tree) → All FitsRow (f t) → revisions_held (modify d (set_tree f) ds) ≤ revisions_most → Storable (with_tree d f r)
  unfolding with_tree document_at
  tree_fits f a m =
      let x = document_fits ds d h.documents l in
      record {
        documents = all_modify FitsDocument d (set_tree f) ds no_document h.documents (record { id = x.id; seq = x.seq; rows = a });
        «documents_at_most» = rw (length-modify d (set_tree f) ds) h.documents_at_most;
        «revisions_at_most» = m;
        «seq_at_most» = h.seq_at_most;
      }

  -- ---- a row goes in

  held_insert : (i : ℕ) (v : Revision × Node) → i ≤ length t → revisions_held (modify d (set_tree (insert_at i v)) ds) ≡ revisions_held ds + 1
  held_insert i v k =
      let a = length-rows_in (modify d (set_tree (insert_at i v)) ds) in
      let b = length-rows_in ds in
      let f = first_next ds d l in
      let m = first_most ds (suc d) in
      let c : length (insert_at (first_row ds d + i) v (rows_in ds)) ≡ suc (length (rows_in ds)) = length_insert (first_row ds d + i) v (rows_in ds) (omega arith) in
      let e = ap length (rows_insert ds d i v l k) in
      omega arith

  insert_fits : (i : ℕ) (v : Revision × Node) → FitsRow v → i ≤ length t → revisions_held ds < revisions_most → Storable (with_tree d (insert_at i v) r)
  insert_fits i v f k m =
      tree_fits (insert_at i v) (all_insert FitsRow i v t (document_fits ds d h.documents l).rows f) (rw (held_insert i v k) (omega arith))

  insert_whole : (i : ℕ) (v : Revision × Node) → i ≤ length t
      → stored_head (length ds) (revisions_held ds + 1) r.seq.0 ++ (filled contents_room (join (stored_entries (modify d (set_tree (insert_at i v)) ds))) ++ filled rows_room (join (insert_at (first_row ds d + i) (stored_row v) (map stored_row (rows_in ds)))))
      ≡ stored (with_tree d (insert_at i v) r)
  unfolding stored with_tree stored_rows
  insert_whole i v k =
      rw (length-modify d (set_tree (insert_at i v)) ds, held_insert i v k, rows_insert ds d i v l k, map_insert stored_row (first_row ds d + i) v (rows_in ds))

  insert_bytes_lem : (i : ℕ) (v : Revision × Node) (at end p : ℕ) → FitsRow v → i ≤ length t → revisions_held ds < revisions_most
      → at ≡ row_place (first_row ds d) + i * row_size → end ≡ row_place (revisions_held ds) → p ≡ entry_place d
      → splice (splice (insert_bytes at end v (stored r)) (p + count_in) (be 2 (length t + 1))) revisions_at (be 2 (revisions_held ds + 1)) ≡ stored (with_tree d (insert_at i v) r)
  unfolding insert_bytes
  insert_bytes_lem i v at end p f k m e g q =
      let rs : List (List ℕ) = map stored_row (rows_in ds) in
      let j = first_row ds d + i in
      let fn = first_next ds d l in
      let fm = first_most ds (suc d) in
      let lr : length rs ≡ revisions_held ds = length-map stored_row (rows_in ds) ∙ length-rows_in ds in
      let R : List ℕ = filled rows_room (join (insert_at j (stored_row v) rs)) in
      let one : insert_bytes at end v (stored r) ≡ H ++ (C ++ R)
      = rw rows_last
      (table_insert (H ++ C) rows_place row_size rows_room rs [] length_HC (rows_sized (rows_in ds) (fit_rows ds h.documents)) (revisions_held ds) j at (end - at) (stored_row v)
      (sym lr) (omega arith) (omega arith) (length_row v f) (omega arith) (omega arith)
      ∙ rw (append-nil R) (append_assoc H C R)) in
      let x : Id × Document = document_at ds d in
      let c : length (insert_at i v t) ≡ length t + 1 = length_insert i v t k ∙ omega arith in
      let counted = ap (λ (u : ℕ). splice (stored_entry x) count_in (be 2 u)) (sym c) ∙ entry_count x (set_tree (insert_at i v) x) (document_fits ds d h.documents l).id refl refl in
      let two = put_entry ds (length ds) (revisions_held ds) r.seq.0 R d count_in (p + count_in) (be 2 (length t + 1)) (set_tree (insert_at i v))
      h.documents (omega arith) l (omega (arith, length-be 2 (length t + 1))) counted in
      ap (λ (b : List ℕ). splice (splice b (p + count_in) (be 2 (length t + 1))) revisions_at (be 2 (revisions_held ds + 1))) one
      ∙ (ap (λ (b : List ℕ). splice b revisions_at (be 2 (revisions_held ds + 1))) two
      ∙ (put_revisions (length ds) (revisions_held ds) r.seq.0 _ (revisions_held ds + 1) ∙ insert_whole i v k))

  -- ---- a row is set

  held_set : (i : ℕ) (v : Revision × Node) → i < length t → revisions_held (modify d (set_tree (λ u. set u i v)) ds) ≡ revisions_held ds
  held_set i v k =
      sym (length-rows_in (modify d (set_tree (λ u. set u i v)) ds)) ∙ (ap length (rows_set ds d i v l k) ∙ (length-set (rows_in ds) (first_row ds d + i) v ∙ length-rows_in ds))

  -- entries stay where no count changes
  entries_same : (f : Tree → Tree) → length (f t) ≡ length t → stored_entries (modify d (set_tree f) ds) ≡ stored_entries ds
  unfolding stored_entries document_at
  entries_same f e =
      sym (modify_map stored_entry (set_tree f) (λ (b : List ℕ). b) d ds no_document (entry_same (get_or ds d no_document) f e)) ∙ modify_id d (map stored_entry ds)

  set_rows : (i : ℕ) (v : Revision × Node) → FitsRow v → i < length t
      → modify (first_row ds d + i) (λ (b : List ℕ). splice b 0 (stored_row v)) (map stored_row (rows_in ds)) ≡ map stored_row (rows_in (modify d (set_tree (λ u. set u i v)) ds))
  set_rows i v f k =
      let j = first_row ds d + i in
      let fn = first_next ds d l in
      let fm = first_most ds (suc d) in
      let n = length-rows_in ds in
      let w : length (stored_row (get_or (rows_in ds) j v)) ≡ row_size = length_row _ (all_at FitsRow (rows_in ds) j v (fit_rows ds h.documents) (omega arith)) in
      modify_map stored_row (λ _. v) (λ (b : List ℕ). splice b 0 (stored_row v)) j (rows_in ds) v (splice_whole (stored_row (get_or (rows_in ds) j v)) (stored_row v) (length_row v f ∙ sym w))
      ∙ ap (map stored_row) (sym (set_modify (rows_in ds) j v) ∙ sym (rows_set ds d i v l k))

  set_bytes : (i : ℕ) (v : Revision × Node) (at : ℕ) → FitsRow v → i < length t → at ≡ row_place (first_row ds d) + i * row_size
      → splice (stored r) at (stored_row v) ≡ stored (with_tree d (λ u. set u i v) r)
  unfolding stored with_tree stored_rows
  set_bytes i v at f k e =
      let rs : List (List ℕ) = map stored_row (rows_in ds) in
      let j = first_row ds d + i in
      let fn = first_next ds d l in
      let fm = first_most ds (suc d) in
      let lr : length rs ≡ revisions_held ds = length-map stored_row (rows_in ds) ∙ length-rows_in ds in
      let lv = length_row v f in
      let ns : List (List ℕ) = map stored_row (rows_in (modify d (set_tree (λ u. set u i v)) ds)) in
      rw rows_last
      (table_splice (H ++ C) rows_place row_size rows_room rs [] length_HC (rows_sized (rows_in ds) (fit_rows ds h.documents)) at j 0 (stored_row v) (omega arith) (omega arith) (omega arith)
      ∙ rw (set_rows i v f k, append-nil (filled rows_room (join ns)), append_assoc H C (filled rows_room (join ns)), length-modify d (set_tree (λ u. set u i v)) ds, held_set i v k, entries_same (λ u. set u i v) (length-set t i v)))

  set_fits : (i : ℕ) (v : Revision × Node) → FitsRow v → i < length t → Storable (with_tree d (λ u. set u i v) r)
  set_fits i v f k =
      tree_fits (λ u. set u i v) (all_set FitsRow t i v (document_fits ds d h.documents l).rows f) (rw (held_set i v k) h.revisions_at_most)

-- ---- the buffer

pub insert_holds : (s s₁ s₂ s₃ : List ℕ) (d : ℕ) (b : Body) (i m at end p : ℕ) (v : Revision × Node) → CanInsertRow s d b i → FitsRow v
    → m ≡ revisions_held (documents_of s) → at ≡ row_start b i → end ≡ row_place m → p ≡ entry_place d
    → s₁ ≡ insert_bytes at end v s → s₂ ≡ splice s₁ (p + count_in) (be 2 (b.rows + 1)) → s₃ ≡ splice s₂ revisions_at (be 2 (m + 1))
    → Holds (with_tree d (insert_at i v) (replica_of s)) s₃
insert_holds s s₁ s₂ s₃ d b i m at end p v c f a e g q x y z =
    let r = replica_of s in
    let l = c.body.document.laid in
    let w = c.body.document.within in
    let base = c.body.base in
    let n = length (document_at (documents_of s) d).1.tree in
    let k : i ≤ n = rw c.body.rows at c.place in
    holds (with_tree d (insert_at i v) r) s₃ (insert_fits r l.fits d w i v f k c.room)
    (rw (z, y, x, c.body.rows, a)
    (ap (λ (u : List ℕ). splice (splice (insert_bytes at end v u) (p + count_in) (be 2 (n + 1))) revisions_at (be 2 (revisions_held (documents_of s) + 1))) l.same
    ∙ insert_bytes_lem r l.fits d w i v at end p f k c.room (omega arith) (rw a at g) q))

pub set_holds : (s s₁ : List ℕ) (d : ℕ) (b : Body) (i at : ℕ) (v : Revision × Node) → IsBody s d b → i < b.rows → FitsRow v
    → at ≡ row_start b i → s₁ ≡ splice s at (stored_row v) → Holds (with_tree d (λ u. set u i v) (replica_of s)) s₁
set_holds s s₁ d b i at v h k f e x =
    let r = replica_of s in
    let l = h.document.laid in
    let w = h.document.within in
    let base = h.base in
    let n : i < length (document_at (documents_of s) d).1.tree = rw h.rows at k in
    holds (with_tree d (λ u. set u i v) r) s₁ (set_fits r l.fits d w i v f n)
    (x ∙ (ap (λ (u : List ℕ). splice u at (stored_row v)) l.same ∙ set_bytes r l.fits d w i v at f n (omega arith)))

-- the document's rows after its tree changed
pub body_after : (s s₁ : List ℕ) (d : ℕ) (b b₁ : Body) (f : Tree → Tree) → IsBody s d b → Holds (with_tree d f (replica_of s)) s₁ → b₁.base ≡ b.base
    → b₁.rows ≡ length (f (document_at (documents_of s) d).1.tree) → IsBody s₁ d b₁
unfolding with_tree
body_after s s₁ d b b₁ f h k e n =
    let ds = documents_of s in
    let m : documents_of s₁ ≡ modify d (set_tree f) ds = ap (λ (r : Replica). r.documents) k.means in
    record {
      document = record { laid = k.laid; within = rw (m, length-modify d (set_tree f) ds) h.document.within };
      base = rw (m, first_modify ds d (set_tree f)) (e ∙ h.base);
      rows = rw (m, at_modify ds d (set_tree f) h.document.within) n;
    }
