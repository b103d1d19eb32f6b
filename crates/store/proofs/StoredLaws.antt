-- The bytes of a replica hold it, and no other bytes do. Assumes nothing.
use mathlib.Core.Path.{◌≡◌, refl, sym, ap, ap₂, ◌∙◌}
use Prim.Native.Nat.{ℕ, suc, ◌+◌, ◌*◌, ◌≤◌}
use native.Mathlib.Omega.{arith}
use mathlib.Core.List.{List, [], ◌∷◌, ◌++◌, map, append_assoc}
use lib.ListN.{length, take, drop, replicate, length-append, length-replicate}
use lib.Seq.{take_at, drop_at}
use Rattle.rules.specs.declared.Revision.{Revision}
use Rattle.rules.specs.Bytes.{be, value_from, value, part, join}
use Rattle.rules.specs.Image.{entries_of, deal, documents_in}
use Rattle.rules.specs.Layout.{Row, head_size, entry_size, row_size, head_of, entry_of, row_of}
use Rattle.rules.specs.Map.{Map}
use Rattle.rules.specs.Replica.{Id, Node, Tree, Document, Replica, fresh, revisions_held}
use Rattle.rules.specs.Room.{documents_most, revisions_most, seq_most}
use Rattle.tree.specs.Rows.{stored_row, node_held, FitsRow}
use Rattle.store.specs.Storage.{contents_room, rows_room, rows_place, store_size, filled, stored_head, stored_entry, stored_entries, rows_in, stored_rows, stored, rows_held, replica_of, All, FitsDocument, Storable, Laid}
use Rattle.rules.proofs.ByteLaws.{Sized, length-join, pieces_join}
use Rattle.store.proofs.PieceLaws.{drop_past}
use Rattle.tree.proofs.RowLaws.{length_row, row_back}
use Rattle.store.proofs.RoundLaws.{length-entry, entry_fields}

-- ---- all rows

pub length-rows_in : (ds : Map Id Document) → length (rows_in ds) ≡ revisions_held ds
unfolding rows_in revisions_held
length-rows_in [] = refl
length-rows_in (d ∷ ds) = length-append d.1.tree (rows_in ds) ∙ ap (λ (n : ℕ). length d.1.tree + n) (length-rows_in ds)

pub length-map : {A B : Type 0} (f : A → B) (xs : List A) → length (map f xs) ≡ length xs
length-map f [] = refl
length-map f (x ∷ xs) = ap suc (length-map f xs)

pub map-append : {A B : Type 0} (f : A → B) (xs ys : List A) → map f (xs ++ ys) ≡ map f xs ++ map f ys
map-append f [] ys = refl
map-append f (x ∷ xs) ys = ap (λ (l : List _). f x ∷ l) (map-append f xs ys)

pub fit_append : (xs ys : List (Revision × Node)) → All FitsRow xs → All FitsRow ys → All FitsRow (xs ++ ys)
fit_append [] ys h k = k
fit_append (x ∷ xs) ys h k = (h.0, fit_append xs ys h.1 k)

pub fit_rows : (ds : Map Id Document) → All FitsDocument ds → All FitsRow (rows_in ds)
unfolding rows_in
fit_rows [] h = tt
fit_rows (d ∷ ds) h = fit_append d.1.tree (rows_in ds) h.0.rows (fit_rows ds h.1)

pub rows_sized : (vs : List (Revision × Node)) → All FitsRow vs → Sized row_size (map stored_row vs)
rows_sized [] h = tt
rows_sized (v ∷ vs) h = (length_row v h.0, rows_sized vs h.1)

pub entries_sized : (ds : Map Id Document) → All FitsDocument ds → Sized entry_size (stored_entries ds)
unfolding stored_entries
entries_sized [] h = tt
entries_sized (d ∷ ds) h = (length-entry d h.0.id, entries_sized ds h.1)

-- ---- the regions

pub length-filled : (n : ℕ) (s : List ℕ) → length s ≤ n → length (filled n s) ≡ n
unfolding filled
length-filled n s h = simp (length-append, length-replicate) (omega arith)

pub length_head : (d r q : ℕ) → length (stored_head d r q) ≡ head_size
unfolding stored_head be
length_head d r q = refl

module _ (d r q : ℕ) (T : List ℕ) where
  pub head_documents : d ≤ documents_most → (head_of (stored_head d r q ++ T)).documents ≡ d
  unfolding head_of stored_head be value value_from part
  head_documents h = omega arith

  pub head_revisions : r ≤ revisions_most → (head_of (stored_head d r q ++ T)).revisions ≡ r
  unfolding head_of stored_head be value value_from part
  head_revisions h = omega arith

  pub head_seq : q ≤ seq_most → (head_of (stored_head d r q ++ T)).seq ≡ q
  unfolding head_of stored_head be value value_from part
  head_seq h = omega arith

-- ---- reading all back

pub tree_back : (t : Tree) → All FitsRow t → map node_held (map row_of (map stored_row t)) ≡ t
tree_back [] h = refl
tree_back (v ∷ t) h = ap₂ ◌∷◌ (row_back v h.0) (tree_back t h.1)

documents_back : (ds : Map Id Document) → All FitsDocument ds → revisions_held ds ≤ revisions_most
    → documents_in node_held (map entry_of (stored_entries ds)) (deal (map entry_of (stored_entries ds)) (map row_of (stored_rows ds))) ≡ ds
unfolding documents_in deal stored_entries stored_rows rows_in revisions_held
documents_back [] h m = refl
documents_back (d ∷ ds) h m =
    let f = entry_fields d h.0.id (omega arith) h.0.seq in
    let t : List Row = map row_of (map stored_row d.1.tree) in
    let w : List Row = map row_of (map stored_row (rows_in ds)) in
    let n : length t ≡ length d.1.tree = length-map row_of (map stored_row d.1.tree) ∙ length-map stored_row d.1.tree in
    let s : map row_of (map stored_row (d.1.tree ++ rows_in ds)) ≡ t ++ w = ap (map row_of) (map-append stored_row d.1.tree (rows_in ds)) ∙ map-append row_of (map stored_row d.1.tree) (map stored_row (rows_in ds)) in
    let b = tree_back d.1.tree h.0.rows in
    let i = f.id in
    let q = f.seq in
    let x : map node_held (take (length d.1.tree) (t ++ w)) ≡ d.1.tree = ap (map node_held) (take_at t w _ n) ∙ b in
    rw (s, f.rows, drop_at t w _ n)
    (ap₂ ◌∷◌ (λ j. (i j, record { seq = record { 0 = q j }; tree = x j })) (documents_back ds h.1 (omega arith)))

module _ (r : Replica) (h : Storable r) where
  -- the bytes, region by region
  abbrev head : List ℕ
  head = stored_head (length r.documents) (revisions_held r.documents) r.seq.0

  pub size_entries : length (join (stored_entries r.documents)) ≡ length r.documents * entry_size
  unfolding stored_entries
  size_entries =
      length-join entry_size (stored_entries r.documents) (entries_sized r.documents h.documents)
      ∙ ap (λ (n : ℕ). n * entry_size) (length-map stored_entry r.documents)

  pub size_rows : length (join (stored_rows r.documents)) ≡ revisions_held r.documents * row_size
  unfolding stored_rows
  size_rows =
      length-join row_size (stored_rows r.documents) (rows_sized (rows_in r.documents) (fit_rows r.documents h.documents))
      ∙ ap (λ (n : ℕ). n * row_size) (length-map stored_row (rows_in r.documents) ∙ length-rows_in r.documents)

  pub size_contents : length (filled contents_room (join (stored_entries r.documents))) ≡ contents_room
  size_contents = length-filled contents_room _ (omega (arith, size_entries, h.documents_at_most))

  pub size_table : length (filled rows_room (join (stored_rows r.documents))) ≡ rows_room
  size_table = length-filled rows_room _ (omega (arith, size_rows, h.revisions_at_most))

  pub size_stored : length (stored r) ≡ store_size
  unfolding stored
  size_stored = simp (length-append, length_head) (omega (arith, size_contents, size_table))

  pub past_head : drop head_size (stored r) ≡ filled contents_room (join (stored_entries r.documents)) ++ filled rows_room (join (stored_rows r.documents))
  unfolding stored
  past_head = drop_at head _ head_size (length_head _ _ _)

  pub past_contents : drop rows_place (stored r) ≡ filled rows_room (join (stored_rows r.documents))
  unfolding stored
  past_contents =
      let C : List ℕ = filled contents_room (join (stored_entries r.documents)) in
      let R : List ℕ = filled rows_room (join (stored_rows r.documents)) in
      drop_past head (C ++ R) head_size contents_room (length_head _ _ _) ∙ drop_at C R contents_room size_contents

  pub documents_stored : (head_of (stored r)).documents ≡ length r.documents
  unfolding stored
  documents_stored = head_documents _ _ _ _ h.documents_at_most

  pub revisions_stored : (head_of (stored r)).revisions ≡ revisions_held r.documents
  unfolding stored
  revisions_stored = head_revisions _ _ _ _ h.revisions_at_most

  pub seq_stored : (head_of (stored r)).seq ≡ r.seq.0
  unfolding stored
  seq_stored = head_seq _ _ _ _ h.seq_at_most

  entries_stored : entries_of (stored r) ≡ map entry_of (stored_entries r.documents)
  unfolding entries_of filled stored_entries
  entries_stored =
      let n : length (map stored_entry r.documents) ≡ length r.documents = length-map stored_entry r.documents in
      rw (documents_stored, past_head, append_assoc (join (map stored_entry r.documents)) _ (filled rows_room _), sym n)
      (ap (map entry_of) (pieces_join entry_size (stored_entries r.documents) _ (entries_sized r.documents h.documents)))

  rows_stored : rows_held (stored r) ≡ map row_of (stored_rows r.documents)
  unfolding rows_held filled stored_rows
  rows_stored =
      let n : length (map stored_row (rows_in r.documents)) ≡ revisions_held r.documents = length-map stored_row (rows_in r.documents) ∙ length-rows_in r.documents in
      rw (revisions_stored, past_contents, sym n)
      (ap (map row_of) (pieces_join row_size (stored_rows r.documents) _ (rows_sized (rows_in r.documents) (fit_rows r.documents h.documents))))

  -- what is laid out is read back
  pub stored_back : replica_of (stored r) ≡ r
  unfolding replica_of
  stored_back =
      let d : documents_in node_held (entries_of (stored r)) (deal (entries_of (stored r)) (rows_held (stored r))) ≡ r.documents
      = rw (entries_stored, rows_stored) (documents_back r.documents h.documents h.revisions_at_most) in
      let q = seq_stored in
      λ i. record { seq = record { 0 = q i }; documents = d i }

  -- any bytes that are those of r
  pub laid_stored : (s : List ℕ) → s ≡ stored r → Laid s
  laid_stored s e =
      let b : replica_of s ≡ r = ap replica_of e ∙ stored_back in
      record { same = rw b e; fits = rw b h }

pub size_laid : (s : List ℕ) → Laid s → length s ≡ store_size
size_laid s h = ap length h.same ∙ size_stored (replica_of s) h.fits

-- ---- fresh

pub fresh_fits : Storable fresh
unfolding revisions_held
fresh_fits = record { documents = tt; «documents_at_most» = omega arith; «revisions_at_most» = omega arith; «seq_at_most» = omega arith }

pub fresh_stored : stored fresh ≡ replicate store_size 0
unfolding stored stored_head stored_entries stored_rows rows_in revisions_held filled join be
fresh_stored = refl
