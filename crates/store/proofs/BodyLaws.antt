-- A document's rows are its tree. Assumes nothing.
use mathlib.Core.Path.{◌≡◌, refl, sym, ap, ◌∙◌}
use Rattle.std.specs.Prelude.{Result, Ok, Err}
use Prim.Native.Nat.{ℕ, zero, suc, ◌+◌, ◌*◌, ◌<◌, ◌≤◌, ◌-◌}
use native.Mathlib.Nat.{not-suc-le-zero, le_of_suc-le-suc}
use native.Mathlib.Omega.{arith}
use mathlib.Core.List.{List, [], ◌∷◌, ◌++◌, map, append_assoc}
use lib.ListN.{length, take, drop, replicate}
use lib.Seq.{drop_at, drop-drop}
use Rattle.rules.specs.declared.Revision.{Revision}
use Rattle.rules.specs.Bytes.{pieces, join}
use Rattle.rules.specs.Layout.{row_size, row_of}
use Rattle.rules.specs.Map.{Map}
use Rattle.rules.specs.Replica.{Id, Node, Document, Replica, tree_of, document_of, revisions_held}
use Rattle.rules.specs.Room.{documents_most, revisions_most}
use Rattle.rules.proofs.ByteLaws.{length-join, pieces_join, join_append}
use Rattle.tree.specs.declared.table.Body.{Body}
use Rattle.tree.specs.Rows.{stored_row, node_held, FitsRow}
use Rattle.tree.specs.Table.{body, tree_at}
use Rattle.store.specs.Storage.{rows_room, rows_place, store_size, filled, rows_in, stored_rows, stored, replica_of, All, FitsDocument, Storable, Laid}
use Rattle.store.specs.Documents.{documents_of, document_at, first_row, row_place, place_of_id, body_at, HasDocument, Looked, IsBody, Shows, IsBodyOf}
use Rattle.store.proofs.StoredLaws.{length-map, map-append, length-rows_in, rows_sized, fit_rows, past_contents, tree_back}
use Rattle.store.proofs.EntryLaws.{document_fits, standing, entry_held}
use Rattle.store.proofs.PlaceLaws.{id_found, id_gap}

-- the rows before a document, its own, and those after it
pub rows_split : (ds : Map Id Document) (d : ℕ) → d < length ds → rows_in ds ≡ rows_in (take d ds) ++ ((document_at ds d).1.tree ++ rows_in (drop (suc d) ds))
unfolding rows_in document_at
rows_split [] d h = absurd (not-suc-le-zero h)
rows_split (x ∷ ds) zero h = refl
rows_split (x ∷ ds) (suc d) h = rw (rows_split ds d (le_of_suc-le-suc h)) (sym (append_assoc x.1.tree (rows_in (take d ds)) ((document_at ds d).1.tree ++ rows_in (drop (suc d) ds))))

all_take : {A : Type 0} (P : A → Type 0) (n : ℕ) (xs : List A) → All P xs → All P (take n xs)
all_take P zero xs h = tt
all_take P (suc n) [] h = tt
all_take P (suc n) (x ∷ xs) h = (h.0, all_take P n xs h.1)

-- rows in the middle of others
tree_middle : (a t z : List (Revision × Node)) (T : List ℕ) (n : ℕ) → All FitsRow a → All FitsRow t → n ≡ length a * row_size
    → map node_held (map row_of (pieces (length t) row_size (drop n (join (map stored_row (a ++ (t ++ z))) ++ T)))) ≡ t
tree_middle a t z T n h k e =
    let la : length (join (map stored_row a)) ≡ n = length-join row_size (map stored_row a) (rows_sized a h) ∙ (ap (λ (m : ℕ). m * row_size) (length-map stored_row a) ∙ sym e) in
    let s : join (map stored_row (a ++ (t ++ z))) ++ T ≡ join (map stored_row a) ++ (join (map stored_row t) ++ (join (map stored_row z) ++ T))
    = rw (map-append stored_row a (t ++ z), map-append stored_row t z, join_append (map stored_row a) (map stored_row t ++ map stored_row z), join_append (map stored_row t) (map stored_row z)) (simp append_assoc) in
    let p : pieces (length t) row_size (join (map stored_row t) ++ (join (map stored_row z) ++ T)) ≡ map stored_row t
    = rw (sym (length-map stored_row t)) (pieces_join row_size (map stored_row t) (join (map stored_row z) ++ T) (rows_sized t k)) in
    rw (s, drop_at (join (map stored_row a)) (join (map stored_row t) ++ (join (map stored_row z) ++ T)) n la, p) (tree_back t k)

body_stored : (r : Replica) (d : ℕ) → Storable r → d < length r.documents
    → tree_at (row_place (first_row r.documents d)) (length (document_at r.documents d).1.tree) (stored r) ≡ (document_at r.documents d).1.tree
unfolding tree_at first_row filled stored_rows
body_stored r d h l =
    let ds = r.documents in
    let a : List (Revision × Node) = rows_in (take d ds) in
    let t : List (Revision × Node) = (document_at ds d).1.tree in
    let z : List (Revision × Node) = rows_in (drop (suc d) ds) in
    let fd : FitsDocument (document_at ds d) = document_fits ds d h.documents l in
    let n : length a ≡ revisions_held (take d ds) = length-rows_in (take d ds) in
    let p : drop (row_size * revisions_held (take d ds)) (drop rows_place (stored r)) ≡ drop (row_size * revisions_held (take d ds)) (join (map stored_row (a ++ (t ++ z))) ++ replicate (rows_room - length (join (map stored_row (rows_in ds)))) 0)
    = ap (drop (row_size * revisions_held (take d ds))) (past_contents r h ∙ ap (λ (x : List (Revision × Node)). join (map stored_row x) ++ replicate (rows_room - length (join (map stored_row (rows_in ds)))) 0) (rows_split ds d l)) in
    rw (sym (drop-drop (row_size * revisions_held (take d ds)) rows_place (stored r)), p)
    (tree_middle a t z _ (row_size * revisions_held (take d ds)) (fit_rows (take d ds) (all_take FitsDocument d ds h.documents)) fd.rows (omega arith))

pub body_shows : (s : List ℕ) (d : ℕ) (b : Body) → IsBody s d b → Shows s b (document_at (documents_of s) d).1.tree
body_shows s d b h =
    let q = standing s h.document.laid in
    let f = entry_held s d _ h.document refl in
    let r = replica_of s in
    let l = h.document.laid in
    record {
      within = omega (arith, h.base, h.rows);
      tree = rw (h.base, h.rows) (ap (tree_at (row_place (first_row (documents_of s) d)) (length (document_at (documents_of s) d).1.tree)) l.same ∙ body_stored r d l.fits h.document.within);
    }

pub found_body : (s : List ℕ) (i : Id) (d : ℕ) (b : Body) → place_of_id 0 i (documents_of s) ≡ Ok d → IsBody s d b → IsBodyOf s i b
unfolding tree_of document_of
found_body s i d b e h =
    let w = body_shows s d b h in
    let f = id_found d i (documents_of s) e in
    let p = h.base in
    let n = h.rows in
    record { is = rw e (λ j. record { base = p j; rows = n j }); shows = record { within = w.within; tree = w.tree ∙ rw f.found } }

pub absent_body : (s : List ℕ) (i : Id) (d : ℕ) → Laid s → place_of_id 0 i (documents_of s) ≡ Err d → IsBodyOf s i (body rows_place 0)
unfolding tree_of document_of tree_at pieces
absent_body s i d l e =
    let q = standing s l in
    let f = id_gap d i (documents_of s) e in
    record { is = rw e; shows = record { within = omega arith; tree = rw f.found } }

-- ---- the document that was looked for

pub body_is : (s : List ℕ) (d : ℕ) (b : Body) → IsBody s d b → b ≡ body_at (documents_of s) (Ok d)
body_is s d b h = λ i. body (h.base i) (h.rows i)

pub is_body : (s : List ℕ) (d : ℕ) (b : Body) → HasDocument s d → b ≡ body_at (documents_of s) (Ok d) → IsBody s d b
is_body s d b h e = record { document = h; base = ap (λ (x : Body). x.base) e; rows = ap (λ (x : Body). x.rows) e }

module _ {s : List ℕ} (i : Id) (laid : Laid s) where
  pub looked : {f : Result ℕ ℕ} → place_of_id 0 i (documents_of s) ≡ f → Looked s f
  looked {f} = go f
    where
      go : (g : Result ℕ ℕ) → place_of_id 0 i (documents_of s) ≡ g → Looked s g
      go (Ok d) e = record { laid = laid; within = (id_found d i (documents_of s) e).within }
      go (Err d) e = laid

  pub place_body : {f : Result ℕ ℕ} {b : Body} → place_of_id 0 i (documents_of s) ≡ f → b ≡ body_at (documents_of s) f → IsBodyOf s i b
  place_body {f} {b} = go f
    where
      go : (g : Result ℕ ℕ) → place_of_id 0 i (documents_of s) ≡ g → b ≡ body_at (documents_of s) g → IsBodyOf s i b
      go (Ok d) e h = found_body s i d b e (is_body s d b (looked e) h)
      go (Err d) e h = rw h (absent_body s i d laid e)

-- ---- where a document's rows stand among the others, in numbers

pub record BodyStanding (s : List ℕ) (d : ℕ) (b : Body) : Type 0 where
  pub size : length s ≡ store_size
  pub base : b.base ≡ rows_place + row_size * first_row (documents_of s) d
  pub rows : first_row (documents_of s) d + b.rows ≤ revisions_held (documents_of s)
  pub revisions_at_most : revisions_held (documents_of s) ≤ revisions_most
  pub within : d < documents_most

pub body_standing : (s : List ℕ) (d : ℕ) (b : Body) → IsBody s d b → BodyStanding s d b
body_standing s d b h =
    let q = standing s h.document.laid in
    let f = entry_held s d _ h.document refl in
    let w = h.document.within in
    record {
      size = q.size;
      base = h.base;
      rows = omega (arith, h.rows, f.first_most);
      «revisions_at_most» = q.revisions_at_most;
      within = omega arith;
    }
