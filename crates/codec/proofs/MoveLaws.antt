-- Entries that get other places. Assumes nothing.
use mathlib.Core.Path.{◌≡◌, refl, sym, ap, ap₂, ◌∙◌}
use mathlib.Core.List.{List, [], ◌∷◌, ◌++◌, map, append_assoc}
use Prim.Native.Nat.{ℕ, zero, suc, ◌+◌, ◌-◌, ◌*◌, ◌≤◌}
use native.Mathlib.Nat.{add-zero}
use native.Mathlib.Omega.{arith}
use lib.ListN.{length, take, drop, replicate, length-append, length-drop, length-replicate}
use lib.Seq.{take-append-le, drop-append-le}
use Rattle.rules.specs.Bytes.{be, value, part, join}
use Rattle.rules.specs.Image.{entry_bytes, contents_bytes, row_bytes, body_bytes}
use Rattle.rules.specs.Layout.{entry_of, entry_size, row_size, count_in, place_in}
use Rattle.rules.specs.Map.{Map}
use Rattle.rules.specs.Replica.{Id, Tree, Document, revisions_held}
use Rattle.rules.specs.Room.{revisions_most, id_most}
use Rattle.rules.proofs.ByteLaws.{length-be, length_part, part-front, part-past, part-part, join_append}
use Rattle.octets.specs.Splice.{splice}
use Rattle.octets.proofs.SpliceLaws.{splice_none, splice-splice}
use Rattle.tree.specs.Rows.{stored_row}
use Rattle.tree.proofs.EditionLaws.{stored_row_lem}
use Rattle.store.specs.Storage.{All, FitsDocument, stored_entry, stored_entries, rows_in, stored_rows}
use Rattle.store.proofs.RoundLaws.{entry_fields}
use Rattle.store.proofs.StoredLaws.{map-append}
use Rattle.codec.specs.Codec.{moved}

-- ---- as the code writes them

-- the count of rows that an entry gives
pub count_at : (at : ℕ) (s : List ℕ) {r : ℕ} → r ≡ (entry_of (part at entry_size s)).rows → r ≡ value (part (at + count_in) 2 s)
unfolding entry_of
count_at at s e = e ∙ ap value (part-part count_in 2 at entry_size s (omega arith))

pub length_moved : (step place n at : ℕ) (s : List ℕ) → at + n * entry_size ≤ length s → length (moved step place n at s) ≡ n * entry_size
unfolding moved
length_moved step place zero at s h = omega arith
length_moved step place (suc n) at s h =
    let rest : List ℕ = moved step (place + step * value (part (at + count_in) 2 s)) n (at + entry_size) s in
    let r : length rest ≡ n * entry_size = length_moved step (place + step * value (part (at + count_in) 2 s)) n (at + entry_size) s (omega arith) in
    let p : length (part at place_in s) ≡ place_in = length_part at place_in s (omega arith) in
    length-append (part at place_in s ++ be 4 place) rest
    ∙ (let a = length-append (part at place_in s) (be 4 place) in let b = length-be 4 place in omega arith)

-- the first of n, and the others after it
pub moved_next : (s src : List ℕ) (step place n m p q rows : ℕ) → n ≡ suc m → q ≡ p + entry_size → rows ≡ value (part (p + count_in) 2 src)
    → p + n * entry_size ≤ length s → p + n * entry_size ≤ length src
    → splice s p (moved step place n p src)
    ≡ splice (splice (splice s p (part p place_in src)) (p + place_in) (be 4 place)) q (moved step (place + step * rows) m q src)
unfolding moved
moved_next s src step place n m p q rows e f r h l =
    let X : List ℕ = part p place_in src in
    let P : List ℕ = be 4 place in
    let M : List ℕ = moved step (place + step * rows) m q src in
    let x : length X ≡ place_in = length_part p place_in src (omega arith) in
    let y : length P ≡ 4 = length-be 4 place in
    let xy : length (X ++ P) ≡ entry_size = length-append X P ∙ omega arith in
    let z : length M ≡ m * entry_size = length_moved step (place + step * rows) m q src (omega arith) in
    let is : moved step place n p src ≡ (X ++ P) ++ M =
    ap (λ (k : ℕ). moved step place k p src) e
    ∙ ap₂ (λ (k j : ℕ). (X ++ P) ++ moved step (place + step * k) m j src) (sym r) (sym f) in
    let one : splice (splice s p X) (p + place_in) P ≡ splice s p (X ++ P) =
    ap (λ (k : ℕ). splice (splice s p X) (p + k) P) (sym x) ∙ splice-splice s p X P (omega arith) in
    let to : p + length (X ++ P) ≡ q = omega arith in
    let all : splice (splice s p (X ++ P)) q M ≡ splice s p ((X ++ P) ++ M) =
    ap (λ (k : ℕ). splice (splice s p (X ++ P)) k M) (sym to) ∙ splice-splice s p (X ++ P) M (omega arith) in
    ap (splice s p) is ∙ (sym all ∙ ap (λ (t : List ℕ). splice t q M) (sym one))

-- the same, as the code writes it: t and u are what the first write and the second leave
pub moved_on : (s src t u : List ℕ) (step place n m p e q rows : ℕ) → n ≡ suc m → e ≡ p + place_in → q ≡ p + entry_size → rows ≡ value (part (p + count_in) 2 src)
    → p + n * entry_size ≤ length s → p + n * entry_size ≤ length src → t ≡ splice s p (take (e - p) (drop p src)) → u ≡ splice t e (be 4 place)
    → splice s p (moved step place n p src) ≡ splice u q (moved step (place + step * rows) m q src)
unfolding part
moved_on s src t u step place n m p e q rows k f g r h l x y =
    let z : e - p ≡ place_in = omega arith in
    let is : u ≡ splice (splice s p (part p place_in src)) (p + place_in) (be 4 place) =
    y ∙ ap₂ (λ (w : List ℕ) (j : ℕ). splice w j (be 4 place)) (x ∙ ap (λ (j : ℕ). splice s p (take j (drop p src))) z) f in
    moved_next s src step place n m p q rows k g r h l
    ∙ ap (λ (w : List ℕ). splice w q (moved step (place + step * rows) m q src)) (sym is)

pub moved_none : (s src : List ℕ) (step place n p : ℕ) → n ≡ 0 → splice s p (moved step place n p src) ≡ s
unfolding moved
moved_none s src step place n p e = ap (λ (k : ℕ). splice s p (moved step place k p src)) e ∙ splice_none s p

-- ---- as entries of documents

-- the entries of documents, the first with `place`
unfoldable pub entries_with : ℕ → ℕ → Map Id Document → List ℕ
entries_with step place [] = []
entries_with step place (d ∷ ds) = entry_bytes place d ++ entries_with step (place + step * length d.1.tree) ds

pub contents_entries : (place : ℕ) (ds : Map Id Document) → contents_bytes place ds ≡ entries_with row_size place ds
unfolding contents_bytes entries_with
contents_entries place [] = refl
contents_entries place (d ∷ ds) = ap (λ (l : List ℕ). entry_bytes place d ++ l) (contents_entries (place + row_size * length d.1.tree) ds)

pub stored_entries_lem : (ds : Map Id Document) → join (stored_entries ds) ≡ entries_with 0 0 ds
unfolding stored_entries stored_entry entry_bytes join entries_with
stored_entries_lem [] = refl
stored_entries_lem (d ∷ ds) =
    let z : 0 ≡ 0 + 0 * length d.1.tree = omega arith in
    ap (λ (l : List ℕ). entry_bytes 0 d ++ l) (stored_entries_lem ds ∙ ap (λ (k : ℕ). entries_with 0 k ds) z)

pub part_in : (k n : ℕ) (a b : List ℕ) → k + n ≤ length a → part k n (a ++ b) ≡ part k n a
unfolding part
part_in k n a b h =
    ap (take n) (drop-append-le k a b (omega arith)) ∙ take-append-le n (drop k a) b (simp length-drop (omega arith))

-- an entry without its place
entry_front : Id × Document → List ℕ
entry_front d = length d.0 ∷ (d.0 ++ (replicate (id_most - length d.0) 0 ++ (0 ∷ (be 2 (length d.1.tree) ++ be 4 d.1.seq.0))))

entry_front_lem : (place : ℕ) (d : Id × Document) → entry_bytes place d ≡ entry_front d ++ be 4 place
unfolding entry_bytes entry_front
entry_front_lem place d = simp append_assoc

length_front : (d : Id × Document) → length d.0 ≤ id_most → length (entry_front d) ≡ place_in
unfolding entry_front
length_front d h = simp (length-append, length-be, length-replicate) (omega arith)

front_rows : (d : Id × Document) → FitsDocument d → length d.1.tree ≤ revisions_most → value (part count_in 2 (entry_front d)) ≡ length d.1.tree
unfolding entry_of stored_entry entry_bytes
front_rows d f h =
    let n = length_front d f.id in
    ap value (sym (part_in count_in 2 (entry_front d) (be 4 0) (omega arith)) ∙ ap (part count_in 2) (sym (entry_front_lem 0 d)))
    ∙ (entry_fields d f.id h f.seq).rows

-- d entries, whatever their places are, after `at` bytes
pub moved_entries : (step place old was : ℕ) (ds : Map Id Document) (A rest : List ℕ) (at : ℕ) → length A ≡ at → All FitsDocument ds → revisions_held ds ≤ revisions_most
    → moved step place (length ds) at (A ++ (entries_with old was ds ++ rest)) ≡ entries_with step place ds
unfolding moved entries_with revisions_held
moved_entries step place old was [] A rest at n f h = refl
moved_entries step place old was (d ∷ ds) A rest at n f h =
    let F : List ℕ = entry_front d in
    let L : ℕ = length d.1.tree in
    let E : List ℕ = entries_with old (was + old * L) ds in
    let src : List ℕ = A ++ ((entry_bytes was d ++ E) ++ rest) in
    let z : length F ≡ place_in = length_front d f.0.id in
    let b : (entry_bytes was d ++ E) ++ rest ≡ F ++ (be 4 was ++ (E ++ rest)) =
    ap (λ (l : List ℕ). (l ++ E) ++ rest) (entry_front_lem was d) ∙ simp append_assoc in
    let x : part at place_in src ≡ F =
    ap (λ (k : ℕ). part k place_in src) (sym (add-zero at))
    ∙ (part-past A ((entry_bytes was d ++ E) ++ rest) at 0 place_in n ∙ (ap (part 0 place_in) b ∙ part-front F (be 4 was ++ (E ++ rest)) place_in z)) in
    let y : value (part (at + count_in) 2 src) ≡ L =
    ap value (part-past A ((entry_bytes was d ++ E) ++ rest) at count_in 2 n ∙ (ap (part count_in 2) b ∙ part_in count_in 2 F (be 4 was ++ (E ++ rest)) (omega arith)))
    ∙ front_rows d f.0 (omega arith) in
    let c : src ≡ (A ++ entry_bytes was d) ++ (E ++ rest) = simp append_assoc in
    let w : length (A ++ entry_bytes was d) ≡ at + entry_size =
    length-append A (entry_bytes was d) ∙ (let u = ap length (entry_front_lem was d) ∙ length-append F (be 4 was) in let v = length-be 4 was in omega arith) in
    ap₂ (λ (l : List ℕ) (k : ℕ). (l ++ be 4 place) ++ moved step (place + step * k) (length ds) (at + entry_size) src) x y
    ∙ ap₂ (λ (l m : List ℕ). l ++ m) (sym (entry_front_lem place d))
    (ap (moved step (place + step * L) (length ds) (at + entry_size)) c
    ∙ moved_entries step (place + step * L) old (was + old * L) ds (A ++ entry_bytes was d) rest (at + entry_size) w f.1 (omega arith))

-- ---- rows

-- a row of an image and a row of storage are the same
rows_same : (t : Tree) → map row_bytes t ≡ map stored_row t
rows_same [] = refl
rows_same (v ∷ t) = ap₂ {C = List (List ℕ)} (λ a b. a ∷ b) (sym (stored_row_lem v)) (rows_same t)

pub body_rows : (ds : Map Id Document) → body_bytes ds ≡ join (stored_rows ds)
unfolding body_bytes stored_rows rows_in join
body_rows [] = refl
body_rows (d ∷ ds) =
    ap₂ (λ (a : List (List ℕ)) (l : List ℕ). join a ++ l) (rows_same d.1.tree) (body_rows ds)
    ∙ (sym (join_append (map stored_row d.1.tree) (map stored_row (rows_in ds)))
    ∙ ap join (sym (map-append stored_row d.1.tree (rows_in ds))))
