-- An image that has no fault, laid out in a buffer of zeros. Assumes nothing.
use mathlib.Core.Path.{◌≡◌, refl, sym, ap, ap₂, ◌∙◌, subst}
use Rattle.std.specs.Prelude.{Result, Ok, Err}
use mathlib.Core.List.{List, [], ◌∷◌, ◌++◌, append_assoc}
use Rattle.std.specs.Prelude.{None, Some}
use Prim.Native.Nat.{ℕ, zero, suc, ◌+◌, ◌-◌, ◌*◌, ◌≤◌, ◌<◌}
use native.Mathlib.Nat.{add-zero, zero-add}
use native.Mathlib.Omega.{arith}
use lib.ListN.{length, get_or, take, drop, replicate, length-append, length-drop, length-replicate, replicate-append-replicate}
use lib.Seq.{drop_at, take_all}
use Rattle.rules.specs.declared.Fault.{Fault}
use Rattle.rules.specs.Bytes.{be, value, value_from, part, join, Bytes}
use Rattle.rules.specs.Choice.{first_that}
use Rattle.rules.specs.Faults.{faults}
use Rattle.rules.specs.Image.{head_bytes, contents_bytes, body_bytes, image, replica_in}
use Rattle.rules.specs.Map.{Map}
use Rattle.rules.specs.Replica.{Id, Document, Replica, revisions_held, IsReplica}
use Rattle.rules.specs.Room.{documents_most, revisions_most}
use Rattle.rules.specs.Layout.{head_of, entry_size, row_size, documents_at, head_size}
use Rattle.images.proofs.Theorems.{loads, refuses, loaded_is_replica, image_length}
use Rattle.octets.specs.Splice.{splice}
use Rattle.octets.proofs.SpliceLaws.{splice_whole, splice-past, splice_in}
use Rattle.store.specs.Storage.{contents_room, rows_room, rows_place, store_size, filled, stored_head, stored_entries, stored_rows, stored, replica_of, Storable, IsStored}
use Rattle.store.proofs.StoredLaws.{length_head, length-filled, size_entries, size_rows, stored_back}
use Rattle.store.proofs.FitLaws.{replica_fits}
use Rattle.codec.specs.Codec.{head_middle, moved, laid_out, Loads}
use Rattle.codec.proofs.MoveLaws.{contents_entries, stored_entries_lem, moved_entries, body_rows}

pub bytes_all : (s : List ℕ) → ((i : ℕ) → get_or s i 0 < 256) → Bytes s
bytes_all [] h = tt
bytes_all (x ∷ s) h = (h 0, bytes_all s (λ i. h (suc i)))

-- ---- runs over zeros

abbrev zeros : ℕ → List ℕ
zeros n = replicate n 0

drop_zeros : (k n : ℕ) → drop k (zeros n) ≡ zeros (n - k)
drop_zeros zero n = let z : n ≡ n - 0 = omega arith in ap (λ (m : ℕ). zeros m) z
drop_zeros (suc k) zero = let z : 0 ≡ 0 - suc k = omega arith in ap (λ (m : ℕ). zeros m) z
drop_zeros (suc k) (suc n) = let z : n - k ≡ suc n - suc k = omega arith in drop_zeros k n ∙ ap (λ (m : ℕ). zeros m) z

over_zeros : (n : ℕ) (s : List ℕ) → splice (zeros n) 0 s ≡ filled n s
unfolding splice filled
over_zeros n s =
    ap (λ (k : ℕ). s ++ drop k (zeros n)) (zero-add (length s)) ∙ ap (λ (l : List ℕ). s ++ l) (drop_zeros (length s) n)

-- in a region of n zeros after H
over_region : (H R s : List ℕ) (h n : ℕ) → length H ≡ h → length s ≤ n → splice (H ++ (zeros n ++ R)) h s ≡ H ++ (filled n s ++ R)
over_region H R s h n e k =
    let z : length (zeros n) ≡ n = length-replicate {A = ℕ} n 0 in
    ap (λ (p : ℕ). splice (H ++ (zeros n ++ R)) p s) (sym (add-zero h))
    ∙ (splice-past H (zeros n ++ R) s h 0 e
    ∙ ap (λ (l : List ℕ). H ++ l) (splice_in (zeros n) R s 0 (omega arith) ∙ ap (λ (l : List ℕ). l ++ R) (over_zeros n s)))

-- the last region
over_last : (H s : List ℕ) (h n : ℕ) → length H ≡ h → splice (H ++ zeros n) h s ≡ H ++ filled n s
over_last H s h n e =
    ap (λ (p : ℕ). splice (H ++ zeros n) p s) (sym (add-zero h))
    ∙ (splice-past H (zeros n) s h 0 e ∙ ap (λ (l : List ℕ). H ++ l) (over_zeros n s))

zeros_three : (a b c : ℕ) → zeros (a + b + c) ≡ zeros a ++ (zeros b ++ zeros c)
zeros_three a b c =
    sym (ap (λ (l : List ℕ). l ++ zeros c) (replicate-append-replicate {A = ℕ} a b 0) ∙ replicate-append-replicate {A = ℕ} (a + b) c 0)
    ∙ append_assoc (zeros a) (zeros b) (zeros c)

-- ---- the parts of an image

module _ (d r q : ℕ) (T : List ℕ) where
  head_documents : d ≤ documents_most → (head_of (head_bytes d r q ++ T)).documents ≡ d
  unfolding head_of value value_from part head_bytes be
  head_documents h = omega arith

  -- a head without edition and total
  head_taken : (Z : List ℕ) → splice (zeros head_size ++ Z) documents_at (part documents_at head_middle (head_bytes d r q ++ T)) ≡ stored_head d r q ++ Z
  unfolding splice part head_bytes stored_head be
  head_taken Z = refl

length-head_bytes : (d r q : ℕ) → length (head_bytes d r q) ≡ head_size
unfolding head_bytes be
length-head_bytes d r q = refl

module _ (r : Replica) (i : IsReplica r) where
  abbrev ds : Map Id Document
  ds = r.documents

  abbrev d : ℕ
  d = length r.documents

  abbrev n : ℕ
  n = revisions_held r.documents

  fits : Storable r
  fits = replica_fits r i

  abbrev head : List ℕ
  head = head_bytes d n r.seq.0

  abbrev contents : List ℕ
  contents = contents_bytes (head_size + entry_size * d) ds

  abbrev body : List ℕ
  body = body_bytes ds

  image_parts : image r ≡ head ++ (contents ++ body)
  unfolding image
  image_parts = refl

  length-body : length body ≡ row_size * n
  length-body = let a = size_rows r fits in let b = ap length (body_rows ds) in omega arith

  length-contents : length contents ≡ entry_size * d
  length-contents =
      let l : length (head ++ (contents ++ body)) ≡ head_size + entry_size * d + row_size * n = sym (ap length image_parts) ∙ image_length r i in
      let a : length (head ++ (contents ++ body)) ≡ length head + length (contents ++ body) = length-append head (contents ++ body) in
      let b : length (contents ++ body) ≡ length contents + length body = length-append contents body in
      let c : length head ≡ head_size = length-head_bytes d n r.seq.0 in
      let e = length-body in
      omega arith

  documents_is : (head_of (image r)).documents ≡ d
  documents_is = ap (λ (s : List ℕ). (head_of s).documents) image_parts ∙ head_documents d n r.seq.0 (contents ++ body) i.documents_at_most

  entries_taken : moved 0 0 d head_size (image r) ≡ join (stored_entries ds)
  entries_taken =
      ap (moved 0 0 d head_size) (image_parts ∙ ap (λ (l : List ℕ). head ++ (l ++ body)) (contents_entries (head_size + entry_size * d) ds))
      ∙ (moved_entries 0 0 row_size (head_size + entry_size * d) ds head body head_size (length-head_bytes d n r.seq.0) fits.documents i.revisions_at_most
      ∙ sym (stored_entries_lem ds))

  rows_taken : (p : ℕ) → p ≡ head_size + entry_size * d → drop p (image r) ≡ join (stored_rows ds)
  rows_taken p e =
      let c : length (head ++ contents) ≡ p =
      length-append head contents ∙ (let a = length-head_bytes d n r.seq.0 in let b = length-contents in omega arith) in
      ap (drop p) (image_parts ∙ sym (append_assoc head contents body)) ∙ (drop_at (head ++ contents) body p c ∙ body_rows ds)

  -- the image, taken apart and laid out
  pub laid_out_lem : laid_out d (image r) (drop (head_size + entry_size * d) (image r)) ≡ stored r
  unfolding laid_out stored
  laid_out_lem =
      let H : List ℕ = stored_head d n r.seq.0 in
      let E : List ℕ = join (stored_entries ds) in
      let R : List ℕ = join (stored_rows ds) in
      let h : length H ≡ head_size = length_head d n r.seq.0 in
      let e : length E ≤ contents_room = let a = size_entries r fits in let b = i.documents_at_most in omega arith in
      let c : length (H ++ filled contents_room E) ≡ rows_place = length-append H (filled contents_room E) ∙ (let a = length-filled contents_room E e in omega arith) in
      let one : splice (zeros store_size) documents_at (part documents_at head_middle (image r)) ≡ H ++ (zeros contents_room ++ zeros rows_room) =
      ap₂ (λ (z s : List ℕ). splice z documents_at (part documents_at head_middle s)) (zeros_three head_size contents_room rows_room) image_parts
      ∙ head_taken d n r.seq.0 (contents ++ body) (zeros contents_room ++ zeros rows_room) in
      let two : splice (H ++ (zeros contents_room ++ zeros rows_room)) head_size E ≡ (H ++ filled contents_room E) ++ zeros rows_room =
      over_region H (zeros rows_room) E head_size contents_room h e ∙ sym (append_assoc H (filled contents_room E) (zeros rows_room)) in
      let three : splice ((H ++ filled contents_room E) ++ zeros rows_room) rows_place R ≡ H ++ (filled contents_room E ++ filled rows_room R) =
      over_last (H ++ filled contents_room E) R rows_place rows_room c ∙ append_assoc H (filled contents_room E) (filled rows_room R) in
      ap₂ (λ (x y : List ℕ). splice x rows_place y) (ap₂ (λ (x y : List ℕ). splice x head_size y) one entries_taken ∙ two) (rows_taken (head_size + entry_size * d) refl)
      ∙ three

-- ---- as the code lays it out

pub laid : (d : ℕ) (src rows b b₁ b₂ b₃ b₄ : List ℕ) → length b ≡ store_size
    → b₁ ≡ splice b 0 (zeros store_size)
    → b₂ ≡ splice b₁ documents_at (part documents_at head_middle src)
    → b₃ ≡ splice b₂ head_size (moved 0 0 d head_size src)
    → b₄ ≡ splice b₃ rows_place rows
    → b₄ ≡ laid_out d src rows
unfolding laid_out
laid d src rows b b₁ b₂ b₃ b₄ z f₁ f₂ f₃ f₄ =
    let w : b₁ ≡ zeros store_size = f₁ ∙ splice_whole b (zeros store_size) (length-replicate {A = ℕ} store_size 0 ∙ sym z) in
    let g₂ : b₂ ≡ splice (zeros store_size) documents_at (part documents_at head_middle src) = f₂ ∙ ap (λ (x : List ℕ). splice x documents_at (part documents_at head_middle src)) w in
    let g₃ : b₃ ≡ splice (splice (zeros store_size) documents_at (part documents_at head_middle src)) head_size (moved 0 0 d head_size src) =
    f₃ ∙ ap (λ (x : List ℕ). splice x head_size (moved 0 0 d head_size src)) g₂ in
    f₄ ∙ ap (λ (x : List ℕ). splice x rows_place rows) g₃

-- ---- bytes that have no fault

-- where the parts of such an image are: it has d documents and n revisions
pub record Stands (s : List ℕ) (d n : ℕ) : Type 0 where
  pub documents : d ≤ documents_most
  pub revisions : n ≤ revisions_most
  pub size : length s ≡ head_size + entry_size * d + row_size * n

module _ (s : List ℕ) (p : Bytes s) (e : first_that (faults s) ≡ None) where
  abbrev held : Replica
  held = replica_in s

  is : IsReplica held
  is = (loaded_is_replica s p e).0

  same : image held ≡ s
  same = (loaded_is_replica s p e).1

  count : (head_of s).documents ≡ length held.documents
  count = ap (λ (t : List ℕ). (head_of t).documents) (sym same) ∙ documents_is held is

  pub stands : (c : ℕ) → c ≡ (head_of s).documents → Stands s c (revisions_held held.documents)
  stands c q =
      let a = is.documents_at_most in
      let b = count in
      let l = sym (ap length same) ∙ image_length held is in
      record { documents = omega arith; revisions = is.revisions_at_most; size = omega arith }

  pub relaid : (c : ℕ) → c ≡ (head_of s).documents → laid_out c s (drop (head_size + entry_size * c) s) ≡ stored held
  relaid c q =
      ap₂ (λ (x : ℕ) (y : List ℕ). laid_out x y (drop (head_size + entry_size * x) y)) (q ∙ count) (sym same) ∙ laid_out_lem held is

  -- as the code takes the rows
  pub taken : (c : ℕ) → c ≡ (head_of s).documents → (b : List ℕ) → b ≡ laid_out c s (take (length s - (head_size + entry_size * c)) (drop (head_size + entry_size * c) s)) → b ≡ stored held
  taken c q b e =
      e ∙ (ap (laid_out c s) (take_all (length s - (head_size + entry_size * c)) (drop (head_size + entry_size * c) s) (simp length-drop (omega arith))) ∙ relaid c q)

  -- ---- the promise

  pub loads_accepted : (before after : List ℕ) → after ≡ stored held → Loads before s (Ok tt) after
  loads_accepted before after q =
      let back : replica_of after ≡ held = ap replica_of q ∙ stored_back held (replica_fits held is) in
      let stored-now : IsStored after = record { same = q ∙ ap stored (sym back); replica = subst IsReplica (sym back) is } in
      record {
        does = rw e (record { answers = refl; left = q });
        means = loads (replica_of before) s e ∙ ap {B = Result (Unit {0}) (Fault × ℕ) × Replica} (λ r. (Ok tt, r)) (sym back);
        accepted = λ _. stored-now;
        shows = λ _. ap image back ∙ same;
        stays = λ _. stored-now;
      }

pub loads_refused : (before s : List ℕ) (f : Fault) (p : ℕ) → first_that (faults s) ≡ Some (f, p) → Loads before s (Err (f, p)) before
loads_refused before s f p e = record {
  does = rw e (record { answers = refl; left = refl });
  means = refuses (replica_of before) s (f, p) e;
  accepted = λ q. absurd (never q);
  shows = λ q. absurd (never q);
  stays = λ i. i;
}
  where
    never : ◌≡◌ {A = Result (Unit {0}) (Fault × ℕ)} (Err (f, p)) (Ok tt) → ⊥
    never q = let z : ◌≡◌ {A = ℕ} 0 1 = cc in omega arith
