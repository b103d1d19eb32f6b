-- When bytes are a replica in a buffer: they are what their own parts give, laid out anew, and the image of
-- these parts has no fault. Assumes nothing.
use mathlib.Core.Path.{◌≡◌, refl, sym, ap, ap₂, ◌∙◌}
use Rattle.std.specs.declared.cmp.Ordering.TheVariants.{Less, Equal, Greater}
use Rattle.std.specs.declared.cmp.Ordering.{Ordering}
use mathlib.Core.Bool.{Bool, true, false}
use mathlib.Core.List.{List, ◌++◌, append_assoc}
use Rattle.std.specs.Prelude.{None, Some, Result, Ok, Err, is_ok}
use Prim.Native.Nat.{ℕ, zero, suc, ◌+◌, ◌*◌, ◌≤◌, ◌<◌}
use native.Mathlib.Nat.{add-zero}
use native.Mathlib.Omega.{arith}
use lib.ListN.{length, take, drop, replicate, length-append}
use lib.Seq.{take_at, drop_at}
use Rattle.rules.specs.declared.Fault.{Fault}
use Rattle.rules.specs.Bytes.{be, value, part, Bytes}
use Rattle.rules.specs.Choice.{first_that}
use Rattle.rules.specs.Faults.{faults}
use Rattle.rules.specs.Image.{image, total_length, edition}
use Rattle.rules.specs.Layout.{head_of, entry_size, row_size, documents_at, head_size, count_in, place_in}
use Rattle.rules.specs.Order.{order_bytes, is_equal}
use Rattle.rules.specs.Room.{documents_most, revisions_most}
use Rattle.rules.proofs.ByteLaws.{bytes_append, bytes_part, bytes_be, length-be, length_part, part-front, part-past, part-part}
use Rattle.rules.proofs.OrderLaws.{order_bytes_same, order_bytes_self}
use Rattle.images.proofs.Theorems.{image_loads}
use Rattle.octets.specs.Splice.{splice}
use Rattle.store.specs.Storage.{store_size, rows_place, replica_of, IsStored}
use Rattle.store.proofs.FitLaws.{stored_laid}
use Rattle.store.proofs.StoredLaws.{size_laid}
use Rattle.faults.specs.Judged.{judged}
use Rattle.codec.specs.Codec.{head_middle, moved, laid_out, image_from, CountsIn, Tells}
use Rattle.codec.proofs.MoveLaws.{part_in, length_moved}
use Rattle.codec.proofs.SaveLaws.{image_from_lem, stored_counts}
use Rattle.codec.proofs.TakeLaws.{laid_out_lem, relaid, loads_accepted}

-- ---- entries that are moved twice

-- wherever they stood and whatever their places were, they are those of the first
moved_again : (step place was old n p q : ℕ) (src A rest : List ℕ) → length A ≡ q → p + n * entry_size ≤ length src
    → moved step place n q (A ++ (moved was old n p src ++ rest)) ≡ moved step place n p src
unfolding moved
moved_again step place was old zero p q src A rest a h = refl
moved_again step place was old (suc n) p q src A rest a h =
    let X : List ℕ = part p place_in src in
    let O : List ℕ = be 4 old in
    let M : List ℕ = moved was (old + was * value (part (p + count_in) 2 src)) n (p + entry_size) src in
    let S : List ℕ = A ++ (((X ++ O) ++ M) ++ rest) in
    let x : length X ≡ place_in = length_part p place_in src (omega arith) in
    let b : ((X ++ O) ++ M) ++ rest ≡ X ++ (O ++ (M ++ rest)) = simp append_assoc in
    let front : part q place_in S ≡ X =
    ap (λ (k : ℕ). part k place_in S) (sym (add-zero q))
    ∙ (part-past A (((X ++ O) ++ M) ++ rest) q 0 place_in a ∙ (ap (part 0 place_in) b ∙ part-front X (O ++ (M ++ rest)) place_in x)) in
    let rows : part (q + count_in) 2 S ≡ part (p + count_in) 2 src =
    part-past A (((X ++ O) ++ M) ++ rest) q count_in 2 a
    ∙ (ap (part count_in 2) b ∙ (part_in count_in 2 X (O ++ (M ++ rest)) (omega arith) ∙ part-part count_in 2 p place_in src (omega arith))) in
    let c : S ≡ (A ++ (X ++ O)) ++ (M ++ rest) = simp append_assoc in
    let w : length (A ++ (X ++ O)) ≡ q + entry_size =
    length-append A (X ++ O) ∙ (let u = length-append X O in let v = length-be 4 old in omega arith) in
    ap₂ (λ (l m : List ℕ). (l ++ be 4 place) ++ moved step (place + step * value m) n (q + entry_size) S) front rows
    ∙ ap (λ (l : List ℕ). (X ++ be 4 place) ++ l)
    (ap (moved step (place + step * value (part (p + count_in) 2 src)) n (q + entry_size)) c
    ∙ moved_again step (place + step * value (part (p + count_in) 2 src)) was (old + was * value (part (p + count_in) 2 src)) n (p + entry_size) (q + entry_size) src (A ++ (X ++ O)) rest w (omega arith))

bytes_moved : (step place n at : ℕ) (s : List ℕ) → Bytes s → Bytes (moved step place n at s)
unfolding moved
bytes_moved step place zero at s h = tt
bytes_moved step place (suc n) at s h =
    bytes_append (part at place_in s ++ be 4 place) _
    (bytes_append (part at place_in s) (be 4 place) (bytes_part at place_in s h) (bytes_be 4 place))
    (bytes_moved step (place + step * value (part (at + count_in) 2 s)) n (at + entry_size) s h)

bytes_from : (d r : ℕ) (b : List ℕ) → Bytes b → Bytes (image_from d r b)
unfolding image_from
bytes_from d r b h =
    bytes_append (be 2 edition) _ (bytes_be 2 edition)
    (bytes_append (part documents_at head_middle b) _ (bytes_part documents_at head_middle b h)
    (bytes_append (be 4 (total_length d r)) _ (bytes_be 4 (total_length d r))
    (bytes_append (moved row_size (head_size + entry_size * d) d head_size b) _ (bytes_moved row_size (head_size + entry_size * d) d head_size b h) (bytes_part rows_place (row_size * r) b h))))

-- ---- the parts of a buffer, and those of their image

module _ (b : List ℕ) (d r : ℕ) (counts : CountsIn b d r) where
  abbrev whole : List ℕ
  whole = image_from d r b

  abbrev rows : List ℕ
  rows = part rows_place (row_size * r) b

  abbrev X : List ℕ
  X = part documents_at head_middle b

  abbrev T : List ℕ
  T = be 4 (total_length d r)

  abbrev M : List ℕ
  M = moved row_size (head_size + entry_size * d) d head_size b

  length_X : length X ≡ head_middle
  length_X = length_part documents_at head_middle b (omega (arith, counts.size))

  length_M : length M ≡ d * entry_size
  length_M = length_moved row_size (head_size + entry_size * d) d head_size b (omega (arith, counts.size, counts.documents_at_most))

  length-rows : length rows ≡ row_size * r
  length-rows = length_part rows_place (row_size * r) b (omega (arith, counts.size, counts.revisions_at_most))

  pub length_whole : length whole ≡ total_length d r
  unfolding image_from
  length_whole =
      length-append (be 2 edition) (X ++ (T ++ (M ++ rows)))
      ∙ (let a = length-append X (T ++ (M ++ rows)) in let b = length-append T (M ++ rows) in let c = length-append M rows in
      let v = length-be 2 edition in let w = length-be 4 (total_length d r) in let x = length_X in let m = length_M in let y = length-rows in omega arith)

  -- the head is the same but for edition and total
  head_same : part documents_at head_middle whole ≡ X
  unfolding image_from
  head_same =
      part-past (be 2 edition) (X ++ (T ++ (M ++ rows))) documents_at 0 head_middle (length-be 2 edition) ∙ part-front X (T ++ (M ++ rows)) head_middle length_X

  documents_same : (head_of whole).documents ≡ d
  unfolding head_of
  documents_same =
      ap value (sym (part-part 0 2 documents_at head_middle whole (omega arith)) ∙ (ap (part 0 2) head_same ∙ part-part 0 2 documents_at head_middle b (omega arith)))
      ∙ sym counts.documents

  entries_same : moved 0 0 d head_size whole ≡ moved 0 0 d head_size b
  unfolding image_from
  entries_same =
      let H : List ℕ = be 2 edition ++ (X ++ T) in
      let h : length H ≡ head_size =
      length-append (be 2 edition) (X ++ T)
      ∙ (let u = length-append X T in let v = length-be 2 edition in let w = length-be 4 (total_length d r) in let x = length_X in omega arith) in
      let c : be 2 edition ++ (X ++ (T ++ (M ++ rows))) ≡ H ++ (M ++ rows) = simp append_assoc in
      ap (moved 0 0 d head_size) c
      ∙ moved_again 0 0 row_size (head_size + entry_size * d) d head_size head_size b H rows h (omega (arith, counts.size, counts.documents_at_most))

  rows_same : drop (head_size + entry_size * d) whole ≡ rows
  unfolding image_from
  rows_same =
      let H : List ℕ = be 2 edition ++ (X ++ (T ++ M)) in
      let h : length H ≡ head_size + entry_size * d =
      length-append (be 2 edition) (X ++ (T ++ M))
      ∙ (omega (arith, length-append X (T ++ M), length-append T M, length-be 2 edition, length-be 4 (total_length d r), length_X, length_M)) in
      let c : be 2 edition ++ (X ++ (T ++ (M ++ rows))) ≡ H ++ rows = simp append_assoc in
      ap (drop (head_size + entry_size * d)) c ∙ drop_at H rows (head_size + entry_size * d) h

  -- laid out from the buffer and from the image they are the same
  laid_same : laid_out d b rows ≡ laid_out d whole (drop (head_size + entry_size * d) whole)
  unfolding laid_out
  laid_same =
      let x = head_same in
      let m = entries_same in
      let y = rows_same in
      sym (λ i. splice (splice (splice (replicate store_size 0) documents_at (x i)) head_size (m i)) rows_place (y i))

  -- ---- exactly a replica's buffer is what its parts give, with an image that has no fault

  pub told_so : Bytes b → first_that (faults whole) ≡ None → b ≡ laid_out d b rows → IsStored b
  told_so h e same =
      let p = bytes_from d r b h in
      (loads_accepted whole p e b b (same ∙ (laid_same ∙ relaid whole p e d (sym documents_same)))).accepted refl

  whole_is : IsStored b → whole ≡ image (replica_of b)
  whole_is i = let n = stored_counts b i in image_from_lem b d r i (counts.documents ∙ n.0) (counts.revisions ∙ n.1)

  pub so_laid : IsStored b → b ≡ laid_out d b rows
  so_laid i =
      let p : d ≡ length (replica_of b).documents = counts.documents ∙ (stored_counts b i).0 in
      sym
      (laid_same
      ∙ (ap₂ (λ (x : ℕ) (y : List ℕ). laid_out x y (drop (head_size + entry_size * x) y)) p (whole_is i)
      ∙ (laid_out_lem (replica_of b) i.replica ∙ sym i.same)))

  pub so_fine : IsStored b → first_that (faults whole) ≡ None
  so_fine i = ap (λ (s : List ℕ). first_that (faults s)) (whole_is i) ∙ (image_loads (replica_of b) i.replica).0

-- ---- what the code answers

pub not_so : {so : Type 0} → (so → ⊥) → Tells so false
not_so n = record { yes = λ q. absurd (let z : ◌≡◌ {A = ℕ} 0 1 = cc in omega arith); always = λ i. absurd (n i) }

pub is_so : {so : Type 0} → so → Tells so true
is_so i = record { yes = λ q. i; always = λ i. refl }

equal : (o : Ordering) → is_equal o ≡ true → o ≡ Equal
equal Less e = absurd (let z : ◌≡◌ {A = ℕ} 0 1 = cc in omega arith)
equal Equal e = refl
equal Greater e = absurd (let z : ◌≡◌ {A = ℕ} 0 1 = cc in omega arith)

pub same_true : (a b : List ℕ) → is_equal (order_bytes a b) ≡ true → a ≡ b
same_true a b e = order_bytes_same a b (equal (order_bytes a b) e)

pub same_false : (a b : List ℕ) → is_equal (order_bytes a b) ≡ false → a ≡ b → ⊥
same_false a b e f =
    let g : is_equal (order_bytes a b) ≡ true = ap is_equal (ap (order_bytes a) (sym f) ∙ order_bytes_self a) in
    let z : ◌≡◌ {A = ℕ} 0 1 = cc in
    omega arith

-- counts that there is no room for
module _ (b : List ℕ) (n : ℕ) where
  pub not_sized : (length b ≡ store_size → ⊥) → IsStored b → ⊥
  not_sized ne i = ne (size_laid b (stored_laid b i))

  pub not_documents : n ≡ (head_of b).documents → documents_most < n → IsStored b → ⊥
  not_documents e h i = let c = (stored_counts b i).0 in omega (arith, i.replica.documents_at_most)

  pub not_revisions : n ≡ (head_of b).revisions → revisions_most < n → IsStored b → ⊥
  not_revisions e h i = let c = (stored_counts b i).1 in omega (arith, i.replica.revisions_at_most)

-- laid out anew, as the code takes the rows
pub anew : (b : List ℕ) (d r k : ℕ) (t : List ℕ) → t ≡ laid_out d b (take k (drop rows_place b)) → k ≡ row_size * r → t ≡ laid_out d b (part rows_place (row_size * r) b)
unfolding part
anew b d r k t q p = q ∙ ap (λ (n : ℕ). laid_out d b (take n (drop rows_place b))) p

module _ (b : List ℕ) (d r : ℕ) (counts : CountsIn b d r) (t : List ℕ) (laid : t ≡ laid_out d b (part rows_place (row_size * r) b)) where
  pub tells_other : is_equal (order_bytes b t) ≡ false → Tells (IsStored b) false
  tells_other e = not_so (λ i. same_false b t e (so_laid b d r counts i ∙ sym laid))

  -- the image stands at the front of the scratch
  module _ (u : List ℕ) (k : ℕ) (size : k ≡ total_length d r) (written : u ≡ splice t 0 (image_from d r b)) where
    front_is : take k u ≡ image_from d r b
    unfolding splice
    front_is = ap (take k) written ∙ take_at (image_from d r b) _ k (length_whole b d r counts ∙ sym size)

    tells_fine : Bytes b → first_that (faults (take k u)) ≡ None → is_equal (order_bytes b t) ≡ true → Tells (IsStored b) true
    tells_fine p e same =
        is_so
        (told_so b d r counts p (ap (λ (s : List ℕ). first_that (faults s)) (sym front_is) ∙ e) (same_true b t same ∙ laid))

    tells_fault : (f : Fault × ℕ) → first_that (faults (take k u)) ≡ Some f → Tells (IsStored b) false
    tells_fault f e = not_so (λ i.
        let c : None ≡ Some f = sym (so_fine b d r counts i) ∙ (ap (λ (s : List ℕ). first_that (faults s)) (sym front_is) ∙ e) in
        let z : ◌≡◌ {A = ℕ} 0 1 = cc in
        omega arith)

    -- by what is said of the image's faults
    pub tells_said : (r : Result (Unit {0}) (Fault × ℕ)) → judged r ≡ first_that (faults (take k u)) → Bytes b → is_equal (order_bytes b t) ≡ true → Tells (IsStored b) (is_ok r)
    tells_said (Ok x) e p same = tells_fine p (sym e) same
    tells_said (Err f) e p same = tells_fault f (sym e)

-- a question has one answer
pub tells_one : {so : Type 0} {a b : Bool} → Tells so a → Tells so b → a ≡ b
tells_one {so} {a} {b} p q = go a b p q
  where
    go : (x y : Bool) → Tells so x → Tells so y → x ≡ y
    go true y p q = sym (q.always (p.yes refl))
    go false true p q = p.always (q.yes refl)
    go false false p q = refl
