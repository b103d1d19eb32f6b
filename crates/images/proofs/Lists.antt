-- Laws of lists: what holds of each, and a list of equal pieces that is read and written back. Assumes nothing.
use mathlib.Core.Path.{◌≡◌, refl, sym, ap, ap₂, ◌∙◌}
use mathlib.Core.List.{List, [], ◌∷◌, ◌++◌, map}
use Prim.Native.Nat.{ℕ, zero, suc, ◌+◌, ◌*◌, ◌≤◌}
use native.Mathlib.Omega.{arith}
use lib.ListN.{length, take, drop, length-map, length-drop}
use lib.Seq.{length-take-le}
use Rattle.rules.specs.Bytes.{pieces, join, Bytes}
use Rattle.rules.proofs.ByteLaws.{Sized, pieces_join, join_pieces, bytes_take, bytes_drop, bytes_append, length-join}

-- ---- each

-- P holds of each
abbrev pub Each : {A : Type 0} → (A → Type 0) → List A → Type 0
Each P [] = Unit {0}
Each P (x ∷ xs) = P x × Each P xs

module _ {A : Type 0} (P : A → Type 0) where
  pub each_all : ((x : A) → P x) → (xs : List A) → Each P xs
  each_all f [] = tt
  each_all f (x ∷ xs) = (f x, each_all f xs)

  pub each_append : (xs ys : List A) → Each P xs → Each P ys → Each P (xs ++ ys)
  each_append [] ys p q = q
  each_append (x ∷ xs) ys p q = (p.0, each_append xs ys p.1 q)

  pub each_take : (n : ℕ) (xs : List A) → Each P xs → Each P (take n xs)
  each_take zero xs h = tt
  each_take (suc n) [] h = tt
  each_take (suc n) (x ∷ xs) h = (h.0, each_take n xs h.1)

  pub each_drop : (n : ℕ) (xs : List A) → Each P xs → Each P (drop n xs)
  each_drop zero xs h = h
  each_drop (suc n) [] h = tt
  each_drop (suc n) (x ∷ xs) h = each_drop n xs h.1

  pub each_onto : {B : Type 0} (f : B → A) (xs : List B) → Each (λ x. P (f x)) xs → Each P (map f xs)
  each_onto f [] h = tt
  each_onto f (x ∷ xs) h = (h.0, each_onto f xs h.1)

  pub each_from : {B : Type 0} (f : B → A) (xs : List B) → Each P (map f xs) → Each (λ x. P (f x)) xs
  each_from f [] h = tt
  each_from f (x ∷ xs) h = (h.0, each_from f xs h.1)

  module _ (Q : A → Type 0) where
    pub each_map : ((x : A) → P x → Q x) → (xs : List A) → Each P xs → Each Q xs
    each_map f [] h = tt
    each_map f (x ∷ xs) h = (f x h.0, each_map f xs h.1)

    pub each_both : (xs : List A) → Each P xs → Each Q xs → Each (λ x. P x × Q x) xs
    each_both [] p q = tt
    each_both (x ∷ xs) p q = ((p.0, q.0), each_both xs p.1 q.1)

pub map-map : {A B C : Type 0} (f : A → B) (g : B → C) (xs : List A) → map g (map f xs) ≡ map (λ x. g (f x)) xs
map-map f g [] = refl
map-map f g (x ∷ xs) = ap (λ l. g (f x) ∷ l) (map-map f g xs)

pub map-append : {A B : Type 0} (f : A → B) (xs ys : List A) → map f (xs ++ ys) ≡ map f xs ++ map f ys
map-append f [] ys = refl
map-append f (x ∷ xs) ys = ap (λ l. f x ∷ l) (map-append f xs ys)

pub map_same : {A B : Type 0} (f g : A → B) (xs : List A) → Each (λ x. f x ≡ g x) xs → map f xs ≡ map g xs
map_same f g [] h = refl
map_same f g (x ∷ xs) h = ap₂ (λ a b. a ∷ b) h.0 (map_same f g xs h.1)

pub map-id : {A : Type 0} (f : A → A) (xs : List A) → Each (λ x. f x ≡ x) xs → map f xs ≡ xs
map-id f [] h = refl
map-id f (x ∷ xs) h = ap₂ (λ a b. a ∷ b) h.0 (map-id f xs h.1)

-- ---- equal pieces

-- each of n pieces of bytes
pub each_piece : (P : List ℕ → Type 0) (w : ℕ) → ((b : List ℕ) → Bytes b → length b ≡ w → P b)
    → (n : ℕ) (s : List ℕ) → Bytes s → n * w ≤ length s → Each P (pieces n w s)
unfolding pieces
each_piece P w f zero s p h = tt
each_piece P w f (suc n) s p h =
    let k : w + n * w ≤ length s = omega arith in (
      f (take w s) (bytes_take w s p) (length-take-le w s (omega arith)),
      each_piece P w f n (drop w s) (bytes_drop w s p) (simp length-drop (omega arith)),
    )

module _ {A : Type 0} (write : A → List ℕ) (read : List ℕ → A) (w : ℕ) where
  sized_all : (xs : List A) → Each (λ x. length (write x) ≡ w) xs → Sized w (map write xs)
  sized_all [] h = tt
  sized_all (x ∷ xs) h = (h.0, sized_all xs h.1)

  pub length-all : (xs : List A) → Each (λ x. length (write x) ≡ w) xs → length (join (map write xs)) ≡ length xs * w
  length-all xs h = length-join w (map write xs) (sized_all xs h) ∙ ap (λ (n : ℕ). n * w) (length-map xs write)

  -- what is written is read back, whatever follows
  pub read_all : (xs : List A) (t : List ℕ) → Each (λ x. length (write x) ≡ w) xs → Each (λ x. read (write x) ≡ x) xs
      → map read (pieces (length xs) w (join (map write xs) ++ t)) ≡ xs
  read_all xs t s h =
      ap (λ (n : ℕ). map read (pieces n w (join (map write xs) ++ t))) (sym (length-map xs write))
      ∙ (ap (map read) (pieces_join w (map write xs) t (sized_all xs s)) ∙ (map-map write read xs ∙ map-id (λ x. read (write x)) xs h))

  -- what is read is written back
  pub write_all_lem : ((b : List ℕ) → Bytes b → length b ≡ w → write (read b) ≡ b)
      → (n : ℕ) (s : List ℕ) → Bytes s → n * w ≤ length s → join (map write (map read (pieces n w s))) ≡ take (n * w) s
  write_all_lem back n s p h =
      ap join (map-map read write (pieces n w s) ∙ map-id (λ b. write (read b)) (pieces n w s) (each_piece (λ b. write (read b) ≡ b) w back n s p h))
      ∙ join_pieces n w s

pub bytes_all : {A : Type 0} (write : A → List ℕ) (xs : List A) → Each (λ x. Bytes (write x)) xs → Bytes (join (map write xs))
unfolding join
bytes_all write [] h = tt
bytes_all write (x ∷ xs) h = bytes_append (write x) (join (map write xs)) h.0 (bytes_all write xs h.1)
