-- A table of pieces of one size at the front of its room, between other bytes: what a splice does to it. Assumes nothing.
use mathlib.Core.Path.{◌≡◌, refl, sym, ap, ◌∙◌}
use Prim.Native.Nat.{ℕ, zero, suc, ◌+◌, ◌*◌, ◌<◌, ◌≤◌, ◌-◌}
use native.Mathlib.Nat.{not-suc-le-zero, le_of_suc-le-suc}
use native.Mathlib.Omega.{arith}
use mathlib.Core.List.{List, [], ◌∷◌, ◌++◌, map, append_assoc}
use lib.ListN.{length, get_or, set, take, drop, replicate, length-append, length-take, length-drop, length-replicate, replicate-append-replicate, take-append-drop}
use Rattle.rules.specs.Bytes.{part, join}
use Rattle.rules.proofs.ByteLaws.{Sized, length-join, join_append}
use Rattle.octets.specs.Splice.{splice}
use Rattle.octets.proofs.SpliceLaws.{splice-past, splice_in, length-splice, gap}
use Rattle.store.specs.Storage.{filled}
use Rattle.tree.specs.Table.{insert_at}
use Rattle.store.specs.Change.{modify}

-- ---- lists

pub length-modify : {A : Type 0} (i : ℕ) (f : A → A) (xs : List A) → length (modify i f xs) ≡ length xs
unfolding modify
length-modify i f [] = refl
length-modify zero f (x ∷ xs) = refl
length-modify (suc i) f (x ∷ xs) = ap suc (length-modify i f xs)

pub modify_id : {A : Type 0} (i : ℕ) (xs : List A) → modify i (λ x. x) xs ≡ xs
unfolding modify
modify_id i [] = refl
modify_id zero (y ∷ ys) = refl
modify_id (suc i) (y ∷ ys) = ap (λ (l : List _). y ∷ l) (modify_id i ys)

pub set_modify : {A : Type 0} (xs : List A) (i : ℕ) (x : A) → set xs i x ≡ modify i (λ _. x) xs
unfolding modify
set_modify [] i x = refl
set_modify (y ∷ ys) zero x = refl
set_modify (y ∷ ys) (suc i) x = ap (λ (l : List _). y ∷ l) (set_modify ys i x)

pub modify_same : {A : Type 0} (i : ℕ) (f g : A → A) (xs : List A) (x : A) → f (get_or xs i x) ≡ g (get_or xs i x) → modify i f xs ≡ modify i g xs
unfolding modify
modify_same i f g [] x e = refl
modify_same zero f g (y ∷ ys) x e = ap (λ (a : _). a ∷ ys) e
modify_same (suc i) f g (y ∷ ys) x e = ap (λ (l : List _). y ∷ l) (modify_same i f g ys x e)

pub length_insert : {A : Type 0} (i : ℕ) (x : A) (xs : List A) → i ≤ length xs → length (insert_at i x xs) ≡ suc (length xs)
unfolding insert_at
length_insert i x xs h = simp (length-append, length-take, length-drop) (omega arith)

pub map_insert : {A B : Type 0} (f : A → B) (i : ℕ) (x : A) (xs : List A) → map f (insert_at i x xs) ≡ insert_at i (f x) (map f xs)
unfolding insert_at
map_insert f zero x xs = refl
map_insert f (suc i) x [] = refl
map_insert f (suc i) x (y ∷ xs) = ap (λ (l : List _). f y ∷ l) (map_insert f i x xs)

-- ---- pieces

sized_take : (w i : ℕ) (ps : List (List ℕ)) → Sized w ps → Sized w (take i ps)
sized_take w zero ps h = tt
sized_take w (suc i) [] h = tt
sized_take w (suc i) (p ∷ ps) h = (h.0, sized_take w i ps h.1)

sized_drop : (w i : ℕ) (ps : List (List ℕ)) → Sized w ps → Sized w (drop i ps)
sized_drop w zero ps h = h
sized_drop w (suc i) [] h = tt
sized_drop w (suc i) (p ∷ ps) h = sized_drop w i ps h.1

-- a piece is spliced
join_splice : (w : ℕ) (ps : List (List ℕ)) (i k : ℕ) (y T : List ℕ) → Sized w ps → i < length ps → k + length y ≤ w
    → splice (join ps ++ T) (i * w + k) y ≡ join (modify i (λ (p : List ℕ). splice p k y) ps) ++ T
unfolding join modify
join_splice w [] i k y T h l m = absurd (not-suc-le-zero l)
join_splice w (p ∷ ps) zero k y T h l m =
    let e : 0 * w + k ≡ k = omega arith in
    rw (e, append_assoc p (join ps) T, append_assoc (splice p k y) (join ps) T) (splice_in p (join ps ++ T) y k (omega (arith, h.0)))
join_splice w (p ∷ ps) (suc i) k y T h l m =
    let e : suc i * w + k ≡ w + (i * w + k) = omega arith in
    rw (e, append_assoc p (join ps) T, append_assoc p (join (modify i (λ (q : List ℕ). splice q k y) ps)) T)
    (splice-past p (join ps ++ T) y w (i * w + k) h.0 ∙ ap (λ (l : List ℕ). p ++ l) (join_splice w ps i k y T h.1 (le_of_suc-le-suc l) m))

length_spliced : (w : ℕ) (ps : List (List ℕ)) (i k : ℕ) (y : List ℕ) → Sized w ps → k + length y ≤ w
    → length (join (modify i (λ (p : List ℕ). splice p k y) ps)) ≡ length (join ps)
unfolding join modify
length_spliced w [] i k y h m = refl
length_spliced w (p ∷ ps) zero k y h m =
    rw (length-append (splice p k y) (join ps), length-append p (join ps), length-splice p k y (omega (arith, h.0)))
length_spliced w (p ∷ ps) (suc i) k y h m =
    rw (length-append p (join (modify i (λ (q : List ℕ). splice q k y) ps)), length-append p (join ps), length_spliced w ps i k y h.1 m)

-- what stands before i and from it on is all
split : (n i w : ℕ) → i ≤ n → i * w + (n - i) * w ≡ n * w
split n i w h =
    let k : i + (n - i) ≡ n = omega arith in
    let m : (i + (n - i)) * w ≡ i * w + (n - i) * w = omega arith in
    sym m ∙ ap (λ (a : ℕ). a * w) k

-- ---- a table in its room

module _ (H : List ℕ) (base w room : ℕ) (ps : List (List ℕ)) (R : List ℕ) (b : length H ≡ base) (z : Sized w ps) where
  pub table_splice : (p i k : ℕ) (y : List ℕ) → p ≡ base + (i * w + k) → i < length ps → k + length y ≤ w
      → splice (H ++ (filled room (join ps) ++ R)) p y ≡ H ++ (filled room (join (modify i (λ (q : List ℕ). splice q k y) ps)) ++ R)
  unfolding filled
  table_splice p i k y e l m =
      let n : length (join (modify i (λ (q : List ℕ). splice q k y) ps)) ≡ length (join ps) = length_spliced w ps i k y z m in
      rw (
        e,
        splice-past H ((join ps ++ replicate (room - length (join ps)) 0) ++ R) y base (i * w + k) b,
        n,
        append_assoc (join ps) (replicate (room - length (join ps)) 0) R,
        append_assoc (join (modify i (λ (q : List ℕ). splice q k y) ps)) (replicate (room - length (join ps)) 0) R,
      )
      (ap (λ (l : List ℕ). H ++ l) (join_splice w ps i k y _ z l m))

  -- the pieces from i on move up, and x takes the gap
  pub table_insert : (n i p len : ℕ) (x : List ℕ) → n ≡ length ps → i ≤ n → n * w + w ≤ room → length x ≡ w → p ≡ base + i * w → len ≡ (n - i) * w
      → splice (splice (H ++ (filled room (join ps) ++ R)) (p + w) (part p len (H ++ (filled room (join ps) ++ R)))) p x
      ≡ H ++ (filled room (join (insert_at i x ps)) ++ R)
  unfolding filled insert_at join
  table_insert n i p len x c h m e q f =
      let A : List ℕ = join (take i ps) in
      let C : List ℕ = join (drop i ps) in
      let Z : List ℕ = replicate (room - (n * w + w)) 0 in
      let lt : length (take i ps) ≡ i = simp length-take (omega arith) in
      let ld : length (drop i ps) ≡ n - i = simp length-drop (omega arith) in
      let la : length A ≡ i * w = rw (length-join w (take i ps) (sized_take w i ps z), lt) in
      let lc : length C ≡ len = rw (length-join w (drop i ps) (sized_drop w i ps z), ld, f) in
      let lj : length (join ps) ≡ n * w = rw (length-join w ps z, c) in
      let j : join ps ≡ A ++ C = rw (sym (join_append (take i ps) (drop i ps)), take-append-drop i ps) in
      let g : room - n * w ≡ w + (room - (n * w + w)) = omega arith in
      let r : replicate (room - length (join ps)) 0 ≡ replicate w 0 ++ Z = rw (lj, g) (sym (replicate-append-replicate {A = ℕ} w (room - (n * w + w)) 0)) in
      let k : join (take i ps ++ (x ∷ drop i ps)) ≡ A ++ (x ++ C) = join_append (take i ps) (x ∷ drop i ps) in
      let lk : length (A ++ (x ++ C)) ≡ n * w + w = let t = split n i w h in simp length-append (omega arith) in
      let s : H ++ ((join ps ++ replicate (room - length (join ps)) 0) ++ R) ≡ (H ++ A) ++ (C ++ (replicate w 0 ++ (Z ++ R))) = rw (r, j) (simp append_assoc) in
      rw (s, k, lk, gap (H ++ A) C (replicate w 0) (Z ++ R) x p len w (simp length-append (omega arith)) lc e (length-replicate w 0)) (simp append_assoc)
