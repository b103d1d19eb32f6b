-- How a loop over bytes meets the order and the test for zeros. Assumes nothing.
use Rattle.std.proofs.Common.{◌≡◌, refl, sym, ap, ◌∙◌, Less, Equal, Greater, Ordering, false, List, [], ◌∷◌, ◌++◌, ℕ, suc, ◌+◌, ◌*◌, ◌≤◌, ◌<◌, arith, length, get_or, drop, drop-drop, take-add, nat_cmp, nat_eq, ◌&&◌, is_eq, eqb}
use Rattle.std.proofs.lemmas.Cmp.{by_ranked, ranked}
use Rattle.std.specs.Cmp.Lexicographic.{slice_cmp, pointwise, texts_ties}
use Rattle.std.specs.List.{list_all}
use Rattle.std.specs.Ordering.{ordering_then}
use Rattle.rules.specs.Order.{order_n, and_then, order_bytes, is_equal}
use Rattle.rules.specs.Bytes.{value, value_from, part, Bytes, all_zero}
use Rattle.rules.proofs.ByteLaws.{length_part}
use Rattle.rules.proofs.OrderLaws.{order_n_same, order_n_self, order_n_less, less_order_n, order_n_turn, order_bytes_same}
use Rattle.octets.proofs.NumberLaws.{number, value_number}

pub greater_order_n : (a b : ℕ) → b < a → order_n a b ≡ Greater
greater_order_n a b h = go (order_n a b) refl
  where
    go : (o : Ordering) → order_n a b ≡ o → o ≡ Greater
    go Less e = let k = order_n_less a b e in absurd (omega arith)
    go Equal e = let k = order_n_same a b e in absurd (omega arith)
    go Greater e = refl

pub equal_order_n : (a b : ℕ) → a ≡ b → order_n a b ≡ Equal
equal_order_n a b e = rw e (order_n_self b)

-- ---- the library's order, equality and test of all

pub order_n_cmp : (a b : ℕ) → nat_cmp a b ≡ order_n a b
order_n_cmp a b =
    by_ranked _ _ _ _ (ranked a b _ refl) (λ e h. e ∙ sym (less_order_n a b h)) (λ e h. e ∙ sym (equal_order_n a b h)) (λ e h. e ∙ sym (greater_order_n a b h))

pub ordering_then_lem : (o r : Ordering) → ordering_then o r ≡ and_then o r
ordering_then_lem Less r = refl
ordering_then_lem Equal r = refl
ordering_then_lem Greater r = refl

pub order_bytes_cmp : (a b : List ℕ) → slice_cmp nat_cmp a b ≡ order_bytes a b
unfolding order_bytes
order_bytes_cmp [] [] = refl
order_bytes_cmp [] (y ∷ b) = refl
order_bytes_cmp (x ∷ a) [] = refl
order_bytes_cmp (x ∷ a) (y ∷ b) = rw (order_n_cmp x y, order_bytes_cmp a b) (ordering_then_lem (order_n x y) (order_bytes a b))

-- where the first bytes differ they decide, and nothing stands before everything
pub order_bytes_first : (a b : List ℕ) → (get_or a 0 0 ≡ get_or b 0 0 → ⊥) → nat_cmp (get_or a 0 0) (get_or b 0 0) ≡ order_bytes a b
unfolding order_bytes
order_bytes_first [] [] n = absurd (n refl)
order_bytes_first [] (y ∷ b) n = order_n_cmp 0 y ∙ less_order_n 0 y (omega (arith, n))
order_bytes_first (x ∷ a) [] n = order_n_cmp x 0 ∙ greater_order_n x 0 (omega (arith, n))
order_bytes_first (x ∷ a) (y ∷ b) n = order_n_cmp x y ∙ go (order_n x y) refl
  where
    go : (o : Ordering) → order_n x y ≡ o → o ≡ and_then o (order_bytes a b)
    go Less e = refl
    go Equal e = absurd (n (order_n_same x y e))
    go Greater e = refl

pub order_bytes_eq : (a b : List ℕ) → pointwise nat_eq a b ≡ is_equal (order_bytes a b)
order_bytes_eq a b = texts_ties a b ∙ (rw (order_bytes_cmp a b) (is_eq_lem (order_bytes a b)))
  where
    is_eq_lem : (o : Ordering) → is_eq o ≡ is_equal o
    is_eq_lem Less = refl
    is_eq_lem Equal = refl
    is_eq_lem Greater = refl

-- two lists that differ somewhere are not the same
pub differ : (a b : List ℕ) → (a ≡ b → ⊥) → is_equal (order_bytes a b) ≡ false
differ a b n = go (order_bytes a b) refl
  where
    go : (o : Ordering) → order_bytes a b ≡ o → is_equal o ≡ false
    go Less e = refl
    go Equal e = absurd (n (order_bytes_same a b e))
    go Greater e = refl

pub all_zero_all : (s : List ℕ) → list_all (λ b. eqb b 0) s ≡ all_zero s
unfolding all_zero
all_zero_all [] = refl
all_zero_all (b ∷ s) = ap (λ t. eqb b 0 && t) (all_zero_all s)

-- ---- bytes that are as many compare as the numbers that they are

from_less : (v w : ℕ) (a b : List ℕ) → v < w → length a ≡ length b → Bytes a → Bytes b → value_from v a < value_from w b
unfolding value_from
from_less v w [] [] h e p q = h
from_less v w [] (y ∷ b) h e p q = absurd (omega arith)
from_less v w (x ∷ a) [] h e p q = absurd (omega arith)
from_less v w (x ∷ a) (y ∷ b) h e p q =
    let k = p.0 in from_less (v * 256 + x) (w * 256 + y) a b (omega arith) (omega arith) p.1 q.1

from_order : (v : ℕ) (a b : List ℕ) → length a ≡ length b → Bytes a → Bytes b → order_n (value_from v a) (value_from v b) ≡ order_bytes a b
unfolding value_from order_bytes
from_order v [] [] e p q = order_n_self v
from_order v [] (y ∷ b) e p q = absurd (omega arith)
from_order v (x ∷ a) [] e p q = absurd (omega arith)
from_order v (x ∷ a) (y ∷ b) e p q = go (order_n x y) refl (λ w. from_order w a b (omega arith) p.1 q.1)
  where
    n : length a ≡ length b
    n = omega arith

    go : (o : Ordering) → order_n x y ≡ o → ((w : ℕ) → order_n (value_from w a) (value_from w b) ≡ order_bytes a b)
        → order_n (value_from (v * 256 + x) a) (value_from (v * 256 + y) b) ≡ and_then o (order_bytes a b)
    go Less o ih =
        let h = order_n_less x y o in
        less_order_n _ _ (from_less (v * 256 + x) (v * 256 + y) a b (omega arith) n p.1 q.1)
    go Equal o ih = rw (order_n_same x y o) (ih (v * 256 + y))
    go Greater o ih =
        let h = order_n_less y x (order_n_turn x y o) in
        greater_order_n _ _ (from_less (v * 256 + y) (v * 256 + x) b a (omega arith) (sym n) q.1 p.1)

pub order_value : (a b : List ℕ) → length a ≡ length b → Bytes a → Bytes b → order_n (value a) (value b) ≡ order_bytes a b
unfolding value
order_value a b e p q = from_order 0 a b e p q

-- the first runs decide, and where they are the same the second
pub order_append : (a b c d : List ℕ) → length a ≡ length b → order_bytes (a ++ c) (b ++ d) ≡ and_then (order_bytes a b) (order_bytes c d)
unfolding order_bytes
order_append [] [] c d e = refl
order_append [] (y ∷ b) c d e = absurd (omega arith)
order_append (x ∷ a) [] c d e = absurd (omega arith)
order_append (x ∷ a) (y ∷ b) c d e = go (order_n x y) (order_append a b c d (omega arith))
  where
    go : (o : Ordering) → order_bytes (a ++ c) (b ++ d) ≡ and_then (order_bytes a b) (order_bytes c d)
        → and_then o (order_bytes (a ++ c) (b ++ d)) ≡ and_then (and_then o (order_bytes a b)) (order_bytes c d)
    go Less h = refl
    go Equal h = h
    go Greater h = refl

halves : (s : List ℕ) (at n : ℕ) → part at (n + n) s ≡ part at n s ++ part (at + n) n s
unfolding part
halves s at n = take-add n n (drop at s) ∙ rw (drop-drop n at s)

-- two runs, each of twice k bytes: the first halves decide by their numbers, else the second halves
pub order_halves : (a b : List ℕ) (p q k : ℕ) → p + (k + k) ≤ length a → q + (k + k) ≤ length b → Bytes (part p k a) → Bytes (part q k b)
    → order_bytes (part p (k + k) a) (part q (k + k) b)
    ≡ and_then (order_n (value (part p k a)) (value (part q k b))) (order_bytes (part (p + k) k a) (part (q + k) k b))
order_halves a b p q k h i x y =
    let la = length_part p k a (omega arith) in
    let lb = length_part q k b (omega arith) in
    let e : length (part p k a) ≡ length (part q k b) = omega arith in
    rw (halves a p k, halves b q k, order_append (part p k a) (part q k b) (part (p + k) k a) (part (q + k) k b) e, order_value (part p k a) (part q k b) e x y)

-- the library's numbers of as many bytes compare as the bytes do
pub numbers_cmp : (a b : List ℕ) (k : ℕ) {x y : ℕ} → length a ≡ suc k → length b ≡ suc k → Bytes a → Bytes b → x ≡ number k a → y ≡ number k b
    → nat_cmp x y ≡ order_bytes a b
numbers_cmp a b k {x} {y} m n p q e f =
    rw (e ∙ sym (value_number a k m), f ∙ sym (value_number b k n), order_n_cmp (value a) (value b)) (order_value a b (m ∙ sym n) p q)
