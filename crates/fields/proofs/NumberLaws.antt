-- How a loop over digits meets the number that they are. Assumes nothing.
use mathlib.Core.Path.{◌≡◌, refl, sym, ◌∙◌}
use mathlib.Core.Bool.{Bool, true, false, not, ◌&&◌, true≢false}
use mathlib.Core.Logic.{inl, inr}
use mathlib.Core.List.{List, [], ◌∷◌}
use Rattle.std.specs.Prelude.{Option, None, Some}
use Prim.Native.Nat.{ℕ, ◌+◌, ◌*◌, ◌-◌, ◌≤◌, ◌<◌}
use native.Mathlib.Numerals.{add-one}
use native.Mathlib.Omega.{arith}
use lib.Dec.{eqb, leb}
use lib.ListN.{length, get_or, drop, drop_of_length-le}
use lib.Seq.{drop-cons}
use borrow.Author.Tests.{eqb-true, le-leb, lt-leb}
use Rattle.std.specs.Char.{IsAsciiDigit, IsNotAsciiDigit}
use Rattle.rules.specs.Choice.{pick}
use Rattle.lines.specs.Said.{all, is_digit, decimal_from, decimal_value, is_empty, spare_zero, read_number}

and_false : (b : Bool) → (b && false) ≡ false
and_false true = refl
and_false false = refl

-- ---- the spare zero

pub no_spare : (t : List ℕ) → length t < 2 → false ≡ spare_zero t
unfolding spare_zero
no_spare [] h = refl
no_spare (c ∷ []) h = sym (and_false (eqb c 48))
no_spare (c ∷ d ∷ t) h = absurd (omega arith)

pub spare_first : (t : List ℕ) → 2 ≤ length t → eqb (get_or t 0 0) 48 ≡ spare_zero t
unfolding spare_zero
spare_first [] h = absurd (omega arith)
spare_first (c ∷ []) h = absurd (omega arith)
spare_first (c ∷ d ∷ t) h = go (eqb c 48)
  where
    go : (b : Bool) → b ≡ (b && true)
    go true = refl
    go false = refl

-- ---- before the loop

pub number_empty : (most : ℕ) (t : List ℕ) → eqb (length t) 0 ≡ true → read_number most t ≡ None
unfolding read_number
number_empty most [] e = refl
number_empty most (c ∷ t) e = absurd (let z = eqb-true (length (c ∷ t)) 0 e in omega arith)

pub number_spare : (most : ℕ) (t : List ℕ) → spare_zero t ≡ true → read_number most t ≡ None
unfolding read_number
number_spare most t e = rw (e, and_false (all is_digit t), and_false (not (is_empty t))) refl

-- ---- in the loop

-- what is left after the digits of v
unfoldable pub rest : ℕ → ℕ → List ℕ → Option ℕ
rest most v t = pick (all is_digit t && leb (decimal_from v t) most) (Some (decimal_from v t)) None

pub number_start : (most : ℕ) (t : List ℕ) → eqb (length t) 0 ≡ false → spare_zero t ≡ false → read_number most t ≡ rest most 0 t
unfolding read_number rest decimal_value
number_start most [] h e = absurd (true≢false h)
number_start most (c ∷ t) h e = rw e refl

from_grows : (v : ℕ) (t : List ℕ) → v ≤ decimal_from v t
unfolding decimal_from
from_grows v [] = omega arith
from_grows v (c ∷ t) = let k = from_grows (v * 10 + (c - 48)) t in omega arith

excess : (most w : ℕ) (u : List ℕ) → most < w → rest most w u ≡ None
unfolding rest
excess most w u y = let g = from_grows w u in rw (lt-leb (decimal_from w u) most (omega arith), and_false (all is_digit u)) refl

module _ (most v : ℕ) (t : List ℕ) (i : ℕ) (h : i < length t) where
  pub rest_other : IsNotAsciiDigit (get_or t i 0) → rest most v (drop i t) ≡ None
  unfolding rest all is_digit
  rest_other (inl k) = rw (drop-cons t i 0 h, lt-leb 48 (get_or t i 0) k) refl
  rest_other (inr k) = rw (drop-cons t i 0 h, lt-leb (get_or t i 0) 57 k, and_false (leb 48 (get_or t i 0))) refl

  pub rest_more : IsAsciiDigit (get_or t i 0) → rest most v (drop i t) ≡ rest most (v * 10 + (get_or t i 0 - 48)) (drop (i + 1) t)
  unfolding rest all is_digit decimal_from
  rest_more k = rw (drop-cons t i 0 h, le-leb 48 (get_or t i 0) k.0, le-leb (get_or t i 0) 57 k.1, add-one i) refl

  pub rest_excess : IsAsciiDigit (get_or t i 0) → most < v * 10 + (get_or t i 0 - 48) → rest most v (drop i t) ≡ None
  rest_excess k x = rest_more k ∙ excess most (v * 10 + (get_or t i 0 - 48)) (drop (i + 1) t) x

pub rest_done : (most v : ℕ) (t : List ℕ) (i : ℕ) → length t ≤ i → v ≤ most → rest most v (drop i t) ≡ Some v
unfolding rest all decimal_from
rest_done most v t i h k = rw (drop_of_length-le t h, le-leb v most k) refl
