-- Numbers and pieces in a list of bytes. "All numbers big-endian."
use Rattle.std.specs.Prelude.{Bool, true, ◌&&◌, List, [], ◌∷◌, ◌++◌, ℕ, zero, suc, ◌+◌, ◌*◌, ◌/◌, ◌%◌, ◌<◌, eqb, take, drop}

-- a number's last n bytes, the heaviest first
unfoldable pub be : ℕ → ℕ → List ℕ
be zero v = []
be (suc n) v = be n (v / 256) ++ (v % 256 ∷ [])

unfoldable pub value_from : ℕ → List ℕ → ℕ
value_from v [] = v
value_from v (b ∷ bs) = value_from (v * 256 + b) bs

-- the number that bytes are, the first the heaviest
unfoldable pub value : List ℕ → ℕ
value bs = value_from 0 bs

-- the n bytes from `at` on
unfoldable pub part : ℕ → ℕ → List ℕ → List ℕ
part at n s = take n (drop at s)

-- n pieces of w bytes each
unfoldable pub pieces : ℕ → ℕ → List ℕ → List (List ℕ)
pieces zero w s = []
pieces (suc n) w s = take w s ∷ pieces n w (drop w s)

unfoldable pub join : List (List ℕ) → List ℕ
join [] = []
join (p ∷ ps) = p ++ join ps

-- each is a byte
abbrev pub Bytes : List ℕ → Type 0
Bytes [] = Unit {0}
Bytes (b ∷ bs) = (b < 256) × Bytes bs

unfoldable pub all_zero : List ℕ → Bool
all_zero [] = true
all_zero (b ∷ bs) = eqb b 0 && all_zero bs
