-- Choosing and counting by a test, and the first condition that holds.
use Rattle.std.specs.Prelude.{Bool, true, false, ◌||◌, List, [], ◌∷◌, ℕ, ◌+◌}
use Rattle.std.specs.Prelude.{Option, None, Some}

-- the first where the test holds, else the second
abbrev pub pick : {A : Type 0} → Bool → A → A → A
pick true a b = a
pick false a b = b

abbrev pub or_else : {A : Type 0} → Option A → Option A → Option A
or_else None b = b
or_else (Some a) b = Some a

-- f of what is there, else x
abbrev pub maybe : {A B : Type 0} → B → (A → B) → Option A → B
maybe x f None = x
maybe x f (Some a) = f a

unfoldable pub any : {A : Type 0} → (A → Bool) → List A → Bool
any p [] = false
any p (x ∷ xs) = p x || any p xs

-- of how many the test holds
unfoldable pub how_many : {A : Type 0} → (A → Bool) → List A → ℕ
how_many p [] = 0
how_many p (x ∷ xs) = pick (p x) 1 0 + how_many p xs

-- "in that order": of conditions with what each gives, what the first that holds gives
unfoldable pub first_that : {A : Type 0} → List (Bool × A) → Option A
first_that [] = None
first_that (t ∷ ts) = pick t.0 (Some t.1) (first_that ts)
