-- What a skipper answers.
use Rattle.std.specs.Prelude.{◌≡◌, List, [], ◌∷◌, ◌⊎◌, Bool, true, false, ℕ, ◌+◌, ◌≤◌, ◌<◌, length, get_or, drop}
use Rattle.std.specs.Prelude.{Option, None, Some}
use Rattle.json_text.specs.Grammar.{Rule, byte, range, ◌then◌, ws, white, many, some}

-- ---- bytes

-- no text of P stands at the front
unfoldable pub Not : Rule → List ℕ → Type 0
Not P a = (b : List ℕ) → P a b → ⊥

-- whether a byte of P stands at `at`
abbrev pub Here : Rule → List ℕ → ℕ → Bool → Type 0
Here P s at true = (at < length s) × P (drop at s) (drop (at + 1) s)
Here P s at false = Not P (drop at s)

-- a text of P stands at `at` and ends at e, and no text of Q stands there
pub record UpTo (P Q : Rule) (s : List ℕ) (at e : ℕ) : Type 0 where
  pub from : at ≤ e
  pub within : e ≤ length s
  pub is : P (drop at s) (drop e s)
  pub all : Not Q (drop e s)

-- no white space stands at the front
abbrev pub Solid : List ℕ → Type 0
Solid a = Not white a

-- the place after all the white space at `at`
abbrev pub WsTo : List ℕ → ℕ → ℕ → Type 0
WsTo s at e = UpTo ws white s at e

-- the place after all the bytes of P at `at`
abbrev pub RunTo : Rule → List ℕ → ℕ → ℕ → Type 0
RunTo P s at e = UpTo (many P) P s at e

-- the same, of which there is one at least
abbrev pub SomeTo : Rule → List ℕ → ℕ → ℕ → Type 0
SomeTo P s at e = UpTo (some P) P s at e

abbrev pub SkipsSome : Rule → List ℕ → ℕ → Option ℕ → Type 0
SkipsSome P s at (Some e) = SomeTo P s at e
SkipsSome P s at None = Not P (drop at s)

-- ---- values

-- a byte that can follow a value or a name: white space, a comma, a closing bracket, a colon
unfoldable pub Follow : ℕ → Type 0
Follow c = (c ≡ 32) ⊎ ((c ≡ 9) ⊎ ((c ≡ 10) ⊎ ((c ≡ 13) ⊎ ((c ≡ 44) ⊎ ((c ≡ 93) ⊎ ((c ≡ 125) ⊎ (c ≡ 58)))))))

-- what stands here can follow a value
unfoldable pub Ends : List ℕ → Type 0
Ends [] = Unit {0}
Ends (c ∷ a) = Follow c

-- a text of P stands at `at` and ends at e, and nowhere else where a value can end
pub record EndsAt (P : Rule) (s : List ℕ) (at e : ℕ) : Type 0 where
  pub from : at ≤ e
  pub within : e ≤ length s
  pub is : P (drop at s) (drop e s)
  pub only : (r : List ℕ) → P (drop at s) r → Ends r → r ≡ drop e s

-- no text of P stands at `at` that ends where a value can end
unfoldable pub NoText : Rule → List ℕ → ℕ → Type 0
NoText P s at = (r : List ℕ) → P (drop at s) r → Ends r → ⊥

abbrev pub Skips : Rule → List ℕ → ℕ → Option ℕ → Type 0
Skips P s at (Some e) = EndsAt P s at e
Skips P s at None = NoText P s at

-- a text of P stands at `at` and ends at e, and what stands there can follow a value
pub record WholeAt (P : Rule) (s : List ℕ) (at e : ℕ) : Type 0 where
  pub text : EndsAt P s at e
  pub ends : Ends (drop e s)

abbrev pub Placed : Rule → List ℕ → ℕ → Option ℕ → Type 0
Placed P s at (Some e) = WholeAt P s at e
Placed P s at None = NoText P s at

-- a text that is these bytes
abbrev pub spelling : List ℕ → Rule
spelling [] a b = a ≡ b
spelling (c ∷ []) a b = byte c a b
spelling (c ∷ d ∷ w) a b = (byte c then spelling (d ∷ w)) a b

-- a byte of each range in turn
abbrev pub in_turn : List (ℕ × ℕ) → Rule
in_turn [] a b = a ≡ b
in_turn (r ∷ []) a b = range r.0 r.1 a b
in_turn (r ∷ q ∷ rs) a b = (range r.0 r.1 then in_turn (q ∷ rs)) a b

-- ---- strings

-- a text of P stands at `at` and ends at e and nowhere else
pub record OnlyAt (P : Rule) (s : List ℕ) (at e : ℕ) : Type 0 where
  pub from : at < e
  pub within : e ≤ length s
  pub is : P (drop at s) (drop e s)
  pub only : (r : List ℕ) → P (drop at s) r → r ≡ drop e s

abbrev pub Exact : Rule → List ℕ → ℕ → Option ℕ → Type 0
Exact P s at (Some e) = OnlyAt P s at e
Exact P s at None = Not P (drop at s)

-- a byte that is a character of a string by itself: ASCII, no control, quotation mark or backslash
pub record PlainByte (c : ℕ) : Type 0 where
  pub low : 32 ≤ c
  pub high : c ≤ 127
  pub no_quote : c ≡ 34 → ⊥
  pub no_backslash : c ≡ 92 → ⊥

-- from `at` to e stand such bytes
pub record PlainTo (s : List ℕ) (at e : ℕ) : Type 0 where
  pub from : at ≤ e
  pub within : e ≤ length s
  pub plain : (k : ℕ) → at ≤ k → k < e → PlainByte (get_or s k 0)

-- ---- tests

-- whether P holds
abbrev pub Whether : Type 0 → Bool → Type 0
Whether P true = P
Whether P false = P → ⊥

-- P holds if so, and otherwise nothing is said
abbrev pub IfSo : Type 0 → Bool → Type 0
IfSo P true = P
IfSo P false = Unit {0}
