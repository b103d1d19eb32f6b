-- A result taken apart again, and what it tells of its call.
use Rattle.std.specs.Prelude.{◌≡◌, ℕ, zero, suc, ◌/◌, ◌%◌, ◌<◌, ◌≤◌, leb}
use Rattle.std.specs.Prelude.{None}
use Rattle.rules.specs.Answer.{Numbered}
use Rattle.rules.specs.Choice.{pick, first_that}
use Rattle.refile.specs.Boundary.{refused_from, CCall, outcome, Calls}

-- refile_refusal of include/refile.h: 0 if the call was accepted, else the refusal's number
abbrev pub refusal_in : ℕ → ℕ
refusal_in r = pick (leb refused_from r) (r / 4294967296 % 2147483648) 0

-- refile_value: the answer of an accepted call, else the place
abbrev pub value_in : ℕ → ℕ
value_in r = pick (leb refused_from r) (r % 4294967296) r

abbrev pub decode : ℕ → Numbered
decode r = record { refusal = refusal_in r; value = value_in r }

-- an answer below 2^63; of a refusal a number of 1 to 106, and a place in the lower half
abbrev pub RangeOf : ℕ → ℕ → Type 0
RangeOf zero v = v < refused_from
RangeOf (suc n) v = (suc n ≤ 106) × (v < 4294967296)

abbrev pub InRange : Numbered → Type 0
InRange n = RangeOf n.refusal n.value

-- what the result of a call tells: taken apart, its outcome; a refused one left what was lent; and an accepted
-- one met no house refusal
pub record Told {L : Type 0} (c : CCall L) (r : ℕ) (buffer : L) : Type 0 where
  pub calls : Calls c r buffer
  pub decodes : decode r ≡ (outcome c).0
  pub refused : refused_from ≤ r → buffer ≡ c.lent
  pub past : refusal_in r ≡ 0 → first_that c.house ≡ None
