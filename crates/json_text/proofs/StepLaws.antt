-- What a function that passes over a text keeps: what a rule is where it began is what another is where it stands.
-- Assumes nothing.
use mathlib.Core.List.{List}
use Rattle.std.specs.Prelude.{Option, None, Some}
use Prim.Native.Nat.{ℕ, ◌≤◌, ◌<◌}
use native.Mathlib.Omega.{arith}
use lib.ListN.{length, drop}
use Rattle.json_text.specs.Grammar.{Rule}
use Rattle.json_text.specs.Skips.{Ends, NoText, Skips}

-- what P is at `at` is what Q is at j, of the texts after which stands what C admits
pub record Steps (C : List ℕ → Type 0) (P Q : Rule) (s : List ℕ) (at j : ℕ) : Type 0 where
  pub from : at ≤ j
  pub to : (r : List ℕ) → P (drop at s) r → C r → Q (drop j s) r
  pub back : (r : List ℕ) → Q (drop j s) r → P (drop at s) r

-- whatever follows
abbrev pub Leads : Rule → Rule → List ℕ → ℕ → ℕ → Type 0
Leads P Q s at j = Steps (λ r. Unit {0}) P Q s at j

-- where a value can end
abbrev pub Runs : Rule → Rule → List ℕ → ℕ → ℕ → Type 0
Runs P Q s at j = Steps Ends P Q s at j

-- whatever follows, at a later place of the text
pub record Goes (P Q : Rule) (s : List ℕ) (at i : ℕ) : Type 0 where
  pub from : at < i
  pub within : i ≤ length s
  pub leads : Leads P Q s at i

-- the answer there is the answer here
skips_steps :
    (C : List ℕ → Type 0) → ((r : List ℕ) → Ends r → C r) → (P Q : Rule) (s : List ℕ) (at j : ℕ)
    → Steps C P Q s at j → (x : Option ℕ) → Skips Q s j x → Skips P s at x
unfolding NoText
skips_steps C f P Q s at j g (Some e) h = record {
  from = omega (arith, g.from, h.from);
  within = h.within;
  is = g.back _ h.is;
  only = λ r p z. h.only r (g.to r p (f r z)) z;
}
skips_steps C f P Q s at j g None h = λ r p z. h r (g.to r p (f r z)) z

pub skips_runs : (P Q : Rule) (s : List ℕ) (at j : ℕ) → Runs P Q s at j → (x : Option ℕ) → Skips Q s j x → Skips P s at x
skips_runs P Q s at j g x h = skips_steps Ends (λ r z. z) P Q s at j g x h

pub skips_goes : (P Q : Rule) (s : List ℕ) (at j : ℕ) → Goes P Q s at j → (x : Option ℕ) → Skips Q s j x → Skips P s at x
skips_goes P Q s at j g x h = skips_steps (λ r. Unit {0}) (λ r z. tt) P Q s at j g.leads x h
