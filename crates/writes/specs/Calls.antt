-- Calls of the compiled write one after the other, each by its promise.
use Rattle.std.specs.Prelude.{◌≡◌, List, [], ◌∷◌, ℕ}
use Rattle.rules.specs.declared.Refusal.{Refusal}
use Rattle.rules.specs.declared.Outcome.{Outcome}
use Rattle.std.specs.Prelude.{Result}
use Rattle.rules.specs.Union.{IsAccepted}
use Rattle.rules.specs.Write.{Write}
use Rattle.writes.specs.Judge.{Wrote}

-- the writes ws, the first of them to what s holds and each to what the one before it left, left these bytes
abbrev pub WriteCalls : List Write → List ℕ → List ℕ → Type 0
WriteCalls [] s left = s ≡ left
WriteCalls (w ∷ ws) s left = (r : Result Outcome Refusal) × (m : List ℕ) × Wrote s w r m × WriteCalls ws m left

-- what each of them answered
abbrev pub answers_of : (ws : List Write) (s left : List ℕ) → WriteCalls ws s left → List (Result Outcome Refusal)
answers_of [] s left calls = []
answers_of (w ∷ ws) s left calls = calls.0 ∷ answers_of ws calls.1 left calls.3

-- none of them was refused
abbrev pub NoneRefused : (ws : List Write) (s left : List ℕ) → WriteCalls ws s left → Type 0
NoneRefused [] s left calls = Unit {0}
NoneRefused (w ∷ ws) s left calls = IsAccepted calls.0 × NoneRefused ws calls.1 left calls.3
