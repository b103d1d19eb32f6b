-- What is said of a whole image.
use Rattle.std.specs.Prelude.{◌≡◌, List, [], ◌∷◌, ℕ, ◌≤◌}
use Rattle.std.specs.Prelude.{Result, Ok, Err}
use Rattle.std.specs.Prelude.{Option, None, Some}
use Rattle.rules.specs.declared.Fault.{Fault}
use Rattle.rules.specs.declared.Fault.TheVariants.{BadContents, BadSequence, BadRow, BadParent}
use Rattle.rules.specs.Choice.{first_that}
use Rattle.rules.specs.Faults.{bad_contents, bad_sequence, at}
use Rattle.rules.specs.Refusal.{fault_number}
use Rattle.faults.specs.Each.{Rows, Links}
use Rattle.faults.specs.Each.{rule_fault}

-- the fault and its place, if there is one
abbrev pub judged : Result (Unit {0}) (Fault × ℕ) → Option (Fault × ℕ)
judged (Ok u) = None
judged (Err (f, p)) = Some (f, p)

-- n is the number of a fault, which is one of seven
pub record NumberOf (f : Fault) (n : ℕ) : Type 0 where
  pub is : n ≡ fault_number f
  pub least : 20 ≤ n
  pub most : n ≤ 26

-- what 23 to 26 find, where 20 to 22 find nothing
unfoldable pub body_fault : List ℕ → Option (Fault × ℕ)
body_fault s =
    first_that
    (at BadContents (bad_contents s)
    ∷ at BadSequence (bad_sequence s)
    ∷ at BadRow (rule_fault Rows s)
    ∷ at BadParent (rule_fault Links s)
    ∷ [])
