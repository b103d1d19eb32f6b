-- "A refusal returns its number (an image refusal also its place)": the number and the value of each
-- case of each answer.
use Rattle.std.specs.Prelude.{ℕ}
use Rattle.rules.specs.declared.Seq.{Seq}
use Rattle.rules.specs.declared.Change.{Change}
use Rattle.rules.specs.declared.Fault.{Fault}
use Rattle.rules.specs.declared.RevNumber.{RevNumber}
use Rattle.rules.specs.declared.Refusal.{Refusal}
use Rattle.std.specs.Prelude.{Option, None, Some, Result, Ok, Err}
use Rattle.rules.specs.declared.Outcome.{Outcome}
use Rattle.rules.specs.declared.Outcome.TheVariants.{Changed, Unchanged}
use Rattle.rules.specs.Refusal.{refusal_number, fault_number}

-- the refusal's number, 0 if the call was accepted, and the value that goes with it
pub record Numbered : Type 0 where
  pub refusal : ℕ
  pub value : ℕ

abbrev pub accepted : ℕ → Numbered
accepted v = record { refusal = 0; value = v }

abbrev pub refused : ℕ → Numbered
refused n = record { refusal = n; value = 0 }

-- "unchanged" and "changed"
abbrev pub outcome_value : Outcome → ℕ
outcome_value Changed = 1
outcome_value Unchanged = 0

abbrev pub written_number : Result Outcome Refusal → Numbered
written_number (Ok o) = accepted (outcome_value o)
written_number (Err n) = refused (refusal_number n)

-- "answers the new number"
abbrev pub edited_number : Result RevNumber Refusal → Numbered
edited_number (Ok n) = accepted n.0
edited_number (Err n) = refused (refusal_number n)

-- "their count is answered"
abbrev pub answered_number : Result ℕ Refusal → Numbered
answered_number (Ok n) = accepted n
answered_number (Err n) = refused (refusal_number n)

-- 1 with a document, 0 for "no more"
abbrev pub changes_number : Result (Option Change) Refusal → Numbered
changes_number (Ok (Some c)) = accepted 1
changes_number (Ok None) = accepted 0
changes_number (Err n) = refused (refusal_number n)

-- "the document with the lowest own sequence above s", by "that sequence"; 0 for "no more", since no own
-- sequence is 0
abbrev pub next_number : Option (ℕ × Seq) → Numbered
next_number None = accepted 0
next_number (Some (place, q)) = accepted q.0

-- "an image refusal also its place"
abbrev pub loaded_number : Result (Unit {0}) (Fault × ℕ) → Numbered
loaded_number (Ok u) = accepted 0
loaded_number (Err (f, place)) = record { refusal = fault_number f; value = place }
