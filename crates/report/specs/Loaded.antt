-- The report by what a load answered.
use Rattle.std.specs.Prelude.{List, ℕ, ◌≤◌, length}
use Rattle.rules.specs.declared.Fault.{Fault}
use Rattle.std.specs.Prelude.{Result, Ok, Err}
use Rattle.rules.specs.Report.{replica_text, refused_text}
use Rattle.rules.specs.Room.{revisions_most}
use Rattle.store.specs.Storage.{replica_of, IsStored}
use Rattle.report.specs.Lines.{report_most}

-- the text of a load that answered so and left b
abbrev pub loaded_text : Result (Unit {0}) (Fault × ℕ) → List ℕ → List ℕ
loaded_text (Ok u) b = replica_text (replica_of b)
loaded_text (Err (f, p)) b = refused_text (f, p)

-- an accepted load left a replica, and no place of a fault is above the most revisions
abbrev pub Answers : Result (Unit {0}) (Fault × ℕ) → List ℕ → Type 0
Answers (Ok u) b = IsStored b
Answers (Err (f, p)) b = p ≤ revisions_most

pub record CanPutLoaded (l : Result (Unit {0}) (Fault × ℕ)) (b s : List ℕ) : Type 0 where
  pub answers : Answers l b
  pub room : report_most ≤ length s
