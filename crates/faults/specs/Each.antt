-- What 25 and 26 ask of the rows of each document.
use Rattle.std.specs.Prelude.{◌≡◌, Bool, List, ℕ, ◌+◌, ◌≤◌}
use Rattle.std.specs.Prelude.{Option, None}
use Rattle.rules.specs.Faults.{first_true, bad_rows, bad_links, in_each}
use Rattle.rules.specs.Image.{entries_of, rows_of, deal}
use Rattle.rules.specs.Layout.{Row}
use Rattle.rules.specs.Room.{revisions_most}
use Rattle.tree.specs.declared.table.Body.{Body}
use Rattle.tree.specs.Table.{Within}
use Rattle.faults.specs.Places.{rows_in, Listed}

-- what is asked of a document's rows: 25, or 26 where 25 finds nothing
pub data Rule : Type 0 where
  Rows : Rule
  Links : Rule

-- each row of a document, by a rule
abbrev pub tests : Rule → List Row → List Bool
tests Rows = bad_rows None
tests Links = bad_links

-- the first bad row of all
unfoldable pub rule_fault : Rule → List ℕ → Option ℕ
rule_fault rule s = first_true 0 (in_each (tests rule) (deal (entries_of s) (rows_of s)))

-- 26 is asked where 25 finds nothing: `first` is what 25 finds
abbrev pub Before : Rule → Option ℕ → Type 0
Before Rows first = Unit {0}
Before Links first = first ≡ None

-- a document's rows are there, with k before them, and can be asked by a rule
pub record CanTest (rule : Rule) (b : Body) (k : ℕ) (s : List ℕ) : Type 0 where
  pub within : Within b s
  pub most : k + b.rows ≤ revisions_most
  pub before : Before rule (first_true 0 (bad_rows None (rows_in b s)))

-- all rows can be asked by a rule
pub record CanPass (rule : Rule) (s : List ℕ) : Type 0 where
  pub listed : Listed s
  pub before : Before rule (rule_fault Rows s)
