-- All lines of a replica, and lines taken in one after the other.
use Rattle.std.specs.Prelude.{List, [], ◌∷◌, ◌++◌, map, false, ◌≡◌, ℕ, eqb}
use Rattle.rules.specs.declared.Refusal.{Refusal}
use Rattle.rules.specs.declared.Outcome.{Outcome}
use Rattle.std.specs.Prelude.{Result, Ok}
use Rattle.rules.specs.declared.Outcome.TheVariants.{Unchanged}
use Rattle.rules.specs.Choice.{pick}
use Rattle.rules.specs.Read.{leaves}
use Rattle.rules.specs.Replica.{Id, Document, Replica}
use Rattle.rules.specs.Union.{In, held, IsUnion, SameButSeq, IsAccepted}
use Rattle.lines.specs.Put.{leaf_line, lines_text}
use Rattle.lines.specs.Take.{unwritable, TakesIn}

-- "put a document's leaves out so, a line each, highest first"
unfoldable pub lines_of : Id × Document → List (List ℕ)
lines_of d = map (leaf_line d.0 d.1.tree) (leaves d.1.tree)

-- one document after the other
unfoldable pub lines_in : List (Id × Document) → List (List ℕ)
lines_in [] = []
lines_in (d ∷ ds) = lines_of d ++ lines_in ds

-- a text cut after each newline, as a caller cuts what is put out
abbrev pub before : ℕ → List (List ℕ) → List (List ℕ)
before c [] = (c ∷ []) ∷ []
before c (l ∷ ls) = (c ∷ l) ∷ ls

unfoldable pub cut_lines : List ℕ → List (List ℕ)
cut_lines [] = []
cut_lines (c ∷ t) = pick (eqb c 10) ((c ∷ []) ∷ cut_lines t) (before c (cut_lines t))

-- what the documents give, put out one after the other
unfoldable pub dump_text : List (Id × Document) → List ℕ
dump_text [] = []
dump_text (d ∷ ds) = lines_text d.0 d.1.tree ++ dump_text ds

-- no id of it is refused by 43
abbrev pub AllWritable : Replica → Type 0
AllWritable r = (d : Id × Document) → In d r.documents → unwritable d.0 ≡ false

-- lines taken in one after the other, each into what those before it left: their answers, and what is left
abbrev pub TakesAll : Replica → List (List ℕ) → List (Result Outcome Refusal) → Replica → Type 0
TakesAll r [] [] left = left ≡ r
TakesAll r [] (x ∷ xs) left = ⊥
TakesAll r (l ∷ ls) [] left = ⊥
TakesAll r (l ∷ ls) (x ∷ xs) left = (m : Replica) × TakesIn r l (x, m) × TakesAll m ls xs left

-- all lines of r were accepted, and left exactly the union of what r held, sequences aside
pub record Copied (r : Replica) (answers : List (Result Outcome Refusal)) (left : Replica) : Type 1 where
  pub accepted : (x : Result Outcome Refusal) → In x answers → IsAccepted x
  pub union : IsUnion left (held r)
  pub same : SameButSeq left r

-- none of them changed anything
pub record Stayed (r : Replica) (answers : List (Result Outcome Refusal)) (left : Replica) : Type 0 where
  pub unchanged : (x : Result Outcome Refusal) → In x answers → x ≡ Ok Unchanged
  pub same : left ≡ r
