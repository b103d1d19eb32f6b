-- "Proved examples": the fourteen cases as one table of data.
use Rattle.std.specs.Prelude.{List, [], ◌∷◌, map, ℕ, replicate, get_or}
use Rattle.rules.specs.declared.Refusal.{Refusal}
use Rattle.rules.specs.declared.Outcome.{Outcome}
use Rattle.std.specs.Prelude.{Result}
use Rattle.std.specs.Prelude.{Option, None, Some}
use Rattle.rules.specs.declared.Content.{Content}
use Rattle.rules.specs.declared.Content.TheVariants.{Live, Deleted}
use Rattle.rules.specs.Answer.{Numbered, accepted, refused, written_number, answered_number}
use Rattle.rules.specs.Bytes.{join}
use Rattle.rules.specs.Choice.{maybe}
use Rattle.rules.specs.Image.{save}
use Rattle.rules.specs.Read.{LeafOf, leaves, winner}
use Rattle.rules.specs.Replica.{Id, Hash, Replica, fresh, tree_of}
use Rattle.rules.specs.Write.{Write, write}

-- document "lot"
abbrev pub lot : Id
lot = 0x6c ∷ 0x6f ∷ 0x74 ∷ []

-- "A hash is written as its first byte, the rest zeros."
abbrev pub hash : ℕ → Hash
hash b = b ∷ replicate 15 0

-- N-[bytes] with a content, on a document
abbrev pub on : Id → ℕ → List ℕ → Content → Write
on i n bs c = record { id = i; number = record { 0 = n }; path = join (map hash bs); content = c }

pub data Step : Type 0 where
  -- a write on what the step before left
  then : Write → Step
  -- "fresh:" and then a write
  anew : Write → Step
  -- "fresh saved"
  fresh_saved : Step

-- what is seen after a step: the answer in its number and value, the update sequence, and of document
-- "lot" the leaves, highest first, and the winner, each as number and first byte; or the answer and the
-- bytes of a save
pub data Seen : Type 0 where
  wrote : Numbered → ℕ → List (ℕ × ℕ) → Option (ℕ × ℕ) → Seen
  saved : Numbered → List ℕ → Seen

-- as the table words it
abbrev pub changed : Numbered
changed = accepted 1

abbrev pub unchanged : Numbered
unchanged = accepted 0

abbrev pub short : LeafOf → ℕ × ℕ
short a = (a.rev.number.0, get_or a.rev.hash 0 0)

unfoldable pub shorts : List LeafOf → List (ℕ × ℕ)
shorts [] = []
shorts (a ∷ more) = short a ∷ shorts more

unfoldable pub look : Result Outcome Refusal × Replica → Seen
look o =
    wrote (written_number o.0) o.1.seq.0 (shorts (leaves (tree_of o.1 lot)))
    (maybe None (λ a. Some (short a)) (winner (tree_of o.1 lot)))

-- the steps one after the other, each with what is seen
unfoldable pub play : Replica → List Step → List Seen
play r [] = []
play r (then w ∷ steps) = let o = write r w in look o ∷ play o.1 steps
play r (anew w ∷ steps) = let o = write fresh w in look o ∷ play o.1 steps
play r (fresh_saved ∷ steps) = let o = save fresh (replicate 16 0xee) in saved (answered_number o.0) o.1 ∷ play fresh steps

-- the case, its step and what is to be seen
abbrev pub Example : Type 0
Example = ℕ × Step × Seen

unfoldable pub table : List Example
table =
    (1, anew (on lot 1 (0x20 ∷ []) (Live 7)), wrote changed 1 ((1, 0x20) ∷ []) (Some (1, 0x20)))
    ∷ (2, then (on lot 2 (0x91 ∷ 0x20 ∷ []) (Live 8)), wrote changed 2 ((2, 0x91) ∷ []) (Some (2, 0x91)))
    ∷ (3, then (on lot 2 (0x4c ∷ 0x20 ∷ []) (Live 9)), wrote changed 3 ((2, 0x91) ∷ (2, 0x4c) ∷ []) (Some (2, 0x91)))
    ∷ (4, then (on lot 2 (0x4c ∷ 0x20 ∷ []) (Live 9)), wrote unchanged 3 ((2, 0x91) ∷ (2, 0x4c) ∷ []) (Some (2, 0x91)))
    ∷ (5, then (on lot 3 (0x05 ∷ 0x91 ∷ 0x20 ∷ []) Deleted), wrote changed 4 ((3, 0x05) ∷ (2, 0x4c) ∷ []) (Some (2, 0x4c)))
    ∷ (6, then (on lot 2 (0x4c ∷ 0x33 ∷ []) (Live 9)), wrote (refused 4) 4 ((3, 0x05) ∷ (2, 0x4c) ∷ []) (Some (2, 0x4c)))
    ∷ (7, then (on lot 2 (0x4c ∷ 0x20 ∷ []) (Live 10)), wrote (refused 5) 4 ((3, 0x05) ∷ (2, 0x4c) ∷ []) (Some (2, 0x4c)))
    ∷ (8, then (on lot 1 (0x20 ∷ []) Deleted), wrote unchanged 4 ((3, 0x05) ∷ (2, 0x4c) ∷ []) (Some (2, 0x4c)))
    ∷ (9, anew (on lot 3 (0x70 ∷ []) (Live 1)), wrote changed 1 ((3, 0x70) ∷ []) (Some (3, 0x70)))
    ∷ (9, then (on lot 2 (0x61 ∷ []) (Live 2)), wrote changed 2 ((3, 0x70) ∷ (2, 0x61) ∷ []) (Some (3, 0x70)))
    ∷ (10, then (on lot 3 (0x70 ∷ 0x61 ∷ []) (Live 1)), wrote changed 3 ((3, 0x70) ∷ []) (Some (3, 0x70)))
    ∷ (11, anew (on lot 9 (0xaa ∷ []) (Live 1)), wrote changed 1 ((9, 0xaa) ∷ []) (Some (9, 0xaa)))
    ∷ (11, then (on lot 10 (0x01 ∷ []) (Live 1)), wrote changed 2 ((10, 0x01) ∷ (9, 0xaa) ∷ []) (Some (10, 0x01)))
    ∷ (12, anew (on lot 2 (0x10 ∷ []) Deleted), wrote changed 1 ((2, 0x10) ∷ []) (Some (2, 0x10)))
    ∷ (12, then (on lot 2 (0x20 ∷ []) Deleted), wrote changed 2 ((2, 0x20) ∷ (2, 0x10) ∷ []) (Some (2, 0x20)))
    ∷ (13, anew (on lot 2 (0x0a ∷ 0x0b ∷ 0x0c ∷ []) (Live 1)), wrote (refused 3) 0 [] None)
    ∷ (13, anew (on lot 0 (0x0a ∷ []) (Live 1)), wrote (refused 3) 0 [] None)
    ∷ (14, fresh_saved, saved (accepted 16) (0 ∷ 1 ∷ 0 ∷ 0 ∷ 0 ∷ 0 ∷ 0 ∷ 0 ∷ 0 ∷ 0 ∷ 0 ∷ 0 ∷ 0 ∷ 0 ∷ 0 ∷ 16 ∷ []))
    ∷ []

unfoldable pub steps_of : List Example → List Step
steps_of [] = []
steps_of (e ∷ es) = e.1 ∷ steps_of es

unfoldable pub seen_of : List Example → List Seen
seen_of [] = []
seen_of (e ∷ es) = e.2 ∷ seen_of es
