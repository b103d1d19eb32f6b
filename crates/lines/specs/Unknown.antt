-- "Unknown members are passed over whatever they hold".
use Rattle.std.specs.Prelude.{Bool, ◌||◌, List, [], ◌∷◌, ℕ}
use Rattle.rules.specs.Choice.{pick}
use Rattle.lines.specs.Said.{is_name}

-- "`_id`, `_rev`, `_revisions` with `start` and `ids`, `_deleted`, and our member `label`"
unfoldable pub is_ours : List ℕ → Bool
is_ours t = is_name "_id" t || (is_name "_rev" t || (is_name "_revisions" t || (is_name "_deleted" t || is_name "label" t)))

-- a list of members without the unknown ones
unfoldable pub ours : {A : Type 0} → List (List ℕ × A) → List (List ℕ × A)
ours [] = []
ours (m ∷ ms) = pick (is_ours m.0) (m ∷ ours ms) (ours ms)
