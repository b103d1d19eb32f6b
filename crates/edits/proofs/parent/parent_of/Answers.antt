-- `parent::parent_of` meets its contract. Assumes nothing.
use mathlib.Core.Path.{◌∙◌}
use Rattle.edits.proofs.ParentLaws.{parent_named_lem, parent_wins}
use Rattle.edits.proofs.parent.parent_of.Goals as goal

pub returns-in-Some : goal.returns-in-Some
returns-in-Some c = λ e on. parent_named_lem on _ c.in-Some.is

pub returns-in-None : goal.returns-in-None
returns-in-None c = λ e on. c.deleted_winner.ensures ∙ parent_wins on c.in-None.is
