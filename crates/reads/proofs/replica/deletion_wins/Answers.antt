-- `replica::deletion_wins` meets its contract. Assumes nothing.
use mathlib.Core.Path.{sym, ap, ◌∙◌}
use Rattle.rules.specs.Read.{is_deletion}
use Rattle.reads.proofs.DocumentLaws.{deletes}
use Rattle.reads.proofs.replica.deletion_wins.Goals as goal

pub returns-in_default : goal.returns-in_default
returns-in_default c = sym (deletes _ (sym c.in_default.is ∙ c.winner_of.ensures))

pub returns-in-Live : goal.returns-in-Live
returns-in-Live c = sym (deletes _ (sym c.in-Some.is ∙ c.winner_of.ensures) ∙ ap is_deletion c.in-Live.is)

pub returns-in-Deleted : goal.returns-in-Deleted
returns-in-Deleted c = sym (deletes _ (sym c.in-Some.is ∙ c.winner_of.ensures) ∙ ap is_deletion c.in-Deleted.is)
