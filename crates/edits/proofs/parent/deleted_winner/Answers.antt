-- `parent::deleted_winner` meets its contract. Assumes nothing.
use Rattle.std.proofs.Common.{sym, ◌∙◌}
use Rattle.edits.proofs.ParentLaws.{nobody_wins, live_wins, deletion_wins_lem}
use Rattle.edits.proofs.parent.deleted_winner.Goals as goal

pub returns-in_err-leaf : goal.returns-in_err-leaf
returns-in_err-leaf c = rw c.from_residual.ensures (nobody_wins _ (sym c.in_err-leaf.was ∙ c.winner_of.ensures))

pub returns-in-Live : goal.returns-in-Live
returns-in-Live c = live_wins _ (sym c.in_ok-leaf.was ∙ c.winner_of.ensures) c.in-Live.is

pub returns-in-Deleted : goal.returns-in-Deleted
returns-in-Deleted c = deletion_wins_lem _ (sym c.in_ok-leaf.was ∙ c.winner_of.ensures) c.in-Deleted.is
