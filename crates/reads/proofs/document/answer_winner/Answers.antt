-- `document::answer_winner` meets its contract. Assumes nothing.
use mathlib.Core.Path.{sym, ◌∙◌}
use Rattle.reads.proofs.DocumentLaws.{winner_none, winner_short, winner_answers}
use Rattle.reads.proofs.document.answer_winner.Goals as goal

pub winner_of-requires : goal.winner_of-requires
winner_of-requires c = c.requires.rows

pub returns-in_default : goal.returns-in_default
returns-in_default c = winner_none _ _ (sym c.in_default.is ∙ c.winner_of.ensures)

pub returns-then-out-lt-LEAF : goal.returns-then-out-lt-LEAF
returns-then-out-lt-LEAF c = winner_short _ _ c.requires.is (sym c.in-Some.is ∙ c.winner_of.ensures) c.if-out-lt-LEAF.true

pub returns : goal.returns
returns c = winner_answers _ _ c.requires.is (sym c.in-Some.is ∙ c.winner_of.ensures) c.if-out-lt-LEAF.false c.put_leaf.ensures.is
