-- `document::check_id` meets its contract. Assumes nothing.
use mathlib.Core.Path.{sym, ◌∙◌}
use Rattle.reads.proofs.OpenLaws.{id_refused, id_good}
use Rattle.reads.proofs.document.check_id.Goals as goal

pub returns-then-bad_id : goal.returns-then-bad_id
returns-then-bad_id c = id_refused (sym c.bad_id.ensures ∙ c.if-bad_id.true)

pub returns : goal.returns
returns c = id_good (sym c.bad_id.ensures ∙ c.if-bad_id.false)
