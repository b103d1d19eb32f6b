-- `fields::is_true` meets its contract. Assumes nothing.
use Rattle.rules.specs.Report.{text}
use Rattle.fields.proofs.is_true.Goals as goal

pub returns : goal.returns
unfolding text
returns c = c.same_bytes.ensures
