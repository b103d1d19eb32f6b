-- `fields::put_hash` meets its contract. Assumes nothing.
use Rattle.std.proofs.Common.{sym, ◌∙◌}
use Rattle.fields.proofs.HashLaws.{none_taken, some_taken}
use Rattle.fields.proofs.put_hash.Goals as goal

pub returns-in_default : goal.returns-in_default
returns-in_default c = none_taken (sym c.read_hash.ensures ∙ c.in_default.is)

pub returns : goal.returns
returns c = some_taken (sym c.read_hash.ensures ∙ c.in-Some.is) c.put_hash.ensures.is
