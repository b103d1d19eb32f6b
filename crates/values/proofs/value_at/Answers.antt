-- `values::value_at` meets its contract. Assumes nothing.
use Rattle.json_text.specs.Skips.{NoText}
use Rattle.values.proofs.value_at.Goals as goal

pub returns : goal.returns
unfolding NoText
returns c = λ r p z. c.if-can_end.ensures (rw (c.in_ok-e.ensures.only r p z) at z)
