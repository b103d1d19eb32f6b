-- `json_text::skip_scalar` meets its contract. Assumes nothing.
use Rattle.json_text.specs.Skips.{NoText}
use Rattle.json_text.proofs.skip_scalar.Goals as goal

pub returns-in_err-e : goal.returns-in_err-e
returns-in_err-e c = rw c.from_residual.ensures c.in_err-e.ensures

pub returns : goal.returns
unfolding NoText
returns c = λ r p z. c.if-can_end.ensures (rw (c.in_ok-e.ensures.only r p z) at z)
