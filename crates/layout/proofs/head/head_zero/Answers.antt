-- `head::head_zero` meets its contract. Assumes nothing.
use Rattle.rules.specs.Layout.{head_of}
use Rattle.layout.proofs.head.head_zero.Goals as goal

pub returns : goal.returns
unfolding head_of
returns c = record { is = c.get2.ensures.is; small = c.get2.ensures.small }
