-- `head::total` meets its contract. Assumes nothing.
use Rattle.rules.specs.Layout.{head_of}
use Rattle.layout.proofs.head.total.Goals as goal

pub returns : goal.returns
unfolding head_of
returns c = record { is = c.get4.ensures.is; small = c.get4.ensures.small }
