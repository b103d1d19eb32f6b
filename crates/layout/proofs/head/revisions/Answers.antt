-- `head::revisions` meets its contract. Assumes nothing.
use Rattle.rules.specs.Layout.{head_of}
use Rattle.layout.proofs.head.revisions.Goals as goal

pub returns : goal.returns
unfolding head_of
returns c = record { is = c.get2.ensures.is; small = c.get2.ensures.small }
