-- `read::revisions_held` meets its contract. Assumes nothing.
use mathlib.Core.Path.{◌∙◌}
use Rattle.store.proofs.EntryLaws.{standing}
use native.Mathlib.Omega.{arith}
use Rattle.store.proofs.read.revisions_held.Goals as goal

pub revisions-requires : goal.revisions-requires
revisions-requires c = let q = standing _ c.requires in omega arith

pub returns : goal.returns
returns c = c.revisions.ensures.is ∙ (standing _ c.requires).revisions
