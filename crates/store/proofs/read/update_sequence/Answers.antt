-- `read::update_sequence` meets its contract. Assumes nothing.
use mathlib.Core.Path.{◌∙◌}
use Rattle.store.proofs.EntryLaws.{standing}
use native.Mathlib.Omega.{arith}
use Rattle.store.proofs.read.update_sequence.Goals as goal

pub sequence-requires : goal.sequence-requires
sequence-requires c = let q = standing _ c.requires in omega arith

pub returns : goal.returns
returns c =
    let e = c.sequence.ensures.is ∙ (standing _ c.requires).seq in
    λ i. record { 0 = e i }
