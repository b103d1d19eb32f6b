-- `read::own_sequence` meets its contract. Assumes nothing.
use mathlib.Core.Path.{◌∙◌}
use Rattle.store.proofs.EntryLaws.{entry_held}
use Rattle.store.proofs.read.own_sequence.Goals as goal

pub own-requires : goal.own-requires
own-requires c = (entry_held _ _ _ c.requires c.entry_place.ensures).within

pub returns : goal.returns
returns c =
    let e = c.own.ensures.is ∙ (entry_held _ _ _ c.requires c.entry_place.ensures).entry.seq in
    λ i. record { 0 = e i }
