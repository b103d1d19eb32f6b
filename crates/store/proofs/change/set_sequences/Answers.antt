-- `change::set_sequences` meets its contract. Assumes nothing.
use Rattle.store.proofs.EntryLaws.{standing, entry_held}
use Rattle.store.proofs.ChangeLaws.{seq_holds}
use native.Mathlib.Omega.{arith}
use Rattle.store.proofs.change.set_sequences.Goals as goal

pub put_own-requires : goal.put_own-requires
put_own-requires c = (entry_held _ _ _ c.requires c.entry_place.ensures).within

pub put_sequence-requires : goal.put_sequence-requires
put_sequence-requires c =
    let q = standing _ c.requires.laid in
    omega (arith, c.b-1.given)

pub returns : goal.returns
returns c = seq_holds _ _ _ _ _ _ c.requires (omega (arith, c.well_formed)) c.entry_place.ensures c.put_own.ensures.is c.put_sequence.ensures.is
