-- `read::id_of` meets its contract. Assumes nothing.
use mathlib.Core.Path.{◌∙◌}
use Rattle.store.proofs.EntryLaws.{entry_held}
use native.Mathlib.Omega.{arith}
use Rattle.store.proofs.read.id_of.Goals as goal

pub id-requires : goal.id-requires
id-requires c =
    let e = entry_held _ _ _ c.requires c.entry_place.ensures in
    record { within = e.within; most = omega (arith, e.entry.size, e.fits.id) }

pub returns : goal.returns
returns c = c.id.ensures ∙ (entry_held _ _ _ c.requires c.entry_place.ensures).entry.id
