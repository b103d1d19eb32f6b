-- `change::blank_entry` meets its contract. Assumes nothing.
use mathlib.Core.Path.{refl}
use Rattle.store.proofs.RoundLaws.{blank_bytes}
use Rattle.store.proofs.change.blank_entry.Goals as goal

pub returns : goal.returns
returns c = blank_bytes _ _ _ c.requires refl c.copy_in.ensures
