-- `read::row_count` meets its contract. Assumes nothing.
use mathlib.Core.Path.{◌∙◌}
use Rattle.store.proofs.EntryLaws.{entry_held}
use Rattle.store.proofs.read.row_count.Goals as goal

pub rows-requires : goal.rows-requires
rows-requires c = (entry_held _ _ _ c.requires c.entry_place.ensures).within

pub returns : goal.returns
returns c = c.rows.ensures.is ∙ (entry_held _ _ _ c.requires c.entry_place.ensures).entry.rows
