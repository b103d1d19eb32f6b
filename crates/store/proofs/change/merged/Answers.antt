-- `change::merged` meets its contract. Assumes nothing.
use mathlib.Core.Path.{◌∙◌}
use Rattle.store.proofs.LearnLaws.{merged_means}
use Rattle.store.proofs.change.merged.Goals as goal

pub returns : goal.returns
returns c = rw (c.or-parent.ensures, c.and-content.ensures) (merged_means _ _ c.requires)
