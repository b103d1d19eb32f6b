-- `table::is_missing` meets its contract. Assumes nothing.
use mathlib.Core.Path.{◌∙◌, ap}
use Rattle.std.specs.Prelude.{is_err}
use Rattle.tree.proofs.PlaceLaws.{place_missing}
use Rattle.tree.specs.Table.{tree_in}
use Rattle.tree.proofs.table.is_missing.Goals as goal

pub returns : goal.returns
returns c = let a = c.args in c.is_err.ensures.value ∙ (ap is_err c.find.ensures ∙ place_missing a.rev (tree_in a.body a.s.now))
