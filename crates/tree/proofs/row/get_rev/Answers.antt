-- `row::get_rev` meets its contract. Assumes nothing.
use mathlib.Core.Path.{◌∙◌}
use Rattle.rules.proofs.OrderLaws.{rev_path}
use Rattle.tree.proofs.RowLaws.{rev_is}
use Rattle.tree.proofs.row.get_rev.Goals as goal

pub returns : goal.returns
returns c =
    let a = c.args in
    rev_path _ _ c.number-number.ensures.is c.hash-hash.ensures.is ∙ rev_is a.at a.s.now
