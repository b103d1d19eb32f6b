-- `table::insert_row` meets its contract. Assumes nothing.
use mathlib.Core.Path.{◌∙◌, ap}
use Rattle.octets.specs.Splice.{splice}
use Rattle.tree.specs.Rows.{meaning, stored_row}
use Rattle.tree.specs.Table.{insert_bytes}
use Rattle.tree.proofs.table.insert_row.Goals as goal

pub returns : goal.returns
unfolding insert_bytes
returns c =
    let a = c.args in
    let p = c.put_row.ensures in
    record { is = p.is ∙ ap (λ l. splice l a.at (stored_row (meaning a.row))) c.move_up.ensures; fits = p.fits }
