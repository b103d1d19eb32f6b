-- `row::get_kind` meets its contract. Assumes nothing.
use Rattle.tree.specs.Rows.{row_at, row_from}
use Rattle.tree.proofs.row.get_kind.Goals as goal

pub returns : goal.returns
unfolding row_at row_from
returns c = cc (c.kind.ensures.is, c.label.ensures.is, c.kind_of.ensures)
