-- `row::get_row` meets its contract. Assumes nothing.
use Rattle.tree.specs.Rows.{meaning, node_at, node_held, rev_at, row_at, row_from}
use Rattle.tree.proofs.row.get_row.Goals as goal

pub returns : goal.returns
unfolding rev_at node_at node_held meaning row_at row_from
returns c = cc (c.get_rev-rev.ensures, c.get_parent-parent.ensures, c.get_kind-content.ensures)
