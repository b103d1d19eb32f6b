-- `path::parent_of` meets its contract. Assumes nothing.
use Rattle.tree.proofs.PathLaws.{first_row, no_parent, its_parent}
use Rattle.tree.proofs.path.parent_of.Goals as goal

pub returns-then-number-lt2 : goal.returns-then-number-lt2
returns-then-number-lt2 c =
    let a = c.args in
    first_row a.base a.i a.s.now c.row_at-row.result c.row_at-row.ensures c.if-number-lt2.true

pub returns-in_err-hash : goal.returns-in_err-hash
returns-in_err-hash c =
    let a = c.args in
    rw c.from_residual.ensures (no_parent a.base a.i a.s.now c.row_at-row.result c.row_at-row.ensures c.in_err-hash.was)

pub returns : goal.returns
returns c =
    let a = c.args in
    its_parent a.base a.i a.s.now c.row_at-row.result c.row_at-row.ensures c.if-number-lt2.false c.in_ok-hash.was
