-- `row::put_marks` meets its contract. Assumes nothing.
use mathlib.Core.Path.{◌∙◌}
use native.Mathlib.Omega.{arith}
use lib.ListN.{length-set}
use Rattle.tree.proofs.RowLaws.{marks_written}
use Rattle.tree.proofs.row.put_marks.Goals as goal

pub bounds-s-at-2 : goal.bounds-s-at-2
bounds-s-at-2 c = simp length-set (omega arith)

pub put2-requires : goal.put2-requires
put2-requires c = simp length-set (omega arith)

pub returns : goal.returns
returns c =
    let a = c.args in
    c.put2.ensures ∙ marks_written a.s.now a.at a.kind a.flag (omega arith)
