-- `document::answer_leaves` meets its contract. Assumes nothing.
use native.Mathlib.Omega.{arith}
use Rattle.tree.specs.Table.{tree_in}
use Rattle.tree.proofs.TableLaws.{length-tree}
use Rattle.reads.proofs.TreeLaws.{leaves_most}
use Rattle.reads.proofs.DocumentLaws.{leaves_short, leaves_answers}
use Rattle.reads.proofs.document.answer_leaves.Goals as goal

pub leaf_count-count-requires : goal.leaf_count-count-requires
leaf_count-count-requires c = c.requires.rows.within

pub overflow_mul-count : goal.overflow_mul-count
overflow_mul-count c =
    let b = c.args.body in
    let l = leaves_most (tree_in b c.args.b.now) in
    let z = length-tree b.base b.rows c.args.b.now in
    record { fits = omega (arith, c.leaf_count-count.ensures, c.requires.rows.within, c.well_formed) }

pub returns-then-out-count : goal.returns-then-out-count
returns-then-out-count c = leaves_short c.requires.is _ c.leaf_count-count.ensures c.if-out-count.true

pub put_leaves-requires : goal.put_leaves-requires
put_leaves-requires c = record { within = c.requires.rows.within; room = omega (arith, c.leaf_count-count.ensures, c.if-out-count.false) }

pub returns : goal.returns
returns c = leaves_answers c.requires.is _ c.leaf_count-count.ensures c.if-out-count.false c.put_leaves.ensures
