-- `leaf::put_leaf` meets its contract. Assumes nothing.
use mathlib.Core.Path.{◌∙◌}
use native.Mathlib.Omega.{arith}
use lib.ListN.{length-set}
use Rattle.tree.proofs.LeafLaws.{leaf_written, length_leaf}
use Rattle.tree.proofs.leaf.put_leaf.Goals as goal

pub put8-requires : goal.put8-requires
put8-requires c = simp length-set (omega arith)

pub returns : goal.returns
returns c =
    let a = c.args in
    let h = c.put_hash.ensures.size in
    let written = leaf_written a.out.now a.at a.leaf h (omega (arith, c.requires)) in
    record {
      is = c.put8.ensures.is ∙ rw (c.content_label.ensures, c.content_kind.ensures, c.put_hash.ensures.is, c.put4.ensures.is) written;
      size = length_leaf a.leaf h;
    }
