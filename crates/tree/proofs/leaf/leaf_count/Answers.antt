-- `leaf::leaf_count` meets its contract. Assumes nothing.
use mathlib.Core.Path.{◌∙◌, ap, sym}
use native.Mathlib.Omega.{arith}
use Rattle.std.specs.Prelude.{is_some}
use Rattle.tree.proofs.LeafLaws.{count_inner, count_leaf, count_none}
use Rattle.tree.proofs.leaf.leaf_count.Goals.{then-is_some, else-is_some}
use Rattle.tree.proofs.leaf.leaf_count.Goals as goal

pub loop-i-init : goal.loop-i-init
loop-i-init c = let a = c.args in (omega arith, sym (count_none a.body.base a.s.now))

pub loop-i-preserved : goal.loop-i-preserved
loop-i-preserved c =
    let a = c.args in
    let l = c.loop-i in
    let k = ap is_some (sym c.kind_at.ensures) ∙ sym c.is_some.ensures in
    elim c.if-is_some.branch [
      | then-is_some w ↦ let n = w.count-is in let m = count_leaf a.body.base l.i a.s.now (k ∙ w.if-is_some.true) in (omega arith, omega arith)
      | else-is_some w ↦ let n = w.count-is in let m = count_inner a.body.base l.i a.s.now (k ∙ w.if-is_some.false) in (omega arith, omega arith)
    ]
