-- `fields::pairs` meets its contract. Assumes nothing.
use mathlib.Core.Path.{refl}
use Prim.Native.Nat.{◌+◌}
use native.Mathlib.Omega.{arith}
use lib.ListN.{length-set}
use Rattle.fields.specs.Fields.{pairs, Small}
use Rattle.fields.proofs.HashLaws.{lay_more, lay_done}
use Rattle.fields.proofs.pairs.Goals as goal

pub loop-i-init : goal.loop-i-init
unfolding pairs
loop-i-init c = (refl, refl)

pub overflow_mul-hash : goal.overflow_mul-hash
unfolding Small
overflow_mul-hash c = let i = c.loop-i.i in omega (arith, c.requires (i + i))

pub overflow_add-hash-in-loop-i-3 : goal.overflow_add-hash-in-loop-i-3
unfolding Small
overflow_add-hash-in-loop-i-3 c = let i = c.loop-i.i in omega (arith, c.requires (i + i), c.requires (i + i + 1))

pub loop-i-preserved : goal.loop-i-preserved
loop-i-preserved c =
    let l = c.loop-i in
    (simp length-set l.invariant.0, lay_more c.args.values.now l.hash l.i (omega arith) l.invariant.0 (omega arith) l.invariant.1)

pub returns : goal.returns
returns c =
    let l = c.loop-i in
    lay_done c.args.values.now l.hash _ (omega arith) (omega arith) l.invariant.1
