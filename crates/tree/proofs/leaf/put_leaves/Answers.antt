-- `leaf::put_leaves` meets its contract. Assumes nothing.
use mathlib.Core.Path.{ap}
use native.Mathlib.Omega.{arith}
use Rattle.rules.specs.Read.{leaves}
use Rattle.tree.proofs.LeafLaws.{leaf_put, leaf_room, rest_all, row_passed, written_none}
use Rattle.tree.proofs.leaf.put_leaves.Goals as goal

pub loop-i-init : goal.loop-i-init
loop-i-init c = let a = c.args in written_none a.body a.s.now a.out.now

pub put_leaf-requires : goal.put_leaf-requires
put_leaf-requires c =
    let l = c.loop-i in leaf_room c.args.body l.i c.args.s.now c.loop-i-test.true l.auto.i c.row_at-row.ensures l.invariant c.in-Some.is l.auto.out c.requires.room

pub overflow_add-at : goal.overflow_add-at
overflow_add-at c =
    let l = c.loop-i in
    let room = leaf_room c.args.body l.i c.args.s.now c.loop-i-test.true l.auto.i c.row_at-row.ensures l.invariant c.in-Some.is l.auto.out c.requires.room in
    omega (arith, room, l.auto.out)

pub loop-i-preserved-in-Some : goal.loop-i-preserved-in-Some
loop-i-preserved-in-Some c =
    let l = c.loop-i in
    let room = leaf_room c.args.body l.i c.args.s.now c.loop-i-test.true l.auto.i c.row_at-row.ensures l.invariant c.in-Some.is l.auto.out c.requires.room in
    leaf_put c.args.body l.i c.args.s.now c.loop-i-test.true l.auto.i c.row_at-row.ensures l.invariant c.in-Some.is l.auto.out room c.put_leaf.ensures

pub loop-i-preserved : goal.loop-i-preserved
loop-i-preserved c =
    let l = c.loop-i in row_passed c.args.body l.i c.args.s.now c.loop-i-test.true l.auto.i c.row_at-row.ensures l.invariant c.in_default.is

pub returns : goal.returns
returns c =
    let a = c.args in
    let l = c.loop-i in
    let w = l.invariant in
    let e = ap leaves (rest_all a.body l.i a.s.now (omega arith)) in
    record { is = rw e at w.is; size = rw e at w.size }
