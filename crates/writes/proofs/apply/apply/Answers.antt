-- `apply::apply` meets its contract: before each turn those from the k-th on are added. Assumes nothing.
use native.Mathlib.Omega.{arith}
use lib.ListN.{take, length-take}
use Rattle.writes.specs.Path.{gives_of}
use Rattle.writes.proofs.LearnLaws.{learning_start, path_can, path_next}
use Rattle.writes.proofs.apply.apply.Goals as goal

pub loop-k-init : goal.loop-k-init
loop-k-init c =
    let a = c.args in
    learning_start a.b.now a.d a.body (take a.m (gives_of a.number a.path.now a.content)) a.m (let n = c.requires.newest in simp length-take (omega arith)) c.requires.body

pub learn_row-place-requires : goal.learn_row-place-requires
learn_row-place-requires c = let l = c.loop-k in path_can c.requires l.k c.loop-k-test.true l.auto.k c.given.ensures l.invariant

pub loop-k-preserved : goal.loop-k-preserved
loop-k-preserved c =
    let l = c.loop-k in
    path_next c.requires l.k c.loop-k-test.true l.auto.k c.given.ensures l.invariant c.learn_row-place.ensures
