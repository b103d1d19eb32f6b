-- `replica::earlier` meets its contract. Assumes nothing.
use Prim.Native.Nat.{◌<◌}
use native.Mathlib.Omega.{arith}
use Rattle.reads.proofs.NextLaws.{sooner_above}
use Rattle.reads.proofs.replica.earlier.Goals as goal

pub returns-in-Some : goal.returns-in-Some
returns-in-Some c =
    let q = c.args.q in
    let above : c.in-Some.p.0 < q.0 = omega (arith, c.if-p-q.true) in
    sooner_above _ _ _ _ _ _ c.if-q-after.false c.in-Some.is above
