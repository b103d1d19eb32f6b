-- `beside` meets its contract. Assumes nothing.
use native.Mathlib.Omega.{arith}
use lib.ListN.{length-take}
use mathlib.Core.Path.{ap}
use mathlib.Core.Bool.{not}
use Rattle.takes.proofs.RevisionsLaws.{beside_start, beside_none, beside_other, beside_same}
use Rattle.takes.proofs.beside.Goals as goal

pub returns-then-first-from : goal.returns-then-first-from
returns-then-first-from c = let a = c.args in beside_start a.rev a.first a.n a.path.now _ c.from.ensures c.if-first-from.true

pub returns-then-n-eq0 : goal.returns-then-n-eq0
returns-then-n-eq0 c = let a = c.args in beside_none a.rev a.first a.n a.path.now _ c.from.ensures c.if-first-from.false c.if-n-eq0.true

pub slice_bounds-same_bytes-end-2 : goal.slice_bounds-same_bytes-end-2
slice_bounds-same_bytes-end-2 c = simp length-take (omega (arith, c.requires))

pub returns-then-not-same_bytes : goal.returns-then-not-same_bytes
returns-then-not-same_bytes c =
    let a = c.args in beside_other a.rev a.first a.n a.path.now _ c.from.ensures c.if-first-from.false c.if-n-eq0.false
    c.same_bytes.result c.same_bytes.ensures (ap not c.if-not-same_bytes.true)

pub returns : goal.returns
returns c =
    let a = c.args in beside_same a.rev a.first a.n a.path.now _ c.from.ensures c.if-first-from.false c.if-n-eq0.false
    c.same_bytes.result c.same_bytes.ensures (ap not c.if-not-same_bytes.false)
