-- `json_text::skip_blocks` meets its contract. Assumes nothing.
use mathlib.Core.Path.{refl}
use Prim.Native.Nat.{◌+◌}
use native.Mathlib.Omega.{arith}
use Rattle.json_text.specs.Skips.{PlainTo}
use Rattle.json_text.proofs.PlainLaws.{plain_none, plain_join, so}
use Rattle.json_text.proofs.skip_blocks.Goals as goal

pub loop-i-init : goal.loop-i-init
loop-i-init c = let a = c.args in plain_none a.s.now a.at a.at refl (omega arith)

pub plain_block-requires : goal.plain_block-requires
plain_block-requires c = c.loop-i.invariant.within

pub overflow_add-i : goal.overflow_add-i
overflow_add-i c =
    let s = c.args.s.now in
    let i = c.loop-i.i in
    let b = c.plain_block in
    let p = so (PlainTo s i (i + 16)) b.result b.ensures c.loop-i-test.true in
    omega (arith, p.within)

pub loop-i-smaller : goal.loop-i-smaller
loop-i-smaller c =
    let s = c.args.s.now in
    let i = c.loop-i.i in
    let b = c.plain_block in
    let p = so (PlainTo s i (i + 16)) b.result b.ensures c.loop-i-test.true in
    omega (arith, p.within)

pub loop-i-preserved : goal.loop-i-preserved
loop-i-preserved c =
    let b = c.plain_block in
    let l = c.loop-i in
    let a = c.args in
    let p = so (PlainTo a.s.now l.i (l.i + 16)) b.result b.ensures c.loop-i-test.true in
    plain_join a.s.now a.at l.i (l.i + 16) l.invariant p

pub returns : goal.returns
returns c = c.loop-i.invariant
