-- `json_text::skip_plain` meets its contract. Assumes nothing.
use native.Mathlib.Omega.{arith}
use Rattle.json_text.proofs.PlainLaws.{plain_next}
use Rattle.json_text.proofs.skip_plain.Goals as goal

pub loop-i-init : goal.loop-i-init
loop-i-init c = c.skip_blocks-i.ensures

pub overflow_add-i : goal.overflow_add-i
overflow_add-i c =
    let l = c.loop-i in
    let a = c.args in
    let b = c.peek in
    let t = c.is_plain in
    let m = plain_next a.s.now a.at l.i b.result l.invariant b.ensures t.result t.ensures c.loop-i-test.true in
    omega (arith, m.within)

pub loop-i-smaller : goal.loop-i-smaller
loop-i-smaller c =
    let l = c.loop-i in
    let a = c.args in
    let b = c.peek in
    let t = c.is_plain in
    let m = plain_next a.s.now a.at l.i b.result l.invariant b.ensures t.result t.ensures c.loop-i-test.true in
    omega (arith, m.within)

pub loop-i-preserved : goal.loop-i-preserved
loop-i-preserved c =
    let l = c.loop-i in
    let a = c.args in
    let b = c.peek in
    let t = c.is_plain in
    plain_next a.s.now a.at l.i b.result l.invariant b.ensures t.result t.ensures c.loop-i-test.true

pub returns : goal.returns
returns c = c.loop-i.invariant
