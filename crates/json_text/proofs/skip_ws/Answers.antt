-- `json_text::skip_ws` meets its contract. Assumes nothing.
use Rattle.json_text.specs.Grammar.{ws, none, more}
use native.Mathlib.Omega.{arith}
use Rattle.json_text.proofs.WsLaws.{many_join}
use Rattle.json_text.proofs.skip_ws.Goals as goal

pub loop-i-init : goal.loop-i-init
unfolding ws
loop-i-init c = (omega arith, (omega arith, none))

pub overflow_add-i : goal.overflow_add-i
overflow_add-i c = let w = rw c.loop-i-test.true at c.white_at.ensures in omega arith

pub loop-i-smaller : goal.loop-i-smaller
loop-i-smaller c = let w = rw c.loop-i-test.true at c.white_at.ensures in omega arith

pub loop-i-preserved : goal.loop-i-preserved
unfolding ws
loop-i-preserved c =
    let if1 = c.loop-i-test in
    let white-at = c.white_at in
    let l = c.loop-i in
    let w = rw if1.true at white-at.ensures in
    (omega arith, (omega arith, many_join l.invariant.1.1 (more w.1 none)))

pub returns : goal.returns
returns c =
    let if1 = c.loop-i-test in
    let white-at = c.white_at in
    let l = c.loop-i in
    record {
      from = omega arith;
      within = omega arith;
      is = l.invariant.1.1;
      all = rw if1.false at white-at.ensures;
    }
