-- `json_text::skip_ranges` meets its contract. Assumes nothing.
use native.Mathlib.Omega.{arith}
use Rattle.json_text.proofs.CharLaws.{turns_next, turns_wrong}
use Rattle.json_text.proofs.skip_ranges.Goals as goal

pub returns-then-not-in_range : goal.returns-then-not-in_range
returns-then-not-in_range c =
    let l = c.loop-r in
    let a = c.args in
    turns_wrong a.ranges.now l.r-index c.loop-r-test.true a.s.now a.at l.i l.invariant.leads c.if-not-in_range.ensures

pub loop-r-preserved : goal.loop-r-preserved
loop-r-preserved c =
    let l = c.loop-r in
    let a = c.args in
    let y = c.if-not-in_range.ensures in
    record {
      place = omega arith;
      within = λ h. omega (arith, y.0);
      leads = turns_next a.ranges.now l.r-index c.loop-r-test.true a.s.now a.at l.i l.invariant.leads c.requires.1 y;
    }
