-- `json_text::skip_utf8_four` meets its contract. Assumes nothing.
use Rattle.json_text.specs.Grammar.{tail, utf8_four}
use Rattle.json_text.proofs.CharLaws.{exact_leads, four_1, four_2, four_3}
use native.Mathlib.Omega.{arith}
use Rattle.json_text.proofs.skip_utf8_four.Goals as goal

pub returns-then-b-lt241 : goal.returns-then-b-lt241
unfolding tail
returns-then-b-lt241 c =
    let skip-ranges = c.skip_ranges in
    let b = c.peek-b in
    let a = c.args in
    let s = a.s.now in
    let e = b.ensures in
    exact_leads utf8_four _ s a.at a.at (four_1 s a.at (omega arith)) skip-ranges.result skip-ranges.ensures

pub returns-then-b-lt244 : goal.returns-then-b-lt244
unfolding tail
returns-then-b-lt244 c =
    let skip-ranges2 = c.skip_ranges-then-b-lt244 in
    let b = c.peek-b in
    let a = c.args in
    let s = a.s.now in
    let e = b.ensures in
    exact_leads utf8_four _ s a.at a.at (four_2 s a.at (omega arith) (omega arith)) skip-ranges2.result
    skip-ranges2.ensures

pub returns : goal.returns
unfolding tail
returns c =
    let skip-ranges3 = c.skip_ranges-2 in
    let b = c.peek-b in
    let a = c.args in
    let s = a.s.now in
    let e = b.ensures in
    exact_leads utf8_four _ s a.at a.at (four_3 s a.at (omega arith)) skip-ranges3.result
    skip-ranges3.ensures
