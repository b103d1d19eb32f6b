-- `json_text::skip_utf8_three` meets its contract. Assumes nothing.
use Rattle.json_text.specs.Grammar.{tail, utf8_three}
use Rattle.json_text.proofs.CharLaws.{exact_leads, three_1, three_2, three_3, three_4}
use native.Mathlib.Omega.{arith}
use Rattle.json_text.proofs.skip_utf8_three.Goals as goal

pub returns-then-b-lt225 : goal.returns-then-b-lt225
unfolding tail
returns-then-b-lt225 c =
    let skip-ranges = c.skip_ranges in
    let b = c.peek-b in
    let a = c.args in
    let s = a.s.now in
    let e = b.ensures in
    exact_leads utf8_three _ s a.at a.at (three_1 s a.at (omega arith)) skip-ranges.result
    skip-ranges.ensures

pub returns-then-b-lt237 : goal.returns-then-b-lt237
unfolding tail
returns-then-b-lt237 c =
    let skip-ranges2 = c.skip_ranges-then-b-lt237 in
    let b = c.peek-b in
    let a = c.args in
    let s = a.s.now in
    let e = b.ensures in
    exact_leads utf8_three _ s a.at a.at (three_2 s a.at (omega arith) (omega arith)) skip-ranges2.result
    skip-ranges2.ensures

pub returns-then-b-lt238 : goal.returns-then-b-lt238
unfolding tail
returns-then-b-lt238 c =
    let skip-ranges3 = c.skip_ranges-then-b-lt238 in
    let b = c.peek-b in
    let a = c.args in
    let s = a.s.now in
    let e = b.ensures in
    exact_leads utf8_three _ s a.at a.at (three_3 s a.at (omega arith) (omega arith)) skip-ranges3.result
    skip-ranges3.ensures

pub returns : goal.returns
unfolding tail
returns c =
    let skip-ranges4 = c.skip_ranges-2 in
    let b = c.peek-b in
    let a = c.args in
    let s = a.s.now in
    let e = b.ensures in
    exact_leads utf8_three _ s a.at a.at (three_4 s a.at (omega arith)) skip-ranges4.result
    skip-ranges4.ensures
