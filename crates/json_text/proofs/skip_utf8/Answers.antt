-- `json_text::skip_utf8` meets its contract. Assumes nothing.
use Rattle.json_text.specs.Grammar.{tail, utf8}
use Rattle.json_text.proofs.CharLaws.{exact_leads, utf8_two_lem, utf8_three_lem, utf8_four_lem}
use native.Mathlib.Omega.{arith}
use Rattle.json_text.proofs.skip_utf8.Goals as goal

pub returns-then-b-lt224 : goal.returns-then-b-lt224
unfolding tail
returns-then-b-lt224 c =
    let skip-ranges = c.skip_ranges in
    let b = c.peek-b in
    let a = c.args in
    let s = a.s.now in
    let e = b.ensures in
    exact_leads utf8 _ s a.at a.at (utf8_two_lem s a.at (omega arith)) skip-ranges.result skip-ranges.ensures

pub returns-then-b-lt240 : goal.returns-then-b-lt240
unfolding tail
returns-then-b-lt240 c =
    let skip-utf8-three = c.skip_utf8_three in
    let b = c.peek-b in
    let a = c.args in
    let s = a.s.now in
    let e = b.ensures in
    exact_leads utf8 _ s a.at a.at (utf8_three_lem s a.at (omega arith) (omega arith)) skip-utf8-three.result
    skip-utf8-three.ensures

pub returns : goal.returns
unfolding tail
returns c =
    let skip-utf8-four = c.skip_utf8_four in
    let b = c.peek-b in
    let a = c.args in
    let s = a.s.now in
    let e = b.ensures in
    exact_leads utf8 _ s a.at a.at (utf8_four_lem s a.at (omega arith)) skip-utf8-four.result
    skip-utf8-four.ensures
