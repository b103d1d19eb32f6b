-- `json_text::skip_some_digits` meets its contract. Assumes nothing.
use Rattle.json_text.specs.Grammar.{digit}
use Rattle.json_text.proofs.NumberLaws.{some_digits, here_yes, here_no}
use native.Mathlib.Omega.{arith}
use Rattle.json_text.proofs.skip_some_digits.Goals as goal

pub overflow_add-at : goal.overflow_add-at
overflow_add-at c =
    let if1 = c.if-digit_at in
    let digit_at = c.digit_at in
    let a = c.args in
    let w = here_yes digit a.s.now a.at digit_at.result digit_at.ensures if1.true in
    omega arith

pub skip_digits-requires : goal.skip_digits-requires
skip_digits-requires c =
    let if1 = c.if-digit_at in
    let digit_at = c.digit_at in
    let a = c.args in
    let w = here_yes digit a.s.now a.at digit_at.result digit_at.ensures if1.true in
    omega arith

pub returns-then-digit_at : goal.returns-then-digit_at
returns-then-digit_at c =
    let skip-digits = c.skip_digits in
    let if1 = c.if-digit_at in
    let digit_at = c.digit_at in
    let a = c.args in
    let s = a.s.now in
    let w = here_yes digit s a.at digit_at.result digit_at.ensures if1.true in
    some_digits s a.at w skip-digits.result skip-digits.ensures

pub returns : goal.returns
returns c =
    let if1 = c.if-digit_at in
    let digit_at = c.digit_at in
    let a = c.args in
    here_no digit a.s.now a.at digit_at.result digit_at.ensures if1.false
