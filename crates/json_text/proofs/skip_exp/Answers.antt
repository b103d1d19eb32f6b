-- `json_text::skip_exp` meets its contract. Assumes nothing.
use Prim.Native.Nat.{◌+◌}
use Rattle.json_text.specs.Grammar.{byte, ◌or◌, option, some, digit, exp}
use Rattle.json_text.proofs.StepLaws.{skips_runs}
use Rattle.json_text.proofs.NumberLaws.{some_skips, exp_none, exp_signed, exp_plain, here_yes, here_no, next_next}
use native.Mathlib.Omega.{arith}
use Rattle.json_text.proofs.skip_exp.Goals as goal

pub overflow_add-at : goal.overflow_add-at
overflow_add-at c =
    let if1 = c.if-one_of in
    let one_of_lem = c.one_of in
    let a = c.args in
    let w = here_yes (byte 101 or byte 69) a.s.now a.at one_of_lem.result one_of_lem.ensures if1.true in
    omega arith

pub overflow_add-at-then-one_of-2 : goal.overflow_add-at-then-one_of-2
overflow_add-at-then-one_of-2 c =
    let if2 = c.if-one_of-2 in
    let one-of2 = c.one_of-then-one_of in
    let if1 = c.if-one_of in
    let one_of_lem = c.one_of in
    let a = c.args in
    let s = a.s.now in
    let w = here_yes (byte 101 or byte 69) s a.at one_of_lem.result one_of_lem.ensures if1.true in
    let v = here_yes (byte 45 or byte 43) s (a.at + 1) one-of2.result one-of2.ensures if2.true in
    omega arith

pub returns-then-one_of-2 : goal.returns-then-one_of-2
returns-then-one_of-2 c =
    let skip-some-digits = c.skip_some_digits in
    let if2 = c.if-one_of-2 in
    let one-of2 = c.one_of-then-one_of in
    let if1 = c.if-one_of in
    let one_of_lem = c.one_of in
    let a = c.args in
    let s = a.s.now in
    let w = here_yes (byte 101 or byte 69) s a.at one_of_lem.result one_of_lem.ensures if1.true in
    let v = here_yes (byte 45 or byte 43) s (a.at + 1) one-of2.result one-of2.ensures if2.true in
    skips_runs (option exp) (some digit) s a.at (a.at + 2)
    (exp_signed s a.at w.1 (next_next (byte 45 or byte 43) s a.at v.1)) skip-some-digits.result
    (some_skips s (a.at + 2) skip-some-digits.result skip-some-digits.ensures)

pub overflow_add-at-then-one_of : goal.overflow_add-at-then-one_of
overflow_add-at-then-one_of c =
    let if1 = c.if-one_of in
    let one_of_lem = c.one_of in
    let a = c.args in
    let w = here_yes (byte 101 or byte 69) a.s.now a.at one_of_lem.result one_of_lem.ensures if1.true in
    omega arith

pub returns-then-one_of : goal.returns-then-one_of
returns-then-one_of c =
    let skip-some-digits2 = c.skip_some_digits-then-one_of in
    let if2 = c.if-one_of-2 in
    let one-of2 = c.one_of-then-one_of in
    let if1 = c.if-one_of in
    let one_of_lem = c.one_of in
    let a = c.args in
    let s = a.s.now in
    let w = here_yes (byte 101 or byte 69) s a.at one_of_lem.result one_of_lem.ensures if1.true in
    skips_runs (option exp) (some digit) s a.at (a.at + 1)
    (exp_plain s a.at w.1 (here_no (byte 45 or byte 43) s (a.at + 1) one-of2.result one-of2.ensures
    if2.false)) skip-some-digits2.result (some_skips s (a.at + 1) skip-some-digits2.result
    skip-some-digits2.ensures)

pub returns : goal.returns
returns c =
    let if1 = c.if-one_of in
    let one_of_lem = c.one_of in
    let a = c.args in
    let pre = c.requires in
    let s = a.s.now in
    exp_none s a.at (pre) (here_no (byte 101 or byte 69) s a.at one_of_lem.result one_of_lem.ensures if1.false)
