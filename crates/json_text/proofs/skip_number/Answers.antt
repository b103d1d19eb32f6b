-- `json_text::skip_number` meets its contract. Assumes nothing.
use Prim.Native.Nat.{◌+◌}
use Rattle.json_text.proofs.WsLaws.{stands}
use Rattle.json_text.specs.Grammar.{◌then◌, option, int, frac, exp, number}
use Rattle.json_text.proofs.StepLaws.{skips_runs}
use Rattle.json_text.proofs.NumberLaws.{number_minus, number_plain}
use mathlib.Core.Path.{sym, ◌∙◌}
use native.Mathlib.Omega.{arith}
use Rattle.json_text.proofs.skip_number.Goals as goal

pub overflow_add-at : goal.overflow_add-at
overflow_add-at c =
    let if1 = c.if-peek-eq45 in
    let b = c.peek in
    let a = c.args in
    let h = stands a.s.now a.at 45 (sym b.ensures ∙ if1.true) (omega arith) in
    omega arith

pub skip_int-requires : goal.skip_int-requires
skip_int-requires c =
    let if1 = c.if-peek-eq45 in
    let b = c.peek in
    let a = c.args in
    let h = stands a.s.now a.at 45 (sym b.ensures ∙ if1.true) (omega arith) in
    omega arith

pub returns-then-peek-eq45 : goal.returns-then-peek-eq45
returns-then-peek-eq45 c =
    let skip-int = c.skip_int in
    let if1 = c.if-peek-eq45 in
    let b = c.peek in
    let a = c.args in
    let s = a.s.now in
    skips_runs number (int then option frac then option exp) s a.at (a.at + 1)
    (number_minus s a.at (sym b.ensures ∙ if1.true)) skip-int.result skip-int.ensures

pub returns : goal.returns
returns c =
    let skip-int2 = c.skip_int-2 in
    let if1 = c.if-peek-eq45 in
    let b = c.peek in
    let a = c.args in
    let s = a.s.now in
    skips_runs number (int then option frac then option exp) s a.at a.at
    (number_plain s a.at (λ e. if1.false (b.ensures ∙ e))) skip-int2.result skip-int2.ensures
