-- `json_text::scalar_end` meets its contract. Assumes nothing.
use Rattle.json_text.specs.Grammar.{string}
use Rattle.json_text.proofs.CharLaws.{exact_skips}
use Rattle.json_text.proofs.ScalarLaws.{scalar_string, scalar_literal, scalar_number}
use mathlib.Core.Path.{sym, ◌∙◌}
use native.Mathlib.Omega.{arith}
use Rattle.json_text.proofs.scalar_end.Goals as goal

pub returns-then-b-eq34 : goal.returns-then-b-eq34
returns-then-b-eq34 c =
    let skip-string = c.skip_string in
    let if1 = c.if-b-eq34 in
    let b = c.peek-b in
    let a = c.args in
    let s = a.s.now in
    scalar_string s a.at (sym b.ensures ∙ if1.true) skip-string.result
    (exact_skips string s a.at skip-string.result skip-string.ensures)

pub returns-then-b-ge97 : goal.returns-then-b-ge97
returns-then-b-ge97 c =
    let skip-literal = c.skip_literal in
    let b = c.peek-b in
    let a = c.args in
    let e = b.ensures in
    scalar_literal a.s.now a.at (omega arith) skip-literal.result skip-literal.ensures

pub returns : goal.returns
returns c =
    let skip-number = c.skip_number in
    let if1 = c.if-b-eq34 in
    let b = c.peek-b in
    let a = c.args in
    let e = b.ensures in
    scalar_number a.s.now a.at (λ f. if1.false (b.ensures ∙ f)) (omega arith) skip-number.result
    skip-number.ensures
