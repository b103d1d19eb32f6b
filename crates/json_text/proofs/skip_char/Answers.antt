-- `json_text::skip_char` meets its contract. Assumes nothing.
use Prim.Native.Nat.{◌+◌}
use Rattle.json_text.proofs.WsLaws.{stands}
use Rattle.json_text.specs.Grammar.{◌then◌, utf8, hex, char}
use Rattle.json_text.proofs.CharLaws.{exact_leads, char_low, char_quote, char_utf8, char_plain, char_hex, char_simple, char_no_escape}
use mathlib.Core.Path.{sym, ◌∙◌}
use native.Mathlib.Omega.{arith}
use Rattle.json_text.proofs.skip_char.Goals as goal

pub overflow_add-at : goal.overflow_add-at
overflow_add-at c =
    let if1 = c.if-b-eq92 in
    let b = c.peek-b in
    let a = c.args in
    let h = stands a.s.now a.at 92 (sym b.ensures ∙ if1.true) (omega arith) in
    omega arith

pub overflow_add-at-then-peek-eq117 : goal.overflow_add-at-then-peek-eq117
overflow_add-at-then-peek-eq117 c =
    let if2 = c.if-peek-eq117 in
    let b2 = c.peek in
    let if1 = c.if-b-eq92 in
    let b = c.peek-b in
    let a = c.args in
    let s = a.s.now in
    let h = stands s a.at 92 (sym b.ensures ∙ if1.true) (omega arith) in
    let k = stands s (a.at + 1) 117 (sym b2.ensures ∙ if2.true) (omega arith) in
    omega arith

pub skip_hex-requires : goal.skip_hex-requires
skip_hex-requires c =
    let if2 = c.if-peek-eq117 in
    let b2 = c.peek in
    let a = c.args in
    let k = stands a.s.now (a.at + 1) 117 (sym b2.ensures ∙ if2.true) (omega arith) in
    omega arith

pub returns-then-peek-eq117 : goal.returns-then-peek-eq117
returns-then-peek-eq117 c =
    let skip-hex = c.skip_hex in
    let if2 = c.if-peek-eq117 in
    let b2 = c.peek in
    let if1 = c.if-b-eq92 in
    let b = c.peek-b in
    let a = c.args in
    let s = a.s.now in
    exact_leads char (hex then hex then hex then hex) s a.at (a.at + 2)
    (char_hex s a.at (sym b.ensures ∙ if1.true) (sym b2.ensures ∙ if2.true)) skip-hex.result
    skip-hex.ensures

pub overflow_add-at-then-b-eq92 : goal.overflow_add-at-then-b-eq92
overflow_add-at-then-b-eq92 c =
    let if1 = c.if-b-eq92 in
    let b = c.peek-b in
    let a = c.args in
    let h = stands a.s.now a.at 92 (sym b.ensures ∙ if1.true) (omega arith) in
    omega arith

pub overflow_add-result : goal.overflow_add-result
overflow_add-result c =
    let if1 = c.if-b-eq92 in
    let b = c.peek-b in
    let a = c.args in
    let h = stands a.s.now a.at 92 (sym b.ensures ∙ if1.true) (omega arith) in
    omega arith

pub returns-then-simple_at : goal.returns-then-simple_at
returns-then-simple_at c =
    let if3 = c.if-simple_at in
    let simple-at = c.simple_at in
    let if2 = c.if-peek-eq117 in
    let b2 = c.peek in
    let if1 = c.if-b-eq92 in
    let b = c.peek-b in
    let a = c.args in
    char_simple a.s.now a.at (sym b.ensures ∙ if1.true) (λ e. if2.false (b2.ensures ∙ e))
    simple-at.result simple-at.ensures if3.true

pub returns-then-b-eq92 : goal.returns-then-b-eq92
returns-then-b-eq92 c =
    let if3 = c.if-simple_at in
    let simple-at = c.simple_at in
    let if2 = c.if-peek-eq117 in
    let b2 = c.peek in
    let if1 = c.if-b-eq92 in
    let b = c.peek-b in
    let a = c.args in
    char_no_escape a.s.now a.at (sym b.ensures ∙ if1.true) (λ e. if2.false (b2.ensures ∙ e))
    simple-at.result simple-at.ensures if3.false

pub returns-then-b-gt127 : goal.returns-then-b-gt127
returns-then-b-gt127 c =
    let skip-utf8 = c.skip_utf8 in
    let b = c.peek-b in
    let a = c.args in
    let s = a.s.now in
    let e = b.ensures in
    exact_leads char utf8 s a.at a.at (char_utf8 s a.at (omega arith)) skip-utf8.result
    skip-utf8.ensures

pub returns-then-b-lt32 : goal.returns-then-b-lt32
returns-then-b-lt32 c =
    let b = c.peek-b in
    let a = c.args in
    let e = b.ensures in
    char_low a.s.now a.at (omega arith)

pub returns-then-b-eq34 : goal.returns-then-b-eq34
returns-then-b-eq34 c =
    let if6 = c.if-b-eq34 in
    let b = c.peek-b in
    let a = c.args in
    char_quote a.s.now a.at (sym b.ensures ∙ if6.true)

pub returns : goal.returns
returns c =
    let if6 = c.if-b-eq34 in
    let if1 = c.if-b-eq92 in
    let b = c.peek-b in
    let a = c.args in
    let e = b.ensures in
    char_plain a.s.now a.at (omega arith) (omega arith) (λ f. if6.false (b.ensures ∙ f))
    (λ f. if1.false (b.ensures ∙ f))
