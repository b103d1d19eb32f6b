-- `json_text::skip_string` meets its contract. The loop's invariant: what is left of the string is what stands at i.
-- Assumes nothing.
use mathlib.Core.Path.{sym, ◌∙◌}
use Rattle.std.specs.Prelude.{None, Some}
use Prim.Native.Nat.{◌+◌}
use Rattle.json_text.proofs.CharLaws.{exact_leads, string_starts_at, string_no, string_end, string_wrong}
use Rattle.json_text.proofs.PlainLaws.{plain_string, string_step}
use Rattle.json_text.proofs.skip_string.Goals as goal

pub returns-then-peek-ne34 : goal.returns-then-peek-ne34
returns-then-peek-ne34 c =
    let a = c.args in
    string_no a.s.now a.at (λ e. c.if-peek-ne34.true (c.peek.ensures ∙ e))

pub loop-i-init : goal.loop-i-init
loop-i-init c =
    let a = c.args in
    let q = string_starts_at a.s.now a.at (sym c.peek.ensures ∙ c.if-peek-ne34.false) in
    let m = c.skip_plain-i in
    (m.ensures.within, plain_string a.s.now a.at (a.at + 1) m.result q m.ensures)

pub returns-in_err-e : goal.returns-in_err-e
returns-in_err-e c =
    let l = c.loop-i in
    let a = c.args in
    let n = string_wrong a.s.now l.i (λ e. c.loop-i-test.true (c.peek-in-loop-i.ensures ∙ e)) c.in_err-e.ensures in
    rw c.from_residual.ensures (exact_leads _ _ a.s.now a.at l.i l.invariant.1 None n)

pub loop-i-preserved : goal.loop-i-preserved
loop-i-preserved c =
    let l = c.loop-i in
    let a = c.args in
    let m = c.skip_plain-i-in-loop-i in (
      m.ensures.within,
      string_step a.s.now a.at l.i c.in_ok-e.e m.result l.invariant.1
          (λ k. c.loop-i-test.true (c.peek-in-loop-i.ensures ∙ k)) c.in_ok-e.ensures m.ensures,
    )

pub returns : goal.returns
returns c =
    let l = c.loop-i in
    let a = c.args in
    exact_leads _ _ a.s.now a.at l.i l.invariant.1 (Some (l.i + 1))
    (string_end a.s.now l.i (sym c.peek-in-loop-i.ensures ∙ c.loop-i-test.false))
