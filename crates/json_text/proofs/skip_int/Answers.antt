-- `json_text::skip_int` meets its contract. Assumes nothing.
use Prim.Native.Nat.{◌+◌}
use Rattle.json_text.proofs.StepLaws.{skips_runs}
use Rattle.json_text.proofs.NumberLaws.{int_zero, int_wrong, int_some}
use mathlib.Core.Path.{◌≡◌, sym, ◌∙◌}
use native.Mathlib.Omega.{arith}
use Rattle.json_text.proofs.skip_int.Goals as goal

pub returns-then-peek-eq48 : goal.returns-then-peek-eq48
returns-then-peek-eq48 c =
    let a = c.args in
    let x = c.skip_frac in
    let e : c.peek.result ≡ 48 = omega (arith, c.if-peek-eq48.true) in
    skips_runs _ _ a.s.now a.at (a.at + 1) (int_zero a.s.now a.at (sym c.peek.ensures ∙ e)) x.result x.ensures

pub returns-in_err-e : goal.returns-in_err-e
returns-in_err-e c = let a = c.args in rw c.from_residual.ensures (int_wrong a.s.now a.at c.in_err-e.ensures)

pub returns : goal.returns
returns c =
    let a = c.args in
    let d = c.in_ok-e in
    let x = c.skip_frac-2 in
    skips_runs _ _ a.s.now a.at d.e (int_some a.s.now a.at d.e (λ e. c.if-peek-eq48.false (c.peek.ensures ∙ e)) d.ensures) x.result x.ensures
