-- `size::is_rooted` meets its contract. Assumes nothing.
use mathlib.Core.Path.{◌≡◌, sym, ap, ◌∙◌}
use Rattle.std.specs.Prelude.{is_some}
use Prim.Native.Nat.{ℕ}
use native.Mathlib.Omega.{arith}
use borrow.Author.Count.{below_more}
use Rattle.puts.proofs.size.is_rooted.Goals as goal

pub loop-i-init : goal.loop-i-init
loop-i-init c = λ j h l. absurd (omega arith)

pub loop-i-preserved-then-is_some : goal.loop-i-preserved-then-is_some
loop-i-preserved-then-is_some c =
    let known = ap (λ x. is_some x.parent) (sym c.row_at-row.ensures) ∙ (sym c.is_some.ensures ∙ c.if-is_some.true) in
    below_more _ _ c.loop-i.invariant (λ high. known)

pub returns-then-number-gt1 : goal.returns-then-number-gt1
returns-then-number-gt1 c = λ e. absurd (let z : ◌≡◌ {A = ℕ} 0 1 = cc in omega arith)

pub loop-i-preserved : goal.loop-i-preserved
loop-i-preserved c =
    let n = ap (λ x. x.rev.number.0) c.row_at-row.ensures in
    below_more _ _ c.loop-i.invariant (λ high. absurd (omega arith))

pub returns : goal.returns
returns c = λ e j h high. c.loop-i.invariant j (omega arith) high
