-- `json_text::can_end` meets its contract. Assumes nothing.
use Rattle.json_text.proofs.PlaceLaws.{ends_past, ends_any, ends_else}
use mathlib.Core.Logic.{inl, inr}
use native.Mathlib.Omega.{arith}
use Rattle.json_text.proofs.can_end.Goals.{then-b-eq44-via-then-b-eq44, then-b-eq44-via-else-b-eq44+then-b-eq125, then-b-eq44-via-else-b-eq44+else-b-eq125+then-b-eq93, then-b-eq44-via-else-b-eq44+else-b-eq125+else-b-eq93+then-b-eq58}
use Rattle.json_text.proofs.can_end.Goals as goal

pub returns-then-s-at : goal.returns-then-s-at
returns-then-s-at c = let a = c.args in ends_past a.s.now a.at c.if-s-at.true

pub returns-then-b-eq44 : goal.returns-then-b-eq44
returns-then-b-eq44 c =
    let a = c.args in
    elim c.then-b-eq44.branch [
      | then-b-eq44-via-then-b-eq44 w ↦ ends_any a.s.now a.at (inl w.if-b-eq44.true)
      | then-b-eq44-via-else-b-eq44+then-b-eq125 w ↦ ends_any a.s.now a.at (inr (inl w.if-b-eq125.true))
      | then-b-eq44-via-else-b-eq44+else-b-eq125+then-b-eq93 w ↦ ends_any a.s.now a.at (inr (inr (inl w.if-b-eq93.true)))
      | then-b-eq44-via-else-b-eq44+else-b-eq125+else-b-eq93+then-b-eq58 w ↦ ends_any a.s.now a.at (inr (inr (inr (omega (arith, w.if-b-eq58.true)))))
    ]

pub returns : goal.returns
returns c =
    let a = c.args in
    ends_else a.s.now a.at c.if-s-at.false c.if-b-eq44.false c.if-b-eq125.false
    c.if-b-eq93.false (λ e. c.if-b-eq58.false (omega (arith, e))) c.white_at.result c.white_at.ensures
