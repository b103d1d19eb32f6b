-- `fault` meets its contract. Assumes nothing.
use native.Mathlib.Omega.{arith}
use mathlib.Core.Path.{sym, ◌∙◌}
use Rattle.faults.proofs.JudgeLaws.{headed, fault_short, fault_edition, fault_head, fault_body}
use Rattle.faults.proofs.fault.Goals as goal

pub returns-then-s-lt-HEAD : goal.returns-then-s-lt-HEAD
returns-then-s-lt-HEAD c = sym (fault_short _ (omega (arith, c.if-s-lt-HEAD.true)))

pub returns-then-edition-ne1 : goal.returns-then-edition-ne1
returns-then-edition-ne1 c = sym (fault_edition _ c.if-s-lt-HEAD.false (λ e. let q = c.edition.ensures.is in omega (arith, c.if-edition-ne1.true)))

pub returns-then-head_bad : goal.returns-then-head_bad
returns-then-head_bad c = sym (fault_head _ c.if-s-lt-HEAD.false (sym c.edition.ensures.is ∙ c.if-edition-ne1.false) (sym c.head_bad.ensures ∙ c.if-head_bad.true))

pub body_fault-requires : goal.body_fault-requires
body_fault-requires c = headed _ (sym c.head_bad.ensures ∙ c.if-head_bad.false)

pub returns : goal.returns
returns c =
    c.body_fault.ensures
    ∙ sym (fault_body _ c.if-s-lt-HEAD.false (sym c.edition.ensures.is ∙ c.if-edition-ne1.false) (sym c.head_bad.ensures ∙ c.if-head_bad.false))
