-- `each::rule_fault` meets its contract. Assumes nothing.
use mathlib.Core.Path.{sym, ◌∙◌}
use native.Mathlib.Omega.{arith}
use Rattle.faults.proofs.EachLaws.{steps, passed_none, passed_all}
use Rattle.faults.proofs.each.rule_fault.Goals as goal

pub loop-i-init : goal.loop-i-init
loop-i-init g c = passed_none _ _ _ c.requires c.documents-d.ensures.is

pub first_bad-requires : goal.first_bad-requires
first_bad-requires g c =
    let step = steps _ _ _ _ _ _ c.requires c.documents-d.ensures.is c.loop-i-test.true c.rows-n.ensures.is c.loop-i.invariant in
    step.can

pub returns-in-Some : goal.returns-in-Some
returns-in-Some g c =
    let step = steps _ _ _ _ _ _ c.requires c.documents-d.ensures.is c.loop-i-test.true c.rows-n.ensures.is c.loop-i.invariant in
    sym (step.bad _ (sym c.first_bad.ensures ∙ c.in-Some.is))

pub loop-i-preserved : goal.loop-i-preserved
loop-i-preserved g c =
    let step = steps _ _ _ _ _ _ c.requires c.documents-d.ensures.is c.loop-i-test.true c.rows-n.ensures.is c.loop-i.invariant in
    step.next (sym c.first_bad.ensures ∙ c.in_default.is)

pub returns : goal.returns
returns g c = sym (passed_all _ _ _ _ _ (omega arith) c.loop-i.invariant)
