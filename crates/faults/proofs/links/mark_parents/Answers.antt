-- `links::mark_parents` meets its contract. Assumes nothing.
use mathlib.Core.Path.{sym, ◌∙◌}
use native.Mathlib.Omega.{arith}
use Rattle.faults.proofs.LinkLaws.{steps, looked_none, looked_all}
use Rattle.faults.proofs.links.mark_parents.Goals.{in-Unknown, in-Missing, in-Among}
use Rattle.faults.proofs.links.mark_parents.Goals as goal

pub loop-j-init : goal.loop-j-init
loop-j-init c = looked_none _ _ _ _ c.requires.marks

pub run_at-run-requires : goal.run_at-run-requires
run_at-run-requires c =
    let p = c.requires.ordered.within in
    let h = c.loop-j.invariant.serves.within in
    (omega arith, omega arith)

pub parent_of-requires : goal.parent_of-requires
parent_of-requires c = (steps _ _ _ c.requires.ordered _ _ _ _ _ c.loop-j-test.true c.loop-j.invariant c.run_at-run.ensures).link

pub bounds-marks-i : goal.bounds-marks-i
bounds-marks-i c =
    let step = steps _ _ _ c.requires.ordered _ _ _ _ _ c.loop-j-test.true c.loop-j.invariant c.run_at-run.ensures in
    let z = c.loop-j.invariant.marked.marks.size in
    let k = (step.among _ (sym c.parent_of.ensures ∙ c.in-Among.is)).0 in
    omega arith

pub loop-j-preserved : goal.loop-j-preserved
loop-j-preserved c =
    let step = steps _ _ _ c.requires.ordered _ _ _ _ _ c.loop-j-test.true c.loop-j.invariant c.run_at-run.ensures in
    elim c.match-parent_of.branch [
      | in-Unknown w ↦ rw (w.marks-is, w.missing-is) (step.unknown (sym c.parent_of.ensures ∙ w.in-Unknown.is))
      | in-Missing w ↦ rw (w.marks-is, w.missing-is, w.min-missing.ensures) (step.missing (sym c.parent_of.ensures ∙ w.in-Missing.is))
      | in-Among w ↦ rw (w.marks-is, w.missing-is) (step.among _ (sym c.parent_of.ensures ∙ w.in-Among.is)).1
    ]

pub returns : goal.returns
returns c = looked_all _ _ _ _ _ _ _ (omega arith) c.loop-j.invariant
