-- `settle::write_to` meets its contract: from what was found, the plan and the verdict. Assumes nothing.
use borrow.Author.Rules.{rules}
use Rattle.std.specs.Prelude.{Result}
use mathlib.Core.List.{List}
use Prim.Native.Nat.{ℕ}
use native.Mathlib.Omega.{arith}
use Rattle.rules.specs.declared.Refusal.{Refusal}
use Rattle.rules.specs.declared.Outcome.{Outcome}
use Rattle.rules.specs.Union.{IsWrite}
use Rattle.writes.specs.Judge.{is_absent, Does, Wrote}
use Rattle.writes.specs.Path.{write_of}
use Rattle.writes.proofs.WriteLaws as law
use Rattle.std.proofs.lemmas.Result.{err_from_is_err_and}
use Rattle.writes.proofs.settle.write_to.Goals.{After-judge, After-min-m}
use Rattle.writes.proofs.settle.write_to.Goals as goal

pub body_at-body-requires : goal.body_at-body-requires
body_at-body-requires c = law.place_looked c.args.id.now c.requires.stored c.requires.place

pub plan_path-p-requires : goal.plan_path-p-requires
plan_path-p-requires c = law.can_plan c.requires c.body_at-body.ensures

pub judge-requires : goal.judge-requires
judge-requires c = law.can_judge c.requires c.body_at-body.ensures c.plan_path-p.ensures

-- ---- past the verdict

judged : (c : After-judge) → let a = c.args in law.Judged a.b.now (write_of a.id.now a.number a.path.now a.content) (is_absent a.found) c.plan_path-p.result c.judge.result
judged c = law.is_judged c.requires c.body_at-body.ensures c.plan_path-p.ensures c.judge.ensures

is_write : (c : After-judge) → let a = c.args in IsWrite (write_of a.id.now a.number a.path.now a.content)
is_write c =
    let a = c.args in
    record {
      id = law.bytes_all a.id.now (λ i. omega (arith, c.type_inv.id i));
      number = omega arith;
      path = law.bytes_all a.path.now (λ i. omega (arith, c.type_inv.path i));
      content = search rules;
    }

wrote : (c : After-judge) (r : Result Outcome Refusal) (left : List ℕ) → let a = c.args in Does a.b.now (write_of a.id.now a.number a.path.now a.content) r left
    → let a = c.args in Wrote a.b.now (write_of a.id.now a.number a.path.now a.content) r left
wrote c r left does = law.wrote c.requires.stored (is_write c) does

pub returns-in_err-judge : goal.returns-in_err-judge
returns-in_err-judge c =
    let h = (goal.at.returns-in_err-judge c).After-judge in
    let p = err_from_is_err_and c.from_residual.result c.from_residual.ensures.1 in
    rw (p.1, p.2) (wrote h _ _ (law.does_refused (judged h) _ c.in_err-judge.was))

pub returns-then-p-eq0 : goal.returns-then-p-eq0
returns-then-p-eq0 c =
    let h = (goal.at.returns-then-p-eq0 c).After-judge in
    wrote h _ _ (law.does_same (judged h) c.in_ok-judge.was c.if-p-eq0.true)

-- ---- what is applied

ready : (c : After-min-m) → let a = c.args in law.Ready a.b.now a.found (write_of a.id.now a.number a.path.now a.content) c.body_at-body.result c.plan_path-p.result c.min-m.result
ready c = record {
  can = c.requires;
  body = c.body_at-body.ensures;
  plan = c.plan_path-p.ensures;
  clear = law.clear_facts (judged (goal.at.After-min-m c).After-judge) c.in_ok-judge.was;
  adds = c.if-p-eq0.false;
  least = c.min-m.ensures;
}

pub apply-requires : goal.apply-requires
apply-requires c = law.held_can_apply (ready (goal.at.apply-requires c).After-min-m) c.in-Ok.is

pub add_document-requires : goal.add_document-requires
add_document-requires c = law.new_can_add (ready (goal.at.add_document-requires c).After-min-m) c.in-Err.is

pub body_of-requires : goal.body_of-requires
body_of-requires c = law.new_has (ready (goal.at.body_of-requires c).After-min-m) c.in-Err.is c.add_document.ensures

pub apply-requires-in-Err : goal.apply-requires-in-Err
apply-requires-in-Err c = law.new_can_apply (ready (goal.at.apply-requires-in-Err c).After-min-m) c.in-Err.is c.add_document.ensures c.body_of.ensures

pub returns-in-Ok : goal.returns-in-Ok
returns-in-Ok c =
    let h = goal.at.returns-in-Ok c in
    let j = h.After-judge in
    wrote j _ _ (law.does_changed (judged j) c.in_ok-judge.was c.if-p-eq0.false _ (law.held_added (ready h.After-min-m) c.in-Ok.is c.apply.ensures))

pub returns-in-Err : goal.returns-in-Err
returns-in-Err c =
    let h = goal.at.returns-in-Err c in
    let j = h.After-judge in
    wrote j _ _ (law.does_changed (judged j) c.in_ok-judge.was c.if-p-eq0.false _ (law.new_added (ready h.After-min-m) c.in-Err.is c.add_document.ensures c.apply-in-Err.ensures))
