-- `refile_changes` meets its contract. Assumes nothing.
use Rattle.std.proofs.Common.{ap, ◌∙◌, Option, Result, Ok}
use Rattle.rules.specs.declared.Change.{Change}
use Rattle.rules.specs.declared.Refusal.{Refusal}
use Rattle.refile.specs.Boundary.{changes_call}
use Rattle.refile.proofs.CallLaws.{none_first, lent_stands, lent_refuses}
use Rattle.refile.proofs.ReadCallLaws.{changes_short, changes_next, changes_none, changes_refused}
use Rattle.refile.proofs.read.refile_changes.Goals as goal

pub returns-in-Err : goal.returns-in-Err
unfolding changes_call
returns-in-Err c = lent_refuses _ _ c.check_replica.ensures c.in-Err.is c.unfit.ensures

pub short_changes-requires : goal.short_changes-requires
short_changes-requires c = lent_stands _ (none_first _ c.check_replica.ensures c.in_default.is) c.requires

pub returns-then-answer-lt-CHANGES : goal.returns-then-answer-lt-CHANGES
returns-then-answer-lt-CHANGES c = changes_short _ _ _ _ (none_first _ c.check_replica.ensures c.in_default.is) _ c.if-answer-lt-CHANGES.true c.short_changes.ensures

pub changes-requires : goal.changes-requires
changes-requires c = lent_stands _ (none_first _ c.check_replica.ensures c.in_default.is) c.requires

pub returns-in-Ok-Some : goal.returns-in-Ok-Some
returns-in-Ok-Some c =
    changes_next _ _ _ _ (none_first _ c.check_replica.ensures c.in_default.is) _ _ _ _ c.if-answer-lt-CHANGES.false (c.in-Ok-Some.is ∙ ap {B = Result (Option Change) Refusal} (λ (o : Option Change). Ok o) c.in-Ok-Some.field-0-is) c.changes.ensures
    c.put_change.ensures

pub returns-in-Ok-None : goal.returns-in-Ok-None
returns-in-Ok-None c = changes_none _ _ _ _ (none_first _ c.check_replica.ensures c.in_default.is) _ _ (c.in-Ok-None.is ∙ ap {B = Result (Option Change) Refusal} (λ (o : Option Change). Ok o) c.in-Ok-None.field-0-is) c.changes.ensures

pub returns-in-Err-changes : goal.returns-in-Err-changes
returns-in-Err-changes c =
    changes_refused _ _ _ _ (none_first _ c.check_replica.ensures c.in_default.is) _ _ _ _ _ c.in-Err-changes.is c.changes.ensures
    c.refusal_number.ensures.is c.refused.ensures
