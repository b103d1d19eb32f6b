-- `parent::rule_met` meets its contract. Assumes nothing.
use mathlib.Core.Path.{ap, ◌∙◌}
use Rattle.rules.specs.declared.Revision.{Revision}
use Rattle.std.specs.Prelude.{Option}
use borrow.Author.Tests.{eq-eqb}
use Rattle.std.proofs.Common.{is_some}
use Rattle.edits.proofs.ParentLaws.{some_is, rule_named, rule_deletion, rule_absent, rule_held}
use Rattle.edits.proofs.parent.rule_met.Goals as goal

pub returns-in-Some : goal.returns-in-Some
returns-in-Some c = λ e k. c.is_leaf.ensures ∙ rule_named k.on _ c.in-Some.is

pub returns-then-body-eq0 : goal.returns-then-body-eq0
returns-then-body-eq0 c = λ e k. eq-eqb _ _ c.if-body-eq0.true ∙ rule_absent k.on c.in_default.is c.in-Live.field-0 (k.content ∙ c.in-Live.is) c.if-body-eq0.true

pub returns-else-body-eq0 : goal.returns-else-body-eq0
returns-else-body-eq0 c = λ e k.
    c.is_some.ensures ∙ (ap (λ (o : Option Revision). is_some o) k.takes ∙ (some_is _ ∙ rule_held k.on c.in_default.is c.in-Live.field-0 (k.content ∙ c.in-Live.is) c.if-body-eq0.false))

pub returns-in-Deleted : goal.returns-in-Deleted
returns-in-Deleted c = λ e k. rule_deletion k.on c.in_default.is (k.content ∙ c.in-Deleted.is)
