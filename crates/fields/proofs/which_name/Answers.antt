-- `fields::which_name` meets its contract. Assumes nothing.
use mathlib.Core.Path.{refl, sym, ◌∙◌}
use Rattle.rules.specs.Choice.{first_that}
use Rattle.rules.specs.Report.{text}
use Rattle.lines.specs.Said.{quoted, is_name}
use Rattle.fields.specs.Fields.{name_at}
use Rattle.fields.proofs.which_name.Goals as goal

pub returns-then-same_bytes : goal.returns-then-same_bytes
unfolding name_at first_that is_name quoted text
returns-then-same_bytes c = rw (sym c.same_bytes.ensures ∙ c.if-same_bytes.true) refl

pub returns-then-same_bytes-2 : goal.returns-then-same_bytes-2
unfolding name_at first_that is_name quoted text
returns-then-same_bytes-2 c = rw (sym c.same_bytes.ensures ∙ c.if-same_bytes.false, sym c.same_bytes-else-same_bytes.ensures ∙ c.if-same_bytes-2.true) refl

pub returns-then-same_bytes-3 : goal.returns-then-same_bytes-3
unfolding name_at first_that is_name quoted text
returns-then-same_bytes-3 c = rw (sym c.same_bytes.ensures ∙ c.if-same_bytes.false, sym c.same_bytes-else-same_bytes.ensures ∙ c.if-same_bytes-2.false, sym c.same_bytes-else-same_bytes-2.ensures ∙ c.if-same_bytes-3.true) refl

pub returns-then-same_bytes-4 : goal.returns-then-same_bytes-4
unfolding name_at first_that is_name quoted text
returns-then-same_bytes-4 c = rw (sym c.same_bytes.ensures ∙ c.if-same_bytes.false, sym c.same_bytes-else-same_bytes.ensures ∙ c.if-same_bytes-2.false, sym c.same_bytes-else-same_bytes-2.ensures ∙ c.if-same_bytes-3.false, sym c.same_bytes-else-same_bytes-3.ensures ∙ c.if-same_bytes-4.true) refl

pub returns-then-same_bytes-5 : goal.returns-then-same_bytes-5
unfolding name_at first_that is_name quoted text
returns-then-same_bytes-5 c = rw (sym c.same_bytes.ensures ∙ c.if-same_bytes.false, sym c.same_bytes-else-same_bytes.ensures ∙ c.if-same_bytes-2.false, sym c.same_bytes-else-same_bytes-2.ensures ∙ c.if-same_bytes-3.false, sym c.same_bytes-else-same_bytes-3.ensures ∙ c.if-same_bytes-4.false, sym c.same_bytes-else-same_bytes-4.ensures ∙ c.if-same_bytes-5.true) refl

pub returns-then-same_bytes-6 : goal.returns-then-same_bytes-6
unfolding name_at first_that is_name quoted text
returns-then-same_bytes-6 c = rw (sym c.same_bytes.ensures ∙ c.if-same_bytes.false, sym c.same_bytes-else-same_bytes.ensures ∙ c.if-same_bytes-2.false, sym c.same_bytes-else-same_bytes-2.ensures ∙ c.if-same_bytes-3.false, sym c.same_bytes-else-same_bytes-3.ensures ∙ c.if-same_bytes-4.false, sym c.same_bytes-else-same_bytes-4.ensures ∙ c.if-same_bytes-5.false, sym c.same_bytes-else-same_bytes-5.ensures ∙ c.if-same_bytes-6.true) refl

pub returns-then-same_bytes-7 : goal.returns-then-same_bytes-7
unfolding name_at first_that is_name quoted text
returns-then-same_bytes-7 c = rw (sym c.same_bytes.ensures ∙ c.if-same_bytes.false, sym c.same_bytes-else-same_bytes.ensures ∙ c.if-same_bytes-2.false, sym c.same_bytes-else-same_bytes-2.ensures ∙ c.if-same_bytes-3.false, sym c.same_bytes-else-same_bytes-3.ensures ∙ c.if-same_bytes-4.false, sym c.same_bytes-else-same_bytes-4.ensures ∙ c.if-same_bytes-5.false, sym c.same_bytes-else-same_bytes-5.ensures ∙ c.if-same_bytes-6.false, sym c.same_bytes-else-same_bytes-6.ensures ∙ c.if-same_bytes-7.true) refl

pub returns-else-same_bytes-7 : goal.returns-else-same_bytes-7
unfolding name_at first_that is_name quoted text
returns-else-same_bytes-7 c = rw (sym c.same_bytes.ensures ∙ c.if-same_bytes.false, sym c.same_bytes-else-same_bytes.ensures ∙ c.if-same_bytes-2.false, sym c.same_bytes-else-same_bytes-2.ensures ∙ c.if-same_bytes-3.false, sym c.same_bytes-else-same_bytes-3.ensures ∙ c.if-same_bytes-4.false, sym c.same_bytes-else-same_bytes-4.ensures ∙ c.if-same_bytes-5.false, sym c.same_bytes-else-same_bytes-5.ensures ∙ c.if-same_bytes-6.false, sym c.same_bytes-else-same_bytes-6.ensures ∙ c.if-same_bytes-7.false) refl
