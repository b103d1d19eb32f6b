-- `document::missing_byte` meets its contract. Assumes nothing.
use mathlib.Core.Path.{refl, sym, ◌∙◌}
use Rattle.reads.proofs.document.missing_byte.Goals as goal

pub returns-then-is_missing : goal.returns-then-is_missing
returns-then-is_missing c = rw (sym c.is_missing.ensures ∙ c.if-is_missing.true) refl

pub returns-else-is_missing : goal.returns-else-is_missing
returns-else-is_missing c = rw (sym c.is_missing.ensures ∙ c.if-is_missing.false) refl
