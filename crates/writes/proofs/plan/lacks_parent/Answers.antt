-- `plan::lacks_parent` meets its contract. Assumes nothing.
use Rattle.writes.proofs.PassLaws.{lacks_held, lacks_unknown}
use mathlib.Core.Path.{sym, ◌∙◌}
use Rattle.writes.proofs.plan.lacks_parent.Goals as goal

pub returns-then-is_some : goal.returns-then-is_some
returns-then-is_some c = sym (lacks_held c.args.held c.args.given (sym c.is_some.ensures ∙ c.if-is_some.true))

pub returns : goal.returns
returns c = c.is_some-2.ensures ∙ sym (lacks_unknown c.args.held c.args.given (sym c.is_some.ensures ∙ c.if-is_some.false))
