-- `check_parent` meets its contract. Assumes nothing.
use Rattle.refile.proofs.ChangeLaws.{parent_named_lem, parent_given, parent_none}
use Rattle.refile.proofs.change.check_parent.Goals as goal

pub returns-then-named-eq1 : goal.returns-then-named-eq1
returns-then-named-eq1 c = parent_named_lem _ _ _ c.if-named-eq1.true c.check_hash.ensures

pub returns : goal.returns
returns c = parent_none _ _ _ c.if-named-eq1.false c.if-number-ne0.false c.if-hash-ne0.false

pub returns-then-number-ne0 : goal.returns-then-number-ne0
returns-then-number-ne0 c = parent_given _ _ _ c.if-named-eq1.false c.then-number-ne0.either
