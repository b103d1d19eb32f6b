-- `check_replica` meets its contract. Assumes nothing.
use mathlib.Core.Path.{sym, ◌∙◌}
use Rattle.rules.specs.Layout.{head_of}
use Rattle.refile.proofs.CallLaws.{lent_size, lent_start, lent_fine}
use Rattle.refile.proofs.number.check_replica.Goals as goal

pub returns-then-replica-ne-SIZE : goal.returns-then-replica-ne-SIZE
returns-then-replica-ne-SIZE c = lent_size _ c.if-replica-ne-SIZE.true

pub returns-then-get2-ne0 : goal.returns-then-get2-ne0
unfolding head_of
returns-then-get2-ne0 c = lent_start _ c.if-replica-ne-SIZE.false (λ e. c.if-get2-ne0.true (c.get2.ensures.is ∙ e))

pub returns : goal.returns
unfolding head_of
returns c = lent_fine _ c.if-replica-ne-SIZE.false (sym c.get2.ensures.is ∙ c.if-get2-ne0.false)
