-- `count_accepted` meets its contract. Assumes nothing.
use native.Mathlib.Numerals.{add-one}
use Rattle.rules.specs.Pull.{count}
use Rattle.pulls.proofs.count_accepted.Goals as goal

pub returns-in-Changed : goal.returns-in-Changed
unfolding count
returns-in-Changed c = rw (c.in-Changed.is, add-one)

pub returns-in-Unchanged : goal.returns-in-Unchanged
unfolding count
returns-in-Unchanged c = rw (c.in-Unchanged.is, add-one)
