-- `count_refused` meets its contract. Assumes nothing.
use native.Mathlib.Numerals.{add-one}
use Rattle.rules.specs.Pull.{count}
use Rattle.pulls.proofs.count_refused.Goals as goal

pub returns : goal.returns
unfolding count
returns c = λ n. rw add-one
