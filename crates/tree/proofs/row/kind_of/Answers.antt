-- `row::kind_of` meets its contract. Assumes nothing.
use native.Mathlib.Omega.{arith}
use borrow.Author.Tests.{ne_eqb}
use Rattle.tree.specs.Rows.{kind_from}
use Rattle.tree.proofs.row.kind_of.Goals as goal

pub returns-in-0 : goal.returns-in-0
unfolding kind_from
returns-in-0 c = rw c.in-0.is

pub returns-in-1 : goal.returns-in-1
unfolding kind_from
returns-in-1 c = rw c.in-1.is

pub returns-in_default : goal.returns-in_default
unfolding kind_from
returns-in_default c = simp (ne_eqb c.args.k 0 (λ e. omega arith), ne_eqb c.args.k 1 (λ e. omega arith))
