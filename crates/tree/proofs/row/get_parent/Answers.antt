-- `row::get_parent` meets its contract. Assumes nothing.
use mathlib.Core.Path.{sym}
use borrow.Author.Tests.{eq-eqb, ne_eqb}
use Rattle.tree.specs.Rows.{row_at, row_from}
use Rattle.tree.proofs.row.get_parent.Goals as goal

pub returns-then-known-eq0 : goal.returns-then-known-eq0
unfolding row_at row_from
returns-then-known-eq0 c = rw (sym c.known.ensures.is, eq-eqb _ _ c.if-known-eq0.true)

pub returns : goal.returns
unfolding row_at row_from
returns c = rw (sym c.known.ensures.is, ne_eqb _ _ c.if-known-eq0.false) (rw c.parent.ensures.is)
