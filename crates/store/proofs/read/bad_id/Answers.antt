-- `read::bad_id` meets its contract. Assumes nothing.
use borrow.Author.Tests.{eq-eqb, ne_eqb}
use Rattle.rules.specs.Write.{bad_id}
use Rattle.store.proofs.read.bad_id.Goals as goal

pub returns-then-id-eq0 : goal.returns-then-id-eq0
unfolding bad_id
returns-then-id-eq0 c = rw (eq-eqb _ _ c.if-id-eq0.true)

pub returns : goal.returns
unfolding bad_id
returns c = rw (ne_eqb _ _ c.if-id-eq0.false)
