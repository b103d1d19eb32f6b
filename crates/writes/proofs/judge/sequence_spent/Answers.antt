-- `judge::sequence_spent` meets its contract. Assumes nothing.
use Rattle.rules.specs.Room.{seq_most}
use Rattle.rules.specs.declared.Seq.{Seq}
use borrow.Author.Tests.{eq-eqb, ne_eqb}
use lib.Dec.{eqb}
use mathlib.Core.Path.{ap}
use Rattle.writes.proofs.judge.sequence_spent.Goals as goal

pub returns-then-reach-eq0 : goal.returns-then-reach-eq0
returns-then-reach-eq0 c = rw (eq-eqb _ _ c.if-reach-eq0.true)

pub returns : goal.returns
returns c = rw (ne_eqb _ _ c.if-reach-eq0.false) (ap (λ (q : Seq). eqb q.0 seq_most) c.update_sequence-q.ensures)
