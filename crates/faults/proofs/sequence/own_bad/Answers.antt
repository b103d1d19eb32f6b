-- `sequence::own_bad` meets its contract. Assumes nothing.
use Rattle.std.proofs.Common.{◌∙◌, eqb, refl, rules, tests, arith}
use borrow.Author.Tests.{ne_eqb}
use Rattle.std.proofs.lemmas.Iterator.{YieldsList-from_range}
use Rattle.std.proofs.lemmas.Iterator.Search.{any_from_yields_List}
use Rattle.faults.specs.Places.{seq_at}
use Rattle.faults.proofs.FirstLaws.{own_among}
use Rattle.faults.proofs.sequence.own_bad.Goals as goal

pub returns-else-q-eq0 : goal.returns-else-q-eq0
returns-else-q-eq0 c =
    let a = c.args in
    let among =
    any_from_yields_List (λ j. eqb a.q.0 (seq_at j a.s.now)) _ _ _ c.any.ensures.ran (YieldsList-from_range 0 a.i a.i refl (omega arith)) (λ x b q k. search (rules, tests)) in
    rw (ne_eqb a.q.0 0 c.if-q-eq0.false) (among ∙ own_among a.q.0 a.i a.s.now)
