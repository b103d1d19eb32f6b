-- `ids_array` meets its contract. Assumes nothing.
use Rattle.takes.proofs.ReadLaws.{ends_yes, array_passed}
use Rattle.takes.proofs.ids_array.Goals as goal

pub returns-in-Some : goal.returns-in-Some
returns-in-Some c =
    rw c.in-Some.is
    (array_passed c.ids_at-got.ensures _ _ c.in-Some.is c.requires.0 (ends_yes c.args.s.now c.in-Some.e c.can_end.result c.can_end.ensures c.if-can_end.true))
