-- `revs_object` meets its contract. Assumes nothing.
use Rattle.takes.proofs.ReadLaws.{ends_yes, ends_no, start_fits, inner_is, object_wrong, object_passed, object_cut}
use Rattle.takes.proofs.revs_object.Goals as goal

pub returns-in_default : goal.returns-in_default
returns-in_default c =
    object_wrong 12 c.args.s.now c.args.v c.requires.0 c.args.path.now _ c.walk_object.result
    c.walk_object.ensures c.in_default.is

pub revs_in-got-requires : goal.revs_in-got-requires
revs_in-got-requires c =
    let a = c.args in
    start_fits 12 a.s.now a.v c.requires.0 _ _ (inner_is 12 a.s.now a.v c.requires.0 a.path.now _ c.walk_object.result
    c.walk_object.ensures _ c.in-Some.is)

pub returns-then-can_end : goal.returns-then-can_end
returns-then-can_end c =
    let a = c.args in
    object_passed 12 a.s.now a.v c.requires.0 a.path.now _ c.walk_object.result c.walk_object.ensures _
    c.in-Some.is c.revs_in-got.result c.revs_in-got.ensures (ends_yes a.s.now c.in-Some.x.end
    c.can_end.result c.can_end.ensures c.if-can_end.true)

pub returns-else-can_end : goal.returns-else-can_end
returns-else-can_end c =
    let a = c.args in
    object_cut 12 a.s.now a.v c.requires.0 a.path.now _ c.walk_object.result c.walk_object.ensures _
    c.in-Some.is c.revs_in-got.result c.revs_in-got.ensures (ends_no a.s.now c.in-Some.x.end
    c.can_end.result c.can_end.ensures c.if-can_end.false)
