-- `content_in` meets its contract. Assumes nothing.
use Rattle.takes.proofs.SayLaws.{once_fits, deleted_twice, no_deleted, both_said, deleted_is, deleted_other}
use Rattle.takes.proofs.SpotLaws.{not_once}
use Rattle.takes.proofs.content_in.Goals as goal

pub returns-in-Repeated : goal.returns-in-Repeated
returns-in-Repeated c = deleted_twice c.args.s.now c.args.deleted c.args.label c.in-Repeated.is

pub label_in-requires : goal.label_in-requires
label_in-requires c = c.requires.1

pub returns-in_default : goal.returns-in_default
returns-in_default c =
    let a = c.args in no_deleted a.s.now a.deleted a.label c.label_in.result (not_once a.deleted c.in_default.not-Once) c.in_default-deleted.not-Repeated c.label_in.ensures

pub returns-in_default-label : goal.returns-in_default-label
returns-in_default-label c = both_said c.args.s.now c.args.deleted c.args.label _ _ c.in-Once.is c.in_default-label.not-Absent

pub slice_bounds-is_true-count : goal.slice_bounds-is_true-count
slice_bounds-is_true-count c = (once_fits c.args.s.now c.args.deleted _ _ c.requires.0 c.in-Once.is).0

pub slice_bounds-is_true-start : goal.slice_bounds-is_true-start
slice_bounds-is_true-start c = (once_fits c.args.s.now c.args.deleted _ _ c.requires.0 c.in-Once.is).0

pub slice_bounds-is_true-end : goal.slice_bounds-is_true-end
slice_bounds-is_true-end c = (once_fits c.args.s.now c.args.deleted _ _ c.requires.0 c.in-Once.is).1

pub returns-then-is_true : goal.returns-then-is_true
returns-then-is_true c =
    deleted_is c.args.s.now c.args.deleted c.args.label _ _ _ c.in-Once.is c.in-Absent.is
    c.is_true.ensures c.if-is_true.true

pub returns : goal.returns
returns c =
    deleted_other c.args.s.now c.args.deleted c.args.label _ _ _ c.in-Once.is c.in-Absent.is
    c.is_true.ensures c.if-is_true.false
