-- `path_in` meets its contract. Assumes nothing.
use Rattle.std.proofs.lemmas.Result.{err_from_is_err_and}
use Rattle.takes.proofs.SayLaws.{none_ok, some_ok}
use Rattle.takes.proofs.RevisionsLaws.{path_absent, path_repeated, path_no_object, path_wrong, path_beside}
use Rattle.takes.proofs.path_in.Goals as goal

pub returns-then-peek-ne-OBJECT : goal.returns-then-peek-ne-OBJECT
returns-then-peek-ne-OBJECT c = let a = c.args in path_no_object 12 a.s.now a.p a.rev a.path.now _ _ _ c.in-Once.is c.peek.ensures c.if-peek-ne-OBJECT.true

pub returns-in_err-first-in-Once : goal.returns-in_err-first-in-Once
returns-in_err-first-in-Once c =
    let a = c.args in
    let k = none_ok c.ok_or.ensures.value c.in_err-first-in-Once.was in
    let p = err_from_is_err_and c.from_residual.result c.from_residual.ensures.1 in
    rw (p.1, p.2, k.1)
    (path_wrong 12 a.s.now a.p a.rev a.path.now _ _ _ c.in-Once.is c.peek.ensures c.if-peek-ne-OBJECT.false a.got c.requires.0 k.0)

pub returns-in-Absent : goal.returns-in-Absent
returns-in-Absent c = let a = c.args in path_absent 12 a.s.now a.p a.rev a.path.now _ c.requires.1 c.in-Absent.is c.put_hash.ensures

pub returns-in_ok-first-in-Once : goal.returns-in_ok-first-in-Once
returns-in_ok-first-in-Once c =
    let a = c.args in
    path_beside 12 a.s.now a.p a.rev a.path.now _ _ _ c.in-Once.is c.peek.ensures c.if-peek-ne-OBJECT.false a.got c.requires.0 _ _ c.beside.result
    (some_ok c.ok_or.ensures.ok_part c.in_ok-first-in-Once.was) c.beside.ensures

pub returns-in-Repeated : goal.returns-in-Repeated
returns-in-Repeated c = let a = c.args in path_repeated 12 a.s.now a.p a.rev a.path.now c.in-Repeated.is
