-- `take_rest` meets its contract. Assumes nothing.
use lib.ListN.{length-take}
use native.Mathlib.Omega.{arith}
use Rattle.std.proofs.lemmas.Result.{err_from_is_err_and}
use Rattle.fields.specs.declared.Name.TheVariants as name
use Rattle.takes.proofs.SayLaws.{none_ok, some_ok}
use Rattle.takes.proofs.TookLaws.{rest_no_content, rest_refused, rest_written, path_fits, stand_fits}
use Rattle.takes.proofs.take_rest.Goals as goal

pub content_in-requires : goal.content_in-requires
content_in-requires c = let f = stand_fits c.requires.stand in (f name.Deleted, f name.Label)

pub returns-in_err-content : goal.returns-in_err-content
returns-in_err-content c =
    let a = c.args in
    let k = none_ok c.ok_or.ensures.value c.in_err-content.was in
    let p = err_from_is_err_and c.from_residual.result c.from_residual.ensures.1 in
    rw (p.1, p.2, k.1) (rest_no_content a.b.now a.line.now a.id.now a.rev a.x.now.spots c.requires.stored c.content_in.result c.content_in.ensures k.0)

pub returns-in_err-n : goal.returns-in_err-n
returns-in_err-n c =
    let a = c.args in
    let p = err_from_is_err_and c.from_residual-in_err-n.result c.from_residual-in_err-n.ensures.1 in
    rw (p.1, p.2)
    (rest_refused a.b.now a.line.now a.id.now a.rev a.x.now.spots c.requires.stored _ _ c.path_in.result c.path_in.ensures c.content_in.result _ c.content_in.ensures (some_ok c.ok_or.ensures.ok_part c.in_ok-content.was) _ c.in_err-n.was)

pub overflow_mul-n : goal.overflow_mul-n
overflow_mul-n c =
    let a = c.args in
    let f = path_fits a.b.now a.line.now a.id.now a.rev a.x.now.spots c.requires.stored _ _ c.path_in.result c.path_in.ensures c.requires.stand _ c.in_ok-n.was in
    record { fits = omega (arith, f.0) }

pub slice_bounds-put-end : goal.slice_bounds-put-end
slice_bounds-put-end c =
    let a = c.args in
    let f = path_fits a.b.now a.line.now a.id.now a.rev a.x.now.spots c.requires.stored _ _ c.path_in.result c.path_in.ensures c.requires.stand _ c.in_ok-n.was in
    omega (arith, f.0, f.1)

pub slice_bounds-put-end-2 : goal.slice_bounds-put-end-2
slice_bounds-put-end-2 c =
    let a = c.args in
    let f = path_fits a.b.now a.line.now a.id.now a.rev a.x.now.spots c.requires.stored _ _ c.path_in.result c.path_in.ensures c.requires.stand _ c.in_ok-n.was in
    simp length-take (omega (arith, f.0, f.1))

pub returns : goal.returns
returns c =
    let a = c.args in
    rest_written a.b.now a.line.now a.id.now a.rev a.x.now.spots c.requires.stored _ _ c.path_in.result c.path_in.ensures c.content_in.result _ c.content_in.ensures (some_ok c.ok_or.ensures.ok_part c.in_ok-content.was) _ c.in_ok-n.was c.put.ensures
