-- `take_spots` meets its contract. Assumes nothing.
use Rattle.std.proofs.lemmas.Result.{err_from_is_err_and}
use Rattle.fields.specs.declared.Name.TheVariants as name
use Rattle.takes.proofs.SayLaws.{none_ok, some_ok}
use Rattle.takes.proofs.TookLaws.{spots_no_id, spots_no_rev, spots_bad_rev, spots_rest, part-within, stand_fits}
use Rattle.takes.proofs.take_spots.Goals as goal

pub string_in-requires : goal.string_in-requires
string_in-requires c = stand_fits c.requires.stand name.Id

pub returns-in_err-from : goal.returns-in_err-from
returns-in_err-from c =
    let a = c.args in
    let k = none_ok c.ok_or.ensures.value c.in_err-from.was in
    let p = err_from_is_err_and c.from_residual.result c.from_residual.ensures.1 in
    rw (p.1, p.2, k.1) (spots_no_id a.b.now a.line.now a.x.now.spots c.requires.stored c.string_in.result c.string_in.ensures k.0)

pub string_in-requires-2 : goal.string_in-requires-2
string_in-requires-2 c = stand_fits c.requires.stand name.Rev

pub returns-in_err-begin : goal.returns-in_err-begin
returns-in_err-begin c =
    let a = c.args in
    let k = none_ok c.ok_or-2.ensures.value c.in_err-begin.was in
    let p = err_from_is_err_and c.from_residual-in_err-begin.result c.from_residual-in_err-begin.ensures.1 in
    rw (p.1, p.2, k.1) (spots_no_rev a.b.now a.line.now a.x.now.spots c.requires.stored c.string_in-2.result c.string_in-2.ensures k.0)

pub returns-in_err-revision : goal.returns-in_err-revision
returns-in_err-revision c =
    let a = c.args in
    let k = none_ok c.ok_or-3.ensures.value c.in_err-revision.was in
    let p = err_from_is_err_and c.from_residual-in_err-revision.result c.from_residual-in_err-revision.ensures.1 in
    rw (p.1, p.2, k.1)
    (spots_bad_rev a.b.now a.line.now a.x.now.spots c.requires.stored c.string_in-2.result _ _ c.string_in-2.ensures (some_ok c.ok_or-2.ensures.ok_part c.in_ok-begin.was)
    c.read_rev.result c.read_rev.ensures k.0)

pub returns : goal.returns
returns c =
    let a = c.args in
    spots_rest a.b.now a.line.now a.x.now.spots c.requires.stored c.string_in-2.result _ _ c.string_in-2.ensures (some_ok c.ok_or-2.ensures.ok_part c.in_ok-begin.was)
    c.read_rev.result c.read_rev.ensures c.string_in.result _ _ _ c.string_in.ensures (some_ok c.ok_or.ensures.ok_part c.in_ok-from.was)
    (some_ok c.ok_or-3.ensures.ok_part c.in_ok-revision.was) _ _ c.take_rest.ensures

pub slice_bounds-read_rev-count : goal.slice_bounds-read_rev-count
slice_bounds-read_rev-count c = (part-within c.args.line.now _ c.string_in-2.result _ _ (stand_fits c.requires.stand name.Rev) c.string_in-2.ensures (some_ok c.ok_or-2.ensures.ok_part c.in_ok-begin.was)).0

pub slice_bounds-read_rev-start : goal.slice_bounds-read_rev-start
slice_bounds-read_rev-start c = (part-within c.args.line.now _ c.string_in-2.result _ _ (stand_fits c.requires.stand name.Rev) c.string_in-2.ensures (some_ok c.ok_or-2.ensures.ok_part c.in_ok-begin.was)).0

pub slice_bounds-read_rev-end : goal.slice_bounds-read_rev-end
slice_bounds-read_rev-end c = (part-within c.args.line.now _ c.string_in-2.result _ _ (stand_fits c.requires.stand name.Rev) c.string_in-2.ensures (some_ok c.ok_or-2.ensures.ok_part c.in_ok-begin.was)).1

pub slice_bounds-take_rest-count : goal.slice_bounds-take_rest-count
slice_bounds-take_rest-count c = (part-within c.args.line.now _ c.string_in.result _ _ (stand_fits c.requires.stand name.Id) c.string_in.ensures (some_ok c.ok_or.ensures.ok_part c.in_ok-from.was)).0

pub slice_bounds-take_rest-start : goal.slice_bounds-take_rest-start
slice_bounds-take_rest-start c = (part-within c.args.line.now _ c.string_in.result _ _ (stand_fits c.requires.stand name.Id) c.string_in.ensures (some_ok c.ok_or.ensures.ok_part c.in_ok-from.was)).0

pub slice_bounds-take_rest-end : goal.slice_bounds-take_rest-end
slice_bounds-take_rest-end c = (part-within c.args.line.now _ c.string_in.result _ _ (stand_fits c.requires.stand name.Id) c.string_in.ensures (some_ok c.ok_or.ensures.ok_part c.in_ok-from.was)).1
