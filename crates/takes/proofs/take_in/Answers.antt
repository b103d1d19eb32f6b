-- `take_in` meets its contract. Assumes nothing.
use Prim.Native.Nat.{ℕ}
use lib.ListN.{length-replicate}
use Rattle.std.proofs.lemmas.Result.{err_from_is_err_and}
use Rattle.takes.proofs.SayLaws.{none_ok, some_ok}
use Rattle.takes.proofs.TookLaws.{took_none, can_take, took_some}
use Rattle.takes.specs.Path.{laid_room}
use Rattle.takes.proofs.take_in.Goals as goal

pub returns-in_err-x : goal.returns-in_err-x
returns-in_err-x c =
    let a = c.args in
    let k = none_ok c.ok_or.ensures.value c.in_err-x.was in
    let p = err_from_is_err_and c.from_residual.result c.from_residual.ensures.1 in
    rw (p.1, p.2, k.1) (took_none a.b.now a.line.now c.requires _ _ c.walk_line.result c.walk_line.ensures k.0)

pub take_spots-requires : goal.take_spots-requires
take_spots-requires c =
    let a = c.args in
    can_take a.b.now a.line.now c.requires _ _ c.walk_line.result c.walk_line.ensures _
    (some_ok c.ok_or.ensures.ok_part c.in_ok-x.was) (length-replicate {A = ℕ} laid_room 0)

pub returns : goal.returns
returns c =
    let a = c.args in
    took_some a.b.now a.line.now c.requires _ _ c.walk_line.result c.walk_line.ensures _
    (some_ok c.ok_or.ensures.ok_part c.in_ok-x.was) _ _ c.take_spots.ensures
