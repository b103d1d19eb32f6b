-- `change::insert_row_in` meets its contract. Assumes nothing.
use mathlib.Core.Path.{refl}
use Rattle.store.proofs.BodyLaws.{body_standing}
use Rattle.store.proofs.RowChangeLaws.{insert_holds}
use native.Mathlib.Omega.{arith}
use Rattle.store.proofs.change.insert_row_in.Goals as goal

pub revisions_held-n-requires : goal.revisions_held-n-requires
revisions_held-n-requires c = c.requires.body.document.laid

pub overflow_mul-i : goal.overflow_mul-i
overflow_mul-i c =
    let q = body_standing _ _ _ c.requires.body in
    omega (arith, c.requires.place)

pub overflow_add-body : goal.overflow_add-body
overflow_add-body c =
    let q = body_standing _ _ _ c.requires.body in
    omega (arith, c.requires.place)

pub overflow_mul-n : goal.overflow_mul-n
overflow_mul-n c =
    let q = body_standing _ _ _ c.requires.body in
    omega (arith, c.revisions_held-n.ensures)

pub overflow_add-n : goal.overflow_add-n
overflow_add-n c =
    let q = body_standing _ _ _ c.requires.body in
    omega (arith, c.revisions_held-n.ensures)

pub insert_row-requires : goal.insert_row-requires
insert_row-requires c =
    let q = body_standing _ _ _ c.requires.body in
    let n = c.revisions_held-n.ensures in
    record { place = omega (arith, n, c.requires.place); room = omega (arith, n, c.requires.room) }

pub entry_place-requires : goal.entry_place-requires
entry_place-requires c =
    let q = body_standing _ _ _ c.requires.body in
    omega arith

pub overflow_add-body-2 : goal.overflow_add-body-2
overflow_add-body-2 c =
    let q = body_standing _ _ _ c.requires.body in
    omega arith

pub put_rows-requires : goal.put_rows-requires
put_rows-requires c =
    let q = body_standing _ _ _ c.requires.body in
    omega (arith, c.entry_place.ensures, c.b-1.given)

pub overflow_add-n-2 : goal.overflow_add-n-2
overflow_add-n-2 c =
    let q = body_standing _ _ _ c.requires.body in
    omega (arith, c.revisions_held-n.ensures)

pub put_revisions-requires : goal.put_revisions-requires
put_revisions-requires c =
    let q = body_standing _ _ _ c.requires.body in
    omega (arith, c.b-1.given, c.b-2-1.given)

pub returns : goal.returns
returns c =
    let n = c.revisions_held-n.ensures in
    let row = c.insert_row.ensures in
    insert_holds _ _ _ _ _ _ _ _ _ _ _ _ c.requires row.fits n refl (omega arith) c.entry_place.ensures row.is
    c.put_rows.ensures c.put_revisions.ensures
