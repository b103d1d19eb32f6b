-- `read::body_of` meets its contract. Assumes nothing.
use mathlib.Core.Path.{refl}
use Rattle.store.proofs.EntryLaws.{standing, entry_held}
use native.Mathlib.Omega.{arith}
use Rattle.store.proofs.read.body_of.Goals as goal

pub first_row-first-requires : goal.first_row-first-requires
first_row-first-requires c = c.requires

pub row_count-rows-requires : goal.row_count-rows-requires
row_count-rows-requires c = c.requires

pub overflow_mul-result : goal.overflow_mul-result
overflow_mul-result c =
    let q = standing _ c.requires.laid in
    let f = entry_held _ _ _ c.requires refl in
    omega (arith, c.first_row-first.ensures)

pub overflow_add-result : goal.overflow_add-result
overflow_add-result c =
    let q = standing _ c.requires.laid in
    let f = entry_held _ _ _ c.requires refl in
    omega (arith, c.first_row-first.ensures)

pub returns : goal.returns
returns c = record { document = c.requires; base = omega (arith, c.first_row-first.ensures); rows = c.row_count-rows.ensures }
