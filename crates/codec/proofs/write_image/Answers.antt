-- `write_image` meets its contract. Assumes nothing.
use mathlib.Core.Path.{refl}
use native.Mathlib.Omega.{arith}
use Rattle.codec.proofs.SaveLaws.{parts_written}
use Rattle.codec.proofs.write_image.Goals as goal

pub slice_bounds-copy_in-end : goal.slice_bounds-copy_in-end
slice_bounds-copy_in-end c = let q = c.requires in omega arith

pub copy_entries-requires : goal.copy_entries-requires
copy_entries-requires c =
    let q = c.requires in
    record { most = q.documents; room = omega arith; there = omega arith; low = omega arith; short = omega arith }

pub slice_bounds-copy_in-end-2 : goal.slice_bounds-copy_in-end-2
slice_bounds-copy_in-end-2 c = let q = c.requires in omega arith

pub returns : goal.returns
returns c =
    parts_written _ _ _ _ _ _ _ c.args.d c.args.r _ _ _ c.requires refl refl refl
    c.put_edition.ensures c.copy_in.ensures c.put_total.ensures.is c.copy_entries.ensures c.copy_in-2.ensures
