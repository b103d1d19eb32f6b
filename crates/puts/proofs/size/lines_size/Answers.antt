-- `size::lines_size` meets its contract. Assumes nothing.
use Prim.Native.Nat.{◌-◌}
use native.Mathlib.Omega.{arith}
use Rattle.puts.proofs.LinesLaws.{leaf_row, row_within, leaf_here, sized_none, sized_all, sized_inner, can_size, sized_fits, sized_leaf}
use Rattle.puts.proofs.size.lines_size.Goals as goal

pub is_rooted-rooted-requires : goal.is_rooted-rooted-requires
is_rooted-rooted-requires c = c.requires.rows.rows.within

pub loop-i-init : goal.loop-i-init
loop-i-init c = sized_none _ _ _

pub kind_at-requires : goal.kind_at-requires
kind_at-requires c = let a = c.args in row_within a.id.now a.body a.b.now c.loop-i.i (c.loop-i.i - 1) (omega arith) c.loop-i.auto.i c.requires.rows.rows.within

pub loop-i-preserved : goal.loop-i-preserved
loop-i-preserved c = sized_inner c.loop-i.invariant _ (omega arith) c.loop-i.auto.i c.kind_at.ensures c.in_default.is

pub rev_at-rev-requires : goal.rev_at-rev-requires
rev_at-rev-requires c = let a = c.args in row_within a.id.now a.body a.b.now c.loop-i.i (c.loop-i.i - 1) (omega arith) c.loop-i.auto.i c.requires.rows.rows.within

pub hashes_of-hashes-requires : goal.hashes_of-hashes-requires
hashes_of-hashes-requires c =
    let a = c.args in
    let row = leaf_row c.kind_at.ensures c.in-Some.is c.rev_at-rev.ensures in
    let has = leaf_here a.id.now a.body a.b.now c.loop-i.i _ (omega arith) c.loop-i.auto.i row c.requires.rows.is in
    record { rows = c.requires.rows; known = (has.0, has.1); rooted = c.is_rooted-rooted.ensures }

pub line_size-size-requires : goal.line_size-size-requires
line_size-size-requires c =
    let row = leaf_row c.kind_at.ensures c.in-Some.is c.rev_at-rev.ensures in
    can_size c.loop-i.invariant _ (omega arith) c.loop-i.auto.i c.requires row c.hashes_of-hashes.ensures

pub overflow_add-size : goal.overflow_add-size
overflow_add-size c =
    let row = leaf_row c.kind_at.ensures c.in-Some.is c.rev_at-rev.ensures in
    let fits = sized_fits c.loop-i.invariant _ (omega arith) c.loop-i.auto.i c.requires row c.hashes_of-hashes.ensures c.line_size-size.ensures in
    omega arith

pub loop-i-preserved-in-Some : goal.loop-i-preserved-in-Some
loop-i-preserved-in-Some c =
    let row = leaf_row c.kind_at.ensures c.in-Some.is c.rev_at-rev.ensures in
    sized_leaf c.loop-i.invariant _ (omega arith) c.loop-i.auto.i c.requires row c.hashes_of-hashes.ensures c.line_size-size.ensures

pub returns : goal.returns
returns c = sized_all c.loop-i.invariant (omega arith)
