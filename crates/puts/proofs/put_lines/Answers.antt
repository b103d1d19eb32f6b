-- `put_lines` meets its contract. Assumes nothing.
use mathlib.Core.Path.{sym, ◌∙◌}
use Prim.Native.Nat.{ℕ, ◌-◌}
use native.Mathlib.Omega.{arith}
use lib.ListN.{length-replicate}
use Rattle.text.proofs.TextLaws.{put_then, put_as}
use Rattle.tree.specs.Leaf.{leaf_of}
use Rattle.puts.specs.Puts.{path_room}
use Rattle.puts.proofs.LinesLaws.{leaf_row, put_none, lines_all, row_within, lines_inner, lines_leaf, leaf_here, line_room}
use Rattle.puts.proofs.put_lines.Goals as goal

pub loop-i-init : goal.loop-i-init
loop-i-init c = let a = c.args in (length-replicate {A = ℕ} path_room 0, put_none a.id.now a.body a.b.now a.out.now)

pub kind_at-requires : goal.kind_at-requires
kind_at-requires c = let a = c.args in row_within a.id.now a.body a.b.now c.loop-i.i (c.loop-i.i - 1) (omega arith) c.loop-i.auto.i c.requires.can.rows.rows.within

pub loop-i-preserved : goal.loop-i-preserved
loop-i-preserved c =
    let a = c.args in
    let l = c.loop-i in
    (l.invariant.0, put_as (lines_inner a.id.now a.body a.b.now l.i _ (omega arith) l.auto.i c.kind_at.ensures c.in_default.is) l.invariant.1)

pub rev_at-rev-requires : goal.rev_at-rev-requires
rev_at-rev-requires c = let a = c.args in row_within a.id.now a.body a.b.now c.loop-i.i (c.loop-i.i - 1) (omega arith) c.loop-i.auto.i c.requires.can.rows.rows.within

pub slice_bounds-put_line-end : goal.slice_bounds-put_line-end
slice_bounds-put_line-end c = sym c.loop-i.invariant.0

pub put_line-at-requires : goal.put_line-at-requires
put_line-at-requires c =
    let a = c.args in
    let l = c.loop-i in
    let row = leaf_row c.kind_at.ensures c.in-Some.is c.rev_at-rev.ensures in
    let has = leaf_here a.id.now a.body a.b.now l.i _ (omega arith) l.auto.i row c.requires.can.rows.is in
    let room = line_room a.id.now a.body a.b.now l.i _ (omega arith) l.auto.i row l.invariant.1.ends c.requires.room in
    let n = l.invariant.0 in
    record {
      rows = c.requires.can.rows;
      content = has;
      few = c.requires.can.few (leaf_of c.rev_at-rev.result _) has;
      scratch = omega arith;
      room = omega arith;
    }

pub loop-i-preserved-in-Some : goal.loop-i-preserved-in-Some
loop-i-preserved-in-Some c =
    let a = c.args in
    let l = c.loop-i in
    let row = leaf_row c.kind_at.ensures c.in-Some.is c.rev_at-rev.ensures in
    let room = line_room a.id.now a.body a.b.now l.i _ (omega arith) l.auto.i row l.invariant.1.ends c.requires.room in
    let more = lines_leaf a.id.now a.body a.b.now l.i _ (omega arith) l.auto.i row in (
      c.put_line-at.ensures.scratch ∙ l.invariant.0,
      put_as more (put_then l.invariant.1 c.put_line-at.ensures.put (omega (arith, c.put_line-at.ensures.put.ends))),
    )

pub returns : goal.returns
returns c =
    let a = c.args in
    put_as (lines_all a.id.now a.body a.b.now c.loop-i.i (omega arith)) c.loop-i.invariant.1
