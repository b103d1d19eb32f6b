-- `path::put_path` meets its contract. Assumes nothing.
use mathlib.Core.Path.{◌∙◌, ap, sym}
use Prim.Native.Nat.{◌+◌, ◌<◌}
use native.Mathlib.Omega.{arith}
use lib.ListN.{length}
use Rattle.tree.proofs.PathLaws.{found_within, path_found, path_some, path_unknown, path_written, path_zero, written_none, written_one, written_step}
use Rattle.tree.proofs.SearchLaws.{search_part}
use Rattle.tree.proofs.path.put_path.Goals as goal

-- ---- the needs
pub returns-then-rev-eq0 : goal.returns-then-rev-eq0
returns-then-rev-eq0 c =
    let a = c.args in
    path_written (written_none a.at a.out.now (path_zero a.body a.s.now a.rev c.if-rev-eq0.true))

pub put_hash-requires : goal.put_hash-requires
put_hash-requires c =
    let some : 0 < c.args.rev.number.0 = omega (arith, c.if-rev-eq0.false) in
    let a = c.args in
    omega (arith, path_some a.body a.s.now a.rev some, c.requires.room)

pub overflow_add-next : goal.overflow_add-next
overflow_add-next c =
    let some : 0 < c.args.rev.number.0 = omega (arith, c.if-rev-eq0.false) in
    let a = c.args in
    omega (arith, path_some a.body a.s.now a.rev some, c.requires.room, c.well_formed)

pub find-requires : goal.find-requires
find-requires c = c.requires.rows

pub returns-in_default : goal.returns-in_default
returns-in_default c =
    let some : 0 < c.args.rev.number.0 = omega (arith, c.if-rev-eq0.false) in
    let p = path_unknown _ _ _ some c.in_default.field-0 (sym c.find.ensures ∙ c.in_default.is) in
    let put = c.put_hash.ensures in
    path_written (written_one _ c.args.at _ _ p put.size c.requires.room put.is)

pub put_above-requires : goal.put_above-requires
put_above-requires c =
    let some : 0 < c.args.rev.number.0 = omega (arith, c.if-rev-eq0.false) in
    let a = c.args in
    let e = sym c.find.ensures ∙ c.in-Ok.is in
    let w = found_within a.body a.s.now a.rev c.in-Ok.i e in
    let n = ap length (path_found _ _ _ some c.in-Ok.i e) in
    record {
      rows = search_part a.body (c.in-Ok.i + 1) a.s.now c.requires.rows (omega arith);
      room = omega (arith, n, c.requires.room, c.put_hash.auto.s);
    }

pub returns : goal.returns
returns c =
    let some : 0 < c.args.rev.number.0 = omega (arith, c.if-rev-eq0.false) in
    let p = path_found _ _ _ some c.in-Ok.i (sym c.find.ensures ∙ c.in-Ok.is) in
    let put = c.put_hash.ensures in
    path_written (written_step _ c.args.at _ _ _ _ p put.size c.requires.room put.is c.put_above.ensures)
