-- `path::put_above` meets its contract. Assumes nothing.
use mathlib.Core.List.{[]}
use mathlib.Core.Path.{◌∙◌, ◌≡◌, ap, sym}
use Prim.Native.Nat.{◌+◌}
use native.Mathlib.Omega.{arith}
use lib.ListN.{length}
use Rattle.tree.proofs.PathLaws.{above_falls, above_found, above_gap, above_some, above_within, written_none, written_one, written_step}
use Rattle.tree.proofs.SearchLaws.{search_part}
use Rattle.tree.specs.Path.{HasParent, path_above}
use Rattle.tree.specs.Table.{body}
use Rattle.tree.proofs.path.+put_above.Goals as goal

pub parent_of-requires : goal.parent_of-requires
parent_of-requires t c = omega (arith, c.requires.rows.within)

pub returns-in_default : goal.returns-in_default
returns-in_default t c =
    let p : path_above c.args.base c.args.i c.args.s.now ≡ [] = rw c.in_default.is at c.parent_of.ensures in
    written_none c.args.at c.args.out.now p

pub put_hash-requires : goal.put_hash-requires
put_hash-requires t c =
    let has : HasParent c.args.base c.args.i c.args.s.now c.in-Some.parent = rw c.in-Some.is at c.parent_of.ensures in
    omega (arith, above_some _ _ _ _ has, c.requires.room)

pub overflow_add-next : goal.overflow_add-next
overflow_add-next t c =
    let has : HasParent c.args.base c.args.i c.args.s.now c.in-Some.parent = rw c.in-Some.is at c.parent_of.ensures in
    omega (arith, above_some _ _ _ _ has, c.requires.room, c.well_formed)

pub find-requires : goal.find-requires
find-requires t c =
    let a = c.args in
    search_part (body a.base (a.i + 1)) a.i a.s.now c.requires.rows (omega arith)

pub put_above-requires : goal.put_above-requires
put_above-requires t c =
    let a = c.args in
    let h : HasParent c.args.base c.args.i c.args.s.now c.in-Some.parent = rw c.in-Some.is at c.parent_of.ensures in
    let e = sym c.find.ensures ∙ c.in-Ok.is in
    let w = above_within _ _ _ _ h c.in-Ok.j e in
    let n = ap length (above_found _ _ _ _ h c.in-Ok.j e) in (
      omega (arith, above_falls _ _ _ _ h c.in-Ok.j e, c.decreases),
      record {
        rows = search_part (body a.base (a.i + 1)) (c.in-Ok.j + 1) a.s.now c.requires.rows (omega arith);
        room = omega (arith, n, c.requires.room, c.put_hash.auto.s);
      },
    )

pub returns : goal.returns
returns t c =
    let has : HasParent c.args.base c.args.i c.args.s.now c.in-Some.parent = rw c.in-Some.is at c.parent_of.ensures in
    let p = above_found _ _ _ _ has c.in-Ok.j (sym c.find.ensures ∙ c.in-Ok.is) in
    let put = c.put_hash.ensures in
    written_step _ c.args.at _ _ _ _ p put.size c.requires.room put.is c.put_above.ensures

pub returns-in_default-find : goal.returns-in_default-find
returns-in_default-find t c =
    let has : HasParent c.args.base c.args.i c.args.s.now c.in-Some.parent = rw c.in-Some.is at c.parent_of.ensures in
    let p = above_gap _ _ _ _ has c.in_default-find.field-0 (sym c.find.ensures ∙ c.in_default-find.is) in
    let put = c.put_hash.ensures in
    written_one _ c.args.at _ _ p put.size c.requires.room put.is
