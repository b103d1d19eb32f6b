-- `path::count_above` meets its contract. Assumes nothing.
use mathlib.Core.List.{[]}
use mathlib.Core.Path.{◌∙◌, ◌≡◌, ap, sym}
use Prim.Native.Nat.{◌+◌}
use native.Mathlib.Omega.{arith}
use lib.ListN.{length}
use Rattle.tree.proofs.PathLaws.{above_falls, above_found, above_gap, above_within}
use Rattle.tree.proofs.SearchLaws.{search_part}
use Rattle.tree.specs.Path.{HasParent, path_above}
use Rattle.tree.specs.Table.{body}
use Rattle.tree.proofs.path.+count_above.Goals as goal

pub parent_of-requires : goal.parent_of-requires
parent_of-requires t c = omega (arith, c.requires.within)

pub returns-in_default : goal.returns-in_default
returns-in_default t c =
    let p : path_above c.args.base c.args.i c.args.s.now ≡ [] = rw c.in_default.is at c.parent_of.ensures in
    record { is = sym (ap length p); most = omega arith }

pub find-requires : goal.find-requires
find-requires t c =
    let a = c.args in
    search_part (body a.base (a.i + 1)) a.i a.s.now c.requires (omega arith)

pub count_above-requires : goal.count_above-requires
count_above-requires t c =
    let has : HasParent c.args.base c.args.i c.args.s.now c.in-Some.parent = rw c.in-Some.is at c.parent_of.ensures in
    let a = c.args in
    let e = sym c.find.ensures ∙ c.in-Ok.is in
    let w = above_within _ _ _ _ has c.in-Ok.j e in (
      omega (arith, above_falls _ _ _ _ has c.in-Ok.j e, c.decreases),
      search_part (body a.base (a.i + 1)) (c.in-Ok.j + 1) a.s.now c.requires (omega arith),
    )

pub overflow_add-result : goal.overflow_add-result
overflow_add-result t c =
    let has : HasParent c.args.base c.args.i c.args.s.now c.in-Some.parent = rw c.in-Some.is at c.parent_of.ensures in
    let w = above_within _ _ _ _ has c.in-Ok.j (sym c.find.ensures ∙ c.in-Ok.is) in
    omega (arith, w, c.count_above.ensures.most, c.requires.within)

pub returns : goal.returns
returns t c =
    let has : HasParent c.args.base c.args.i c.args.s.now c.in-Some.parent = rw c.in-Some.is at c.parent_of.ensures in
    let e = sym c.find.ensures ∙ c.in-Ok.is in
    let w = above_within _ _ _ _ has c.in-Ok.j e in
    let n = ap length (above_found _ _ _ _ has c.in-Ok.j e) in
    let r = c.count_above.ensures in
    record { is = omega (arith, n, r.is); most = omega (arith, w, r.most) }

pub returns-in_default-find : goal.returns-in_default-find
returns-in_default-find t c =
    let has : HasParent c.args.base c.args.i c.args.s.now c.in-Some.parent = rw c.in-Some.is at c.parent_of.ensures in
    let p = above_gap _ _ _ _ has c.in_default-find.field-0 (sym c.find.ensures ∙ c.in_default-find.is) in
    record { is = sym (ap length p); most = omega arith }
