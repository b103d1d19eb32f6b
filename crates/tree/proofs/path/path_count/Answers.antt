-- `path::path_count` meets its contract. Assumes nothing.
use mathlib.Core.Path.{◌∙◌, ap, sym}
use Prim.Native.Nat.{◌+◌}
use native.Mathlib.Omega.{arith}
use lib.ListN.{length}
use Rattle.tree.proofs.PathLaws.{found_within, path_found, path_unknown, path_zero}
use Rattle.tree.proofs.SearchLaws.{search_part}
use Rattle.tree.proofs.path.path_count.Goals as goal

pub returns-then-rev-eq0 : goal.returns-then-rev-eq0
returns-then-rev-eq0 c =
    let a = c.args in
    record { is = sym (ap length (path_zero a.body a.s.now a.rev c.if-rev-eq0.true)); most = omega arith }

pub returns-in_default : goal.returns-in_default
returns-in_default c =
    let a = c.args in
    let p = path_unknown a.body a.s.now a.rev (omega (arith, c.if-rev-eq0.false)) c.in_default.field-0 (sym c.find.ensures ∙ c.in_default.is) in
    record { is = sym (ap length p); most = omega arith }

pub count_above-requires : goal.count_above-requires
count_above-requires c =
    let a = c.args in
    let w = found_within a.body a.s.now a.rev c.in-Ok.i (sym c.find.ensures ∙ c.in-Ok.is) in
    search_part a.body (c.in-Ok.i + 1) a.s.now c.requires (omega arith)

pub overflow_add-result : goal.overflow_add-result
overflow_add-result c =
    let a = c.args in
    let w = found_within a.body a.s.now a.rev c.in-Ok.i (sym c.find.ensures ∙ c.in-Ok.is) in
    omega (arith, w, c.count_above.ensures.most, c.requires.within)

pub returns : goal.returns
returns c =
    let a = c.args in
    let e = sym c.find.ensures ∙ c.in-Ok.is in
    let w = found_within a.body a.s.now a.rev c.in-Ok.i e in
    let n = ap length (path_found a.body a.s.now a.rev (omega (arith, c.if-rev-eq0.false)) c.in-Ok.i e) in
    let r = c.count_above.ensures in
    record { is = omega (arith, n, r.is); most = omega (arith, w, r.most) }
