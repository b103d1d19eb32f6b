-- `table::search` meets its contract. Assumes nothing.
use mathlib.Core.Path.{◌∙◌, ◌≡◌, sym}
use Prim.Native.Nat.{ℕ, ◌+◌, ◌-◌, ◌/◌, ◌≤◌, ◌<◌}
use native.Mathlib.Omega.{arith}
use lib.ListN.{length}
use Rattle.rules.specs.declared.Revision.{Revision}
use Rattle.rules.specs.Replica.{revision}
use Rattle.tree.proofs.SearchLaws.{found_row, gap_between, over_none, over_row, under_none, under_row}
use Rattle.tree.proofs.TableLaws.{length-tree}
use Rattle.tree.specs.Table.{tree_in}
use Rattle.tree.proofs.table.search.Goals as goal

-- ---- the needs
pub loop-lo-init : goal.loop-lo-init
loop-lo-init c =
    let a = c.args in
    (omega arith, omega arith, under_none _ _, over_none _ _ _ (length-tree a.body.base a.body.rows a.s.now))

pub overflow_sub-mid : goal.overflow_sub-mid
overflow_sub-mid c = omega arith

pub overflow_add-mid : goal.overflow_add-mid
overflow_add-mid c = omega arith

pub overflow_mul-mid : goal.overflow_mul-mid
overflow_mul-mid c = omega (arith, c.requires.within)

pub overflow_add-body : goal.overflow_add-body
overflow_add-body c = omega (arith, c.requires.within)

pub compare_at-requires : goal.compare_at-requires
compare_at-requires c = omega (arith, c.requires.within)

pub loop-lo-smaller-in-Less : goal.loop-lo-smaller-in-Less
loop-lo-smaller-in-Less c = omega arith

pub loop-lo-preserved-in-Less : goal.loop-lo-preserved-in-Less
loop-lo-preserved-in-Less c =
    let mid : ℕ = let l = c.loop-lo in l.lo + (l.hi - l.lo) / 2 in
    let within : mid < c.args.body.rows = omega arith in
    let sought : Revision = let a = c.args in revision a.number.0 a.hash in
    let here = over_row _ sought _ c.requires mid within (sym c.compare_at.ensures ∙ c.in-Less.is) in
    (omega arith, omega arith, c.loop-lo.invariant.2, here)

pub returns-in-Equal : goal.returns-in-Equal
returns-in-Equal c =
    let mid : ℕ = let l = c.loop-lo in l.lo + (l.hi - l.lo) / 2 in
    let within : mid < c.args.body.rows = omega arith in
    let sought : Revision = let a = c.args in revision a.number.0 a.hash in
    let here = found_row _ sought _ c.requires mid within (sym c.compare_at.ensures ∙ c.in-Equal.is) in
    sym here

pub overflow_add-lo : goal.overflow_add-lo
overflow_add-lo c = omega arith

pub loop-lo-smaller : goal.loop-lo-smaller
loop-lo-smaller c = omega arith

pub loop-lo-preserved : goal.loop-lo-preserved
loop-lo-preserved c =
    let mid : ℕ = let l = c.loop-lo in l.lo + (l.hi - l.lo) / 2 in
    let within : mid < c.args.body.rows = omega arith in
    let sought : Revision = let a = c.args in revision a.number.0 a.hash in
    let here = under_row _ sought _ c.requires mid within (sym c.compare_at.ensures ∙ c.in-Greater.is) in
    (omega arith, omega arith, here, c.loop-lo.invariant.3)

pub returns : goal.returns
returns c =
    let a = c.args in
    let l = c.loop-lo in
    let t = tree_in a.body a.s.now in
    let e : l.hi ≡ l.lo = omega arith in
    let n : l.lo ≤ length t = rw (length-tree a.body.base a.body.rows a.s.now) (omega arith) in
    sym (gap_between (revision a.number.0 a.hash) t l.lo n l.invariant.2 (rw e at l.invariant.3))
