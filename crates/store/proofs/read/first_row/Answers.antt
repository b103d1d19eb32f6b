-- `read::first_row` meets its contract. The sum is that of the documents passed. Assumes nothing.
use mathlib.Core.Path.{◌≡◌, refl, ap, ◌∙◌}
use Rattle.store.specs.Documents.{first_row, HasDocument}
use Rattle.store.proofs.EntryLaws.{first_none, first_more, standing, entry_held}
use native.Mathlib.Omega.{arith}
use Rattle.store.proofs.read.first_row.Goals as goal

pub loop-i-init : goal.loop-i-init
loop-i-init c = first_none _ _ _ refl refl

pub row_count-sum-requires : goal.row_count-sum-requires
row_count-sum-requires c = record { laid = c.requires.laid; within = omega (arith, c.requires.within) }

pub overflow_add-sum : goal.overflow_add-sum
overflow_add-sum c =
    let i = c.loop-i.i in
    let h : HasDocument c.args.b.now i = record { laid = c.requires.laid; within = omega (arith, c.requires.within) } in
    let q = standing _ c.requires.laid in
    let f = entry_held _ _ _ h refl in
    omega arith

pub loop-i-preserved : goal.loop-i-preserved
loop-i-preserved c = first_more _ c.loop-i.i _ _ (omega (arith, c.requires.within)) c.loop-i.invariant c.row_count-sum.ensures

pub returns : goal.returns
returns c =
    let e : c.loop-i.i ≡ c.args.d = omega arith in
    c.loop-i.invariant ∙ ap (first_row _) e
