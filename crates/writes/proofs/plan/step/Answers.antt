-- `plan::step` meets its contract. Assumes nothing.
use mathlib.Core.Path.{◌≡◌, sym, ◌∙◌}
use Rattle.std.specs.Prelude.{Ok, Err}
use native.Mathlib.Omega.{arith}
use Rattle.tree.specs.Rows.{meaning}
use Rattle.tree.specs.Table.{tree_in, place_of}
use Rattle.tree.proofs.PlaceLaws.{place_at, place_gap}
use Rattle.tree.proofs.TableLaws.{no_row}
use Rattle.writes.proofs.PassLaws.{row_found, row_within, gap_within, lower_at, lower_gap}
use Rattle.writes.proofs.plan.step.Goals as goal

pub row_at-held-requires : goal.row_at-held-requires
row_at-held-requires c =
    let at : let a = c.args in place_of 0 a.given.rev (tree_in a.body a.b.now) ≡ Ok c.in-Ok.i = sym c.find.ensures ∙ c.in-Ok.is in
    let h = row_within c.args.body _ _ _ at in
    let w = c.requires.search.within in
    omega arith

pub with_held-plan-requires : goal.with_held-plan-requires
with_held-plan-requires c =
    let at : let a = c.args in place_of 0 a.given.rev (tree_in a.body a.b.now) ≡ Ok c.in-Ok.i = sym c.find.ensures ∙ c.in-Ok.is in
    (c.requires.counted, (row_found c.args.body _ _ _ _ at c.row_at-held.ensures).0)

pub returns-in-Ok : goal.returns-in-Ok
unfolding meaning
returns-in-Ok c =
    let at : let a = c.args in place_of 0 a.given.rev (tree_in a.body a.b.now) ≡ Ok c.in-Ok.i = sym c.find.ensures ∙ c.in-Ok.is in
    let a = c.args in
    let f = row_found a.body c.in-Ok.i a.b.now a.given.rev c.row_at-held.result at c.row_at-held.ensures in
    let t = tree_in a.body a.b.now in
    record {
      plan = c.with_held-plan.ensures t f.1;
      within = (let h = f.2 in omega arith);
      lower = lower_at c.in-Ok.i a.given.rev t no_row (place_at _ _ _ at).within f.3;
    }

pub returns-in-Err : goal.returns-in-Err
unfolding meaning
returns-in-Err c =
    let gap : let a = c.args in place_of 0 a.given.rev (tree_in a.body a.b.now) ≡ Err c.in-Err.i = sym c.find.ensures ∙ c.in-Err.is in
    let a = c.args in
    let e = gap in
    let t = tree_in a.body a.b.now in
    record {
      plan = c.with_new-plan.ensures t (place_gap c.in-Err.i a.given.rev t e).found;
      within = gap_within a.body _ _ _ e;
      lower = lower_gap c.in-Err.i a.given.rev t e;
    }
