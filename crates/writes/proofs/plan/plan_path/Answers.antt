-- `plan::plan_path` meets its contract: what is left of the path goes on from the plan so far. Assumes nothing.
use mathlib.Core.Path.{◌≡◌, refl, sym, ◌∙◌}
use mathlib.Core.Bool.{true}
use native.Mathlib.Omega.{arith}
use Rattle.tree.specs.Table.{body, tree_in, Searchable}
use Rattle.tree.proofs.SearchLaws.{search_part}
use Rattle.tree.proofs.TableLaws.{length-tree}
use Rattle.writes.specs.Path.{count_of, InPath}
use Rattle.writes.specs.Plan.{settled}
use Rattle.writes.proofs.PassLaws.{passing_start, passing_step, passing_end}
use Rattle.writes.proofs.SettledLaws.{some_row, settled_step}
use Rattle.writes.proofs.plan.plan_path.Goals.{In-loop-k, Then-is_settled, then-is_settled, else-is_settled}
use Rattle.writes.proofs.plan.plan_path.Goals as goal

pub loop-k-init : goal.loop-k-init
unfolding count_of
loop-k-init c =
    let a = c.args in
    (refl, passing_start (tree_in a.body a.b.now) a.number a.path.now a.content a.body.rows (length-tree a.body.base a.body.rows a.b.now))

-- ---- what every turn knows

able : (c : In-loop-k) → Searchable (body c.args.body.base c.loop-k.top) c.args.b.now
able c =
    let a = c.args in
    let r = c.loop-k.invariant.1.rows in
    let l = length-tree a.body.base a.body.rows a.b.now in
    search_part a.body c.loop-k.top a.b.now c.requires.search (omega arith)

in_path : (c : In-loop-k) → InPath c.args.path.now c.args.number.0 c.loop-k.k
in_path c =
    let e = c.loop-k.invariant.0 in
    let h = c.loop-k-test.true in
    record { within = omega arith; most = c.requires.most; deep = c.requires.deep }

settled_so : (c : Then-is_settled) → settled (body c.args.body.base c.loop-k.top) c.args.b.now c.args.number.0 c.args.path.now c.loop-k.k ≡ true
settled_so c = sym c.is_settled.ensures ∙ c.if-is_settled.true

-- ---- the needs

pub is_settled-requires : goal.is_settled-requires
is_settled-requires c = let h = (goal.at.is_settled-requires c).In-loop-k in ((able h).within, in_path h)

pub overflow_sub-top : goal.overflow_sub-top
overflow_sub-top c = some_row _ _ _ _ _ (settled_so (goal.at.overflow_sub-top c).Then-is_settled)

pub step-s-requires : goal.step-s-requires
step-s-requires c =
    let h = (goal.at.step-s-requires c).In-loop-k in
    let i = c.loop-k.invariant.1 in
    let w = in_path h in
    let l = w.within in
    let m = w.most in
    record { search = able h; counted = record { few = omega arith; revisions = i.revisions; parents = i.parents } }

pub loop-k-preserved : goal.loop-k-preserved
loop-k-preserved c =
    let h = (goal.at.loop-k-preserved c).In-loop-k in
    let i = c.loop-k.invariant in
    let p = in_path h in (
      i.0,
      elim c.if-is_settled.branch [
        | then-is_settled w ↦ rw (w.top-is, w.p-is)
            (passing_step c.args.body p.within p.deep i.1 refl (settled_step _ _ _ _ _ (sym c.is_settled.ensures ∙ w.if-is_settled.true) c.args.content c.loop-k.p (able h)))
        | else-is_settled w ↦ rw (w.top-is, w.p-is) (passing_step c.args.body p.within p.deep i.1 w.given.ensures w.step-s.ensures)
      ],
    )

pub returns : goal.returns
returns c =
    let i = c.loop-k.invariant in
    let e = i.0 in
    let h = c.loop-k-test.false in
    passing_end _ _ _ _ c.loop-k.k c.loop-k.top c.loop-k.p (omega arith) i.1
