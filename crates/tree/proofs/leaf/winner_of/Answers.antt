-- `leaf::winner_of` meets its contract. Assumes nothing.
use mathlib.Core.Path.{◌∙◌, ap, sym}
use Rattle.std.specs.Prelude.{Some}
use Prim.Native.Nat.{◌-◌, ◌<◌}
use native.Mathlib.Omega.{arith}
use Rattle.tree.proofs.WinnerLaws.{first_inner, first_kept, first_none, is_any, is_live, kept_within, live_found, none_live_left, none_live_more}
use Rattle.tree.proofs.leaf.winner_of.Goals as goal

pub loop-i-init : goal.loop-i-init
loop-i-init c =
    let a = c.args in
    (tt, first_none is_live a.body a.s.now, sym (first_none is_any a.body a.s.now))

pub loop-i-preserved-in-None : goal.loop-i-preserved-in-None
loop-i-preserved-in-None c =
    let l = c.loop-i in
    let k = sym c.kind_at.ensures ∙ c.in-None.is in
    let same = first_inner c.args.body l.i (l.i - 1) c.args.s.now (omega arith) (omega arith) in
    (l.invariant.0, same is_live k ∙ l.invariant.1, l.invariant.2 ∙ sym (same is_any k))

pub leaf_at-requires : goal.leaf_at-requires
leaf_at-requires c = omega (arith, c.requires.within)

pub returns-in-Some-Live : goal.returns-in-Some-Live
returns-in-Some-Live c =
    let a = c.args in
    let l = c.loop-i in
    let leaf = sym c.kind_at.ensures ∙ (c.in-Some-Live.is ∙ ap Some c.in-Some-Live.field-0-is) in
    ap Some c.leaf_at.ensures ∙ live_found a.body l.i (l.i - 1) a.s.now (omega arith) (omega arith) _ c.requires.ascending l.invariant.1 leaf

pub loop-i-preserved : goal.loop-i-preserved
loop-i-preserved c =
    let a = c.args in
    let l = c.loop-i in
    let j = l.i - 1 in
    let leaf = sym c.kind_at.ensures ∙ (c.in-Some-Deleted.is ∙ ap Some c.in-Some-Deleted.field-0-is) in
    rw c.or-deleted.ensures (
      kept_within a.body l.deleted j l.invariant.0 (omega arith),
      none_live_more a.body l.i j a.s.now (omega arith) (omega arith) leaf l.invariant.1,
      first_kept a.body l.i j a.s.now (omega arith) (omega arith) l.deleted leaf l.invariant.2,
    )

pub returns-in_err-deleted : goal.returns-in_err-deleted
returns-in_err-deleted c =
    let l = c.loop-i in
    let wins = none_live_left c.args.body l.i c.args.s.now l.deleted (omega arith) c.requires.ascending l.invariant.1 l.invariant.2 in
    c.from_residual.ensures ∙ rw c.in_err-deleted.was at wins

pub leaf_at-requires-2 : goal.leaf_at-requires-2
leaf_at-requires-2 c =
    let here : c.in_ok-deleted.field-0 < c.args.body.rows = rw c.in_ok-deleted.was at c.loop-i.invariant.0 in
    omega (arith, here, c.requires.within)

pub returns : goal.returns
returns c =
    let l = c.loop-i in
    let wins = none_live_left c.args.body l.i c.args.s.now l.deleted (omega arith) c.requires.ascending l.invariant.1 l.invariant.2 in
    ap Some c.leaf_at-2.ensures ∙ rw c.in_ok-deleted.was at wins
