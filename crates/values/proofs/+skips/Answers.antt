-- The functions that pass over values call each other: `skip_value`, `skip_array`, `skip_object`, `skip_list`,
-- `skip_item` and `skip_member` meet
-- their contracts. Assumes nothing.
use mathlib.Core.Path.{refl, sym, subst, ◌∙◌}
use mathlib.Core.Logic.{inl, inr}
use native.Mathlib.Omega.{arith}
use Rattle.std.specs.Prelude.{None, Some}
use Rattle.json_text.specs.Grammar.{string, scalar}
use Rattle.json_text.specs.Tight.{value, member}
use Rattle.json_text.proofs.CharLaws.{exact_skips}
use Rattle.json_text.proofs.StepLaws.{skips_goes}
use Rattle.json_text.proofs.PlaceLaws.{placed_skips}
use Rattle.values.specs.declared.Kind.TheVariants as kind
use Rattle.values.specs.Places.{Follows}
use Rattle.values.proofs.ValueLaws.{value_headed, member_no_name, member_no_colon, member_goes, value_too_deep, skips_scalar}
use Rattle.values.proofs.SkipLaws.{walk_opens, walk_no_item, walk_follows, walk_wrong, value_list}
use Rattle.values.proofs.+skips.Goals as goal

-- ---- `skip_list`

pub skip_list-loop-next-init : goal.skip_list-loop-next-init
skip_list-loop-next-init t c =
    let a = c.args in
    walk_opens a.kind a.depth a.s.now a.at c.requires c.open_at-next.result (rw c.close.ensures at c.open_at-next.ensures)

pub skip_list-returns-in_default : goal.skip_list-returns-in_default
skip_list-returns-in_default t c =
    let a = c.args in
    let g = rw c.in-Item.is at c.loop-next.invariant in
    walk_no_item a.kind a.depth a.s.now a.at c.in-Item.i g (rw c.in_default.is at c.skip_item.ensures)

pub skip_list-returns-in_err-next-in-Item : goal.skip_list-returns-in_err-next-in-Item
skip_list-returns-in_err-next-in-Item t c =
    let a = c.args in
    let g = rw c.in-Item.is at c.loop-next.invariant in
    let e = c.in-Some.e in
    let item = rw c.in-Some.is at c.skip_item.ensures in
    rw c.from_residual.ensures (walk_wrong a.kind a.depth a.s.now a.at c.in-Item.i g e item (rw c.close-in-Item.ensures at c.in_err-next-in-Item.ensures))

pub skip_list-loop-next-preserved : goal.skip_list-loop-next-preserved
skip_list-loop-next-preserved t c =
    let a = c.args in
    let g = rw c.in-Item.is at c.loop-next.invariant in
    let e = c.in-Some.e in
    let item = rw c.in-Some.is at c.skip_item.ensures in
    let n = c.in_ok-next-in-Item in
    walk_follows a.kind a.depth a.s.now a.at c.in-Item.i g e item n.next
    (subst (λ z. Follows a.s.now e z (Some n.next)) c.close-in-Item.ensures n.ensures)

-- ---- `skip_member`

pub skip_member-returns-in_err-e : goal.skip_member-returns-in_err-e
skip_member-returns-in_err-e t c =
    let a = c.args in
    rw c.from_residual.ensures
    (member_no_name (value a.depth) (value_headed a.depth) a.s.now a.at (exact_skips string a.s.now a.at None c.in_err-e.ensures))

pub skip_member-returns-then-peek-ne58 : goal.skip_member-returns-then-peek-ne58
skip_member-returns-then-peek-ne58 t c =
    let a = c.args in
    let s = a.s.now in
    let w = c.skip_ws-n in
    member_no_colon (value a.depth) (value_headed a.depth) s a.at c.in_ok-e.e w.result
    (exact_skips string s a.at (Some c.in_ok-e.e) c.in_ok-e.ensures) w.ensures (λ e. c.if-peek-ne58.true (c.peek.ensures ∙ e))

pub skip_member-returns : goal.skip_member-returns
skip_member-returns t c =
    let a = c.args in
    let s = a.s.now in
    let w = c.skip_ws-n in
    let v = c.skip_ws-v in
    let x = c.skip_value in
    skips_goes (member (value a.depth)) (value a.depth) s a.at v.result
    (member_goes (value a.depth) (value_headed a.depth) s a.at c.in_ok-e.e w.result
    (exact_skips string s a.at (Some c.in_ok-e.e) c.in_ok-e.ensures) w.ensures v.result (sym c.peek.ensures ∙ c.if-peek-ne58.false) v.ensures) x.result x.ensures

-- ---- `skip_value`

pub skip_value-returns-in_err-checked_sub-in-91 : goal.skip_value-returns-in_err-checked_sub-in-91
skip_value-returns-in_err-checked_sub-in-91 t c =
    let a = c.args in
    rw c.from_residual.ensures (value_too_deep a.s.now a.at a.depth 91 (sym c.peek.ensures ∙ c.in-91.is) (inl refl) (omega arith))

pub skip_value-returns-in_err-checked_sub-in-123 : goal.skip_value-returns-in_err-checked_sub-in-123
skip_value-returns-in_err-checked_sub-in-123 t c =
    let a = c.args in
    rw c.from_residual-in_err-checked_sub-in-123.ensures (value_too_deep a.s.now a.at a.depth 123 (sym c.peek.ensures ∙ c.in-123.is) (inr refl) (omega arith))

pub skip_value-returns-in_ok-checked_sub-in-91 : goal.skip_value-returns-in_ok-checked_sub-in-91
skip_value-returns-in_ok-checked_sub-in-91 t c =
    let a = c.args in
    let x = c.skip_array in
    value_list kind.Array a.depth _ a.s.now a.at (omega arith) (sym c.peek.ensures ∙ c.in-91.is) x.result x.ensures

pub skip_value-returns-in_ok-checked_sub-in-123 : goal.skip_value-returns-in_ok-checked_sub-in-123
skip_value-returns-in_ok-checked_sub-in-123 t c =
    let a = c.args in
    let e = c.in_ok-checked_sub-in-123 in
    let x = c.skip_object in
    value_list kind.Object a.depth e.field-0 a.s.now a.at (omega arith) (sym c.peek.ensures ∙ c.in-123.is) x.result x.ensures

pub skip_value-returns-in_default : goal.skip_value-returns-in_default
skip_value-returns-in_default t c =
    let a = c.args in
    let x = c.skip_scalar in
    skips_scalar a.s.now a.at a.depth (λ e. omega arith) (λ e. omega arith) x.result (placed_skips scalar a.s.now a.at x.result x.ensures)
