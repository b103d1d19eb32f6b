-- `revs_in` meets its contract. Assumes nothing.
use mathlib.Core.Path.{◌∙◌}
use Rattle.takes.proofs.ReadLaws.{revs_no_start, revs_no_ids, revs_no_array, revs_bad_ids, revs_said}
use Rattle.takes.proofs.SpotLaws.{not_once}
use Rattle.takes.proofs.revs_in.Goals as goal

pub returns-in_err-first : goal.returns-in_err-first
returns-in_err-first c = let a = c.args in c.from_residual.ensures ∙ revs_no_start a.s.now a.start a.ids a.got c.number_in.result c.number_in.ensures c.in_err-first.was

pub returns-in_default : goal.returns-in_default
returns-in_default c =
    let a = c.args in
    revs_no_ids a.s.now a.start a.ids a.got c.number_in.result c.number_in.ensures _ c.in_ok-first.was (not_once a.ids c.in_default.not-Once)

pub returns-then-peek-ne-ARRAY : goal.returns-then-peek-ne-ARRAY
returns-then-peek-ne-ARRAY c =
    let a = c.args in
    revs_no_array a.s.now a.start a.ids a.got c.number_in.result c.number_in.ensures _ c.in_ok-first.was _ _ _ c.in-Once.is
    c.peek.ensures c.if-peek-ne-ARRAY.true

pub returns-in_err-n : goal.returns-in_err-n
returns-in_err-n c =
    let a = c.args in
    c.from_residual-in_err-n.ensures ∙ revs_bad_ids a.s.now a.start a.ids a.got c.number_in.result c.number_in.ensures _ c.in_ok-first.was _ _ _ c.in-Once.is
    c.peek.ensures c.in_err-n.was

pub returns : goal.returns
returns c =
    let a = c.args in
    revs_said a.s.now a.start a.ids a.got c.number_in.result c.number_in.ensures _ c.in_ok-first.was _ _ _ c.in-Once.is
    c.peek.ensures _ _ c.if-peek-ne-ARRAY.false c.in_ok-n.was
