-- `fields::read_number` meets its contract. Assumes nothing.
use mathlib.Core.Path.{sym, ◌∙◌}
use Prim.Native.Nat.{◌+◌, ◌*◌, ◌-◌, ◌<◌}
use native.Mathlib.Omega.{arith}
use lib.ListN.{get_or}
use Rattle.fields.proofs.NumberLaws.{number_empty, number_spare, number_start, rest_other, rest_more, rest_excess, rest_done}
use Rattle.fields.proofs.read_number.Goals.{then-is_empty-via-then-is_empty, then-is_empty-via-else-is_empty+then-spare_zero, then-most-d-via-then-most-d, then-most-d-via-else-most-d+then-most-d-2}
use Rattle.fields.proofs.read_number.Goals as goal

pub returns-then-is_empty : goal.returns-then-is_empty
returns-then-is_empty c =
    elim c.then-is_empty.branch [
      | then-is_empty-via-then-is_empty w ↦ sym (number_empty _ c.args.t.now (sym c.is_empty.ensures ∙ w.if-is_empty.true))
      | then-is_empty-via-else-is_empty+then-spare_zero w ↦ sym (number_spare _ _ (sym w.spare_zero.ensures ∙ w.if-spare_zero.true))
    ]

pub loop-c-init : goal.loop-c-init
loop-c-init c = (
  omega arith,
  number_start _ c.args.t.now (sym c.is_empty.ensures ∙ c.if-is_empty.false) (sym c.spare_zero.ensures ∙ c.if-spare_zero.false),
)

pub returns-then-not-is_ascii_digit : goal.returns-then-not-is_ascii_digit
returns-then-not-is_ascii_digit c =
    let l = c.loop-c in
    sym (l.invariant.1 ∙ rest_other _ l.v _ l.c-index c.loop-c-test.true c.if-not-is_ascii_digit.ensures.cases)

pub returns-then-most-d : goal.returns-then-most-d
returns-then-most-d c =
    let l = c.loop-c in
    let t = c.args.t.now in
    let digit = c.if-not-is_ascii_digit.ensures.cases in
    let past : c.args.most < l.v * 10 + (get_or t l.c-index 0 - 48)
    = elim c.then-most-d.branch [
      | then-most-d-via-then-most-d w ↦ omega (arith, c.from-d.ensures, w.if-most-d.true)
      | then-most-d-via-else-most-d+then-most-d-2 w ↦ omega (arith, c.from-d.ensures, w.if-most-d.false, w.if-most-d-2.true)
    ] in
    sym (l.invariant.1 ∙ rest_excess _ l.v t l.c-index c.loop-c-test.true digit past)

pub loop-c-preserved : goal.loop-c-preserved
loop-c-preserved c =
    let l = c.loop-c in
    let digit = c.if-not-is_ascii_digit.ensures.cases in
    (omega arith, l.invariant.1 ∙ rw c.from-d.ensures (rest_more _ l.v _ l.c-index c.loop-c-test.true digit))

pub returns : goal.returns
returns c =
    let l = c.loop-c in
    sym (l.invariant.1 ∙ rest_done c.args.most l.v c.args.t.now l.c-index c.loop-c-test.false l.invariant.0)
