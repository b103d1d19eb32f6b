-- `report::report` meets its contract. Assumes nothing.
use mathlib.Core.Path.{refl, sym}
use native.Mathlib.Omega.{arith}
use Rattle.report.proofs.AnswerLaws.{still_long, handed}
use Rattle.report.proofs.report.Goals as goal

pub slice_bounds-hand_over-end : goal.slice_bounds-hand_over-end
slice_bounds-hand_over-end c = sym (still_long c.put_report-n.ensures (omega arith))

pub hand_over-requires : goal.hand_over-requires
hand_over-requires c =
    let put = c.put_report-n.ensures in
    let l = still_long put (omega arith) in
    omega (arith, put.most)

pub returns : goal.returns
returns c =
    let handing = c.hand_over in
    let a = c.args in
    handed c.put_report-n.ensures a.image.now a.out.now handing.new.out handing.result refl handing.ensures
