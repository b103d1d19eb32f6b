-- `report::hand_over` meets its contract. Assumes nothing.
use mathlib.Core.Path.{refl}
use native.Mathlib.Omega.{arith}
use lib.Seq.{length-take-le}
use Rattle.reads.proofs.AnswerLaws.{reads_short, reads_answers}
use Rattle.report.proofs.hand_over.Goals as goal

pub returns-then-out-n : goal.returns-then-out-n
returns-then-out-n c = reads_short _ _ _ (omega (arith, length-take-le c.args.n c.args.s.now c.requires, c.if-out-n.true))

pub copy_in-requires : goal.copy_in-requires
copy_in-requires c = omega (arith, length-take-le c.args.n c.args.s.now c.requires, c.if-out-n.false)

pub returns : goal.returns
returns c = reads_answers _ _ _ _ _ (omega (arith, length-take-le c.args.n c.args.s.now c.requires, c.if-out-n.false)) refl c.copy_in.ensures
