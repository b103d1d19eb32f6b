-- `put_numbers` meets its contract. Assumes nothing.
use mathlib.Core.Path.{refl}
use native.Mathlib.Omega.{arith}
use Rattle.refile.proofs.AnswerLaws.{put_none, put_more, put_all}
use Rattle.refile.proofs.answer.put_numbers.Goals as goal

pub loop-i-init : goal.loop-i-init
loop-i-init c = put_none _

pub loop-i-preserved : goal.loop-i-preserved
loop-i-preserved c =
    let room = c.requires in
    put_more c.args.ns.now c.args.out.now _ c.loop-i.i _ _ (omega arith) room c.loop-i.invariant refl c.put4.ensures.is

pub returns : goal.returns
returns c = put_all c.args.ns.now _ _ c.loop-i.i (omega arith) c.loop-i.invariant
