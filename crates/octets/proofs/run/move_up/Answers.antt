-- `run::move_up` meets its contract. Assumes nothing.
use Rattle.std.proofs.Common.{◌∙◌, refl, ◌-◌, arith, length-set}
use Rattle.octets.proofs.SpliceLaws.{moved_end, moved_start, moved_step}
use Rattle.octets.proofs.run.move_up.Goals as goal

pub loop-k-init : goal.loop-k-init
loop-k-init c = (omega arith, moved_start c.args.s.now c.args.at c.args.len c.args.by, refl)

pub loop-k-preserved : goal.loop-k-preserved
loop-k-preserved c =
    let a = c.args in
    let l = c.loop-k in
    (omega arith, rw l.invariant.1 (moved_step a.s.now a.at a.len a.by l.k (l.k - 1) (omega arith) (omega arith) (omega arith)), simp length-set l.invariant.2)

pub returns : goal.returns
returns c =
    let a = c.args in
    let l = c.loop-k in
    l.invariant.1 ∙ moved_end a.s.now a.at a.len a.by l.k (omega arith)
