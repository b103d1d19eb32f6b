-- `run::clear` meets its contract. Assumes nothing.
use Rattle.std.proofs.Common.{rules, arith, length-drop, length-take}
use Rattle.octets.proofs.SpliceLaws.{cleared}
use Rattle.octets.proofs.run.clear.Goals as goal

pub returns : goal.returns
returns c = cleared _ _ _ _ _ _ (c.fill.ensures.after (λ y e. search rules)) (simp (length-take, length-drop) (omega arith)) (omega arith)
