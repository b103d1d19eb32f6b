-- `json_text::in_range` meets its contract. Assumes nothing.
use native.Mathlib.Omega.{arith}
use Rattle.std.proofs.lemmas.Grind.{common_steps}
use Rattle.json_text.proofs.CharLaws.{here_test, says_range}
use Rattle.json_text.proofs.in_range.Goals as goal

pub returns-then-lo-b : goal.returns-then-lo-b
returns-then-lo-b c =
    let a = c.args in
    here_test _ _ (says_range a.lo a.hi c.requires) a.s.now a.at _ (grind (arith, common_steps))

pub returns-else-lo-b : goal.returns-else-lo-b
returns-else-lo-b c =
    let a = c.args in
    here_test _ _ (says_range a.lo a.hi c.requires) a.s.now a.at _ (grind (arith, common_steps))
