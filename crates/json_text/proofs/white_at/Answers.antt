-- `json_text::white_at` meets its contract. Assumes nothing.
use native.Mathlib.Omega.{arith}
use Rattle.std.proofs.lemmas.Grind.{common_steps}
use Rattle.json_text.proofs.CharLaws.{here_test, says_white}
use Rattle.json_text.proofs.white_at.Goals as goal

pub returns-then-b-eq10 : goal.returns-then-b-eq10
returns-then-b-eq10 c = let a = c.args in here_test _ _ says_white a.s.now a.at _ (grind (arith, common_steps))

pub returns-else-b-eq10 : goal.returns-else-b-eq10
returns-else-b-eq10 c = let a = c.args in here_test _ _ says_white a.s.now a.at _ (grind (arith, common_steps))
