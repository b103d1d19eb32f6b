-- `json_text::simple_at` meets its contract. Assumes nothing.
use native.Mathlib.Omega.{arith}
use Rattle.std.proofs.lemmas.Grind.{common_steps}
use mathlib.Core.Bool.{true, false}
use Rattle.json_text.proofs.CharLaws.{here_test, says_simple}
use Rattle.json_text.proofs.simple_at.Goals as goal

pub returns-in-34 : goal.returns-in-34
returns-in-34 c = let a = c.args in here_test _ _ says_simple a.s.now a.at true (grind (arith, common_steps))

pub returns-in_default : goal.returns-in_default
returns-in_default c = let a = c.args in here_test _ _ says_simple a.s.now a.at false (grind (arith, common_steps))
