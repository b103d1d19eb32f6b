-- `json_text::digit_at` meets its contract. Assumes nothing.
use native.Mathlib.Omega.{arith}
use Rattle.std.proofs.lemmas.Grind.{common_steps}
use Rattle.json_text.specs.Grammar.{digit}
use Rattle.json_text.proofs.CharLaws.{here_test, says_range}
use Rattle.json_text.proofs.digit_at.Goals as goal

pub returns : goal.returns
unfolding digit
returns c = let a = c.args in here_test _ _ (says_range 48 57 (omega arith)) a.s.now a.at _ (grind (arith, common_steps))
