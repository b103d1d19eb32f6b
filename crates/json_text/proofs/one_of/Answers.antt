-- `json_text::one_of` meets its contract. Assumes nothing.
use native.Mathlib.Omega.{arith}
use Rattle.std.proofs.lemmas.Grind.{common_steps}
use Rattle.json_text.proofs.CharLaws.{here_test, says_byte, says_or}
use Rattle.json_text.proofs.one_of.Goals as goal

pub returns-then-b-x : goal.returns-then-b-x
returns-then-b-x c =
    let a = c.args in
    here_test _ _ (says_or _ _ _ _ (says_byte a.x c.requires.0) (says_byte a.y c.requires.1)) a.s.now a.at _ (grind (arith, common_steps))

pub returns-else-b-x : goal.returns-else-b-x
returns-else-b-x c =
    let a = c.args in
    here_test _ _ (says_or _ _ _ _ (says_byte a.x c.requires.0) (says_byte a.y c.requires.1)) a.s.now a.at _ (grind (arith, common_steps))
