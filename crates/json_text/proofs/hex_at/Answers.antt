-- `json_text::hex_at` meets its contract. Assumes nothing.
use native.Mathlib.Omega.{arith}
use Rattle.std.proofs.lemmas.Grind.{common_steps}
use Rattle.json_text.proofs.CharLaws.{here_test, says_hex}
use Rattle.json_text.proofs.hex_at.Goals as goal

pub returns : goal.returns
returns c = let a = c.args in here_test _ _ says_hex a.s.now a.at _ (grind (arith, common_steps))
