-- `json_text::skip_word` meets its contract. Assumes nothing.
use native.Mathlib.Omega.{arith}
use mathlib.Core.Path.{sym, ◌∙◌}
use Rattle.std.proofs.lemmas.Grind.{common_steps}
use Rattle.json_text.proofs.LiteralLaws.{word_ends, word_wrong}
use Rattle.json_text.proofs.skip_word.Goals as goal

pub returns-then-starts_with : goal.returns-then-starts_with
returns-then-starts_with c =
    let a = c.args in
    word_ends a.s.now a.at a.word.now _ (grind (arith, common_steps)) c.requires (sym c.starts_with.ensures.value ∙ c.if-starts_with.true)

pub returns : goal.returns
returns c =
    let a = c.args in
    word_wrong a.s.now a.at a.word.now _ (grind (arith, common_steps)) (sym c.starts_with.ensures.value ∙ c.if-starts_with.false)
