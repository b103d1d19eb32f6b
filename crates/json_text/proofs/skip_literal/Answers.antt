-- `json_text::skip_literal` meets its contract. Assumes nothing.
use mathlib.Core.Path.{sym, ◌∙◌}
use Rattle.json_text.proofs.LiteralLaws.{Word, lit_false, lit_null, lit_true}
use Rattle.json_text.proofs.skip_literal.Goals as goal

pub returns-then-b-eq102 : goal.returns-then-b-eq102
unfolding Word
returns-then-b-eq102 c =
    let a = c.args in
    let x = c.skip_word in
    lit_false a.s.now a.at (sym c.peek-b.ensures ∙ c.if-b-eq102.true) x.result x.ensures

pub returns-then-b-eq110 : goal.returns-then-b-eq110
unfolding Word
returns-then-b-eq110 c =
    let a = c.args in
    let x = c.skip_word-then-b-eq110 in
    lit_null a.s.now a.at (sym c.peek-b.ensures ∙ c.if-b-eq110.true) x.result x.ensures

pub returns : goal.returns
unfolding Word
returns c =
    let a = c.args in
    let x = c.skip_word-2 in
    lit_true a.s.now a.at (λ e. c.if-b-eq102.false (c.peek-b.ensures ∙ e)) (λ e. c.if-b-eq110.false (c.peek-b.ensures ∙ e)) x.result x.ensures
