-- `rows::AskRowsAsk::first_bad` meets its contract. Assumes nothing.
use Rattle.std.proofs.Common.{◌≡◌, ◌∙◌, ◌+◌, true, false, rules, tests}
use Rattle.std.specs.Option.{option_map}
use Rattle.std.proofs.lemmas.Iterator.{first_from_Range}
use Rattle.faults.proofs.RowLaws.{is_bad, bad_found}
use Rattle.faults.proofs.rows.AskRowsAsk.first_bad.Goals as goal

pub returns : goal.returns
returns c =
    let a = c.args in
    let bad = is_bad a.body.base a.body.rows a.k a.s.now in
    let first =
    first_from_Range _ _ _ _ (λ j. bad j ≡ true) (λ j. bad j ≡ false) c.find.ensures.ran (λ x q k. search (rules, tests)) (λ x q k. search (rules, tests)) in
    let counted : c.map.result ≡ option_map (λ j. a.k + j) c.find.result = search rules in
    counted ∙ bad_found a.body.base a.body.rows a.k a.s.now _ first
