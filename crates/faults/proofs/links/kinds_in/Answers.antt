-- `links::kinds_in` meets its contract. Assumes nothing.
use Rattle.std.proofs.Common.{◌≡◌, ◌∙◌, ◌+◌, true, false, rules, tests}
use Rattle.std.specs.Option.{option_map, option_or}
use Rattle.std.proofs.lemmas.Iterator.{first_from_Range}
use Rattle.faults.proofs.LinkLaws.{unfit, last_missing, kinds_found}
use Rattle.faults.proofs.links.kinds_in.Goals as goal

pub returns : goal.returns
returns c =
    let a = c.args in
    let bad = unfit a.body.base a.body.rows a.k a.s.now a.marks.now a.missing c.requires.marked in
    let first =
    first_from_Range _ _ _ _ (λ j. bad j ≡ true) (λ j. bad j ≡ false) c.find.ensures.ran (λ x q k. search (rules, tests)) (λ x q k. search (rules, tests)) in
    let counted : c.map.result ≡ option_map (λ j. a.k + j) (option_or c.find.result (last_missing a.body.base a.body.rows a.k a.s.now a.marks.now a.missing c.requires.marked)) = search rules in
    counted ∙ kinds_found a.body.base a.body.rows a.k a.s.now a.marks.now a.missing c.requires.marked _ first
