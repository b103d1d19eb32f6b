-- `fields::is_unwritable` meets its contract. Assumes nothing.
use Rattle.std.proofs.Common.{◌∙◌, rules, tests}
use Rattle.std.proofs.lemmas.Iterator.{YieldsList-from_slice}
use Rattle.std.proofs.lemmas.Iterator.Search.{any_from_yields_List}
use Rattle.lines.specs.Take.{unwritable}
use Rattle.fields.proofs.NameLaws.{any_same}
use Rattle.fields.proofs.is_unwritable.Goals as goal

pub returns : goal.returns
unfolding unwritable
returns c = any_from_yields_List _ _ _ _ c.any.ensures.ran (YieldsList-from_slice c.args.id.now cc) (λ x b q k. search (rules, tests)) ∙ any_same _ _
