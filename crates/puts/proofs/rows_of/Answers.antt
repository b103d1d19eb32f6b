-- `rows_of` meets its contract. Assumes nothing.
use mathlib.Core.Path.{sym, ◌∙◌}
use Rattle.std.proofs.lemmas.Result.{err_from_is_err_and}
use Rattle.puts.proofs.OpenLaws.{refused_document, refused_id, opens, opens_at, opens_refused}
use Rattle.puts.proofs.rows_of.Goals as goal

pub returns-in_err-body : goal.returns-in_err-body
returns-in_err-body c =
    let p = err_from_is_err_and c.from_residual.result c.from_residual.ensures.1 in
    rw (p.1, p.2) (opens_refused _ (refused_document _ _ (c.rows_of.ensures.refused _ c.in_err-body.was)))

pub returns-then-is_unwritable : goal.returns-then-is_unwritable
returns-then-is_unwritable c = opens_refused _ (refused_id _ _ (c.rows_of.ensures.at _ c.in_ok-body.was).refusals (sym c.is_unwritable.ensures ∙ c.if-is_unwritable.true))

pub returns : goal.returns
returns c = opens_at (opens (c.rows_of.ensures.at _ c.in_ok-body.was) c.requires (sym c.is_unwritable.ensures ∙ c.if-is_unwritable.false))
