-- `document::rows_of` meets its contract. Assumes nothing.
use mathlib.Core.Path.{sym, ◌∙◌}
use Rattle.std.proofs.lemmas.Result.{err_from_is_err_and}
use Rattle.store.proofs.FitLaws.{stored_laid}
use Rattle.store.proofs.PlaceLaws.{id_found}
use Rattle.reads.proofs.OpenLaws.{refused_id, opens, opens_none, opens_at, opens_refused}
use Rattle.reads.proofs.document.rows_of.Goals as goal

pub returns-in_err-check_id : goal.returns-in_err-check_id
returns-in_err-check_id c =
    let p = err_from_is_err_and c.from_residual.result c.from_residual.ensures.1 in
    let q = c.check_id.ensures.refused _ c.in_err-check_id.was in
    rw (p.1, p.2, q.1) (opens_refused _ (refused_id _ _ q.0))

pub find_document-requires : goal.find_document-requires
find_document-requires c = stored_laid _ c.requires

pub returns-in_default : goal.returns-in_default
returns-in_default c = opens_refused _ (opens_none _ _ c.in_default.field-0 (c.check_id.ensures.good c.in_ok-check_id.was) (sym c.find_document.ensures ∙ c.in_default.is))

pub body_of-requires : goal.body_of-requires
body_of-requires c = record { laid = stored_laid _ c.requires; within = (id_found c.in-Ok.d _ _ (sym c.find_document.ensures ∙ c.in-Ok.is)).within }

pub returns : goal.returns
returns c =
    opens_at
    (opens _ _ c.in-Ok.d (c.check_id.ensures.good c.in_ok-check_id.was) _ c.requires (sym c.find_document.ensures ∙ c.in-Ok.is) c.body_of.ensures)
