-- `document::missing` meets its contract. Assumes nothing.
use mathlib.Core.Path.{refl}
use Rattle.std.proofs.lemmas.Result.{err_from_is_err_and}
use Rattle.store.proofs.FitLaws.{stored_laid}
use Rattle.reads.proofs.OpenLaws.{shown_rows}
use Rattle.reads.proofs.MissingLaws.{missing_bad_id, missing_bad_asked, missing_short, missing_answers}
use Rattle.reads.proofs.document.missing.Goals as goal

pub returns-in_err-check_id : goal.returns-in_err-check_id
returns-in_err-check_id c =
    let p = err_from_is_err_and c.from_residual.result c.from_residual.ensures.1 in
    let q = c.check_id.ensures.refused _ c.in_err-check_id.was in
    rw (p.1, p.2, q.1) (missing_bad_id _ _ _ _ q.0)

pub returns-then-asked-ne0 : goal.returns-then-asked-ne0
returns-then-asked-ne0 c =
    let good = c.check_id.ensures.good c.in_ok-check_id.was in
    missing_bad_asked _ _ _ _ good c.if-asked-ne0.true

pub returns-then-out-revisions : goal.returns-then-out-revisions
returns-then-out-revisions c =
    let good = c.check_id.ensures.good c.in_ok-check_id.was in
    missing_short _ _ _ _ good c.if-asked-ne0.false c.if-out-revisions.true

pub body_of_id-body-requires : goal.body_of_id-body-requires
body_of_id-body-requires c = stored_laid _ c.requires

pub put_missing-requires : goal.put_missing-requires
put_missing-requires c =
    record {
      rows = shown_rows _ _ _ c.requires c.body_of_id-body.ensures.shows;
      room = c.if-out-revisions.false;
    }

pub returns : goal.returns
returns c =
    let good = c.check_id.ensures.good c.in_ok-check_id.was in
    missing_answers _ _ _ _ good c.if-asked-ne0.false refl c.if-out-revisions.false c.body_of_id-body.ensures.shows.tree c.put_missing.ensures.is
