-- `write` meets its contract. Assumes nothing.
use mathlib.Core.Path.{sym, ◌∙◌}
use Rattle.store.proofs.FitLaws.{stored_laid}
use Rattle.writes.proofs.WriteLaws.{clear_none, refused_some, wrote_formless}
use Rattle.std.proofs.lemmas.Result.{err_from_is_err_and}
use Rattle.writes.proofs.write.Goals as goal

pub returns-in_err-form : goal.returns-in_err-form
returns-in_err-form c =
    let p = err_from_is_err_and c.from_residual.result c.from_residual.ensures.1 in
    rw (p.1, p.2) (wrote_formless c.requires (refused_some _ _ (sym (c.form.ensures c.args.content) ∙ c.in_err-form.was)))

pub find_document-found-requires : goal.find_document-found-requires
find_document-found-requires c = stored_laid _ c.requires

pub write_to-requires : goal.write_to-requires
write_to-requires c =
    record {
      stored = c.requires;
      place = sym c.find_document-found.ensures;
      form = clear_none _ (sym (c.form.ensures c.args.content)
          ∙ c.in_ok-form.was);
    }

pub returns : goal.returns
returns c = c.write_to.ensures
