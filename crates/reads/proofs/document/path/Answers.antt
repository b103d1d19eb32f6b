-- `document::path` meets its contract. Assumes nothing.
use Rattle.std.proofs.lemmas.Result.{err_from_is_err_and}
use Rattle.reads.proofs.DocumentLaws.{path_reads, read_opened, read_refused}
use Rattle.reads.proofs.document.path.Goals as goal

pub returns-in_err-rows_of : goal.returns-in_err-rows_of
returns-in_err-rows_of c =
    let p = err_from_is_err_and c.from_residual.result c.from_residual.ensures.1 in
    rw (p.1, p.2) (read_refused (path_reads _ _ _ _) (c.rows_of.ensures.refused _ c.in_err-rows_of.was))

pub answer_path-requires : goal.answer_path-requires
answer_path-requires c = (c.rows_of.ensures.at _ c.in_ok-rows_of.was).rows

pub returns : goal.returns
returns c = read_opened (path_reads _ _ _ _) (c.rows_of.ensures.at _ c.in_ok-rows_of.was) c.answer_path.ensures
