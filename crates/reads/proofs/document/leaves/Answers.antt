-- `document::leaves` meets its contract. Assumes nothing.
use Rattle.std.proofs.lemmas.Result.{err_from_is_err_and}
use Rattle.reads.proofs.DocumentLaws.{leaves_reads, read_opened, read_refused}
use Rattle.reads.proofs.document.leaves.Goals as goal

pub returns-in_err-rows_of : goal.returns-in_err-rows_of
returns-in_err-rows_of c =
    let p = err_from_is_err_and c.from_residual.result c.from_residual.ensures.1 in
    rw (p.1, p.2) (read_refused (leaves_reads _ _ _) (c.rows_of.ensures.refused _ c.in_err-rows_of.was))

pub answer_leaves-requires : goal.answer_leaves-requires
answer_leaves-requires c = (c.rows_of.ensures.at _ c.in_ok-rows_of.was).rows

pub returns : goal.returns
returns c = read_opened (leaves_reads _ _ _) (c.rows_of.ensures.at _ c.in_ok-rows_of.was) c.answer_leaves.ensures
