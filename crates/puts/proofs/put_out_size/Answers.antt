-- `put_out_size` meets its contract. Assumes nothing.
use Rattle.std.proofs.lemmas.Result.{err_from_is_err_and}
use Rattle.puts.proofs.OpenLaws.{size_refused, size_opened}
use Rattle.puts.proofs.put_out_size.Goals as goal

pub returns-in_err-rows_of : goal.returns-in_err-rows_of
returns-in_err-rows_of c =
    let p = err_from_is_err_and c.from_residual.result c.from_residual.ensures.1 in
    rw (p.1, p.2) (size_refused _ _ (c.rows_of.ensures.refused _ c.in_err-rows_of.was))

pub lines_size-requires : goal.lines_size-requires
lines_size-requires c = (c.rows_of.ensures.at _ c.in_ok-rows_of.was).can

pub returns : goal.returns
returns c = size_opened _ _ (c.rows_of.ensures.at _ c.in_ok-rows_of.was) c.lines_size.ensures
