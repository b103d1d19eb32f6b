-- `refile_write` meets its contract. Assumes nothing.
use Rattle.refile.specs.Boundary.{write_call}
use Rattle.refile.proofs.CallLaws.{none_first, lent_stands, unfit_keeps, lent_refuses}
use Rattle.refile.proofs.ChangeLaws.{write_refused, write_done}
use Rattle.refile.proofs.change.refile_write.Goals as goal

pub returns-in-Err : goal.returns-in-Err
unfolding write_call
returns-in-Err c = unfit_keeps _ c.unfit.ensures (lent_refuses _ _ c.check_replica.ensures c.in-Err.is c.unfit.ensures)

pub returns-in-Err-check_content : goal.returns-in-Err-check_content
returns-in-Err-check_content c = write_refused _ _ _ _ _ _ (none_first _ c.check_replica.ensures c.in_default.is) c.check_content.ensures c.in-Err-check_content.is c.unfit-in-Err-check_content.ensures

pub write-requires : goal.write-requires
write-requires c = lent_stands _ (none_first _ c.check_replica.ensures c.in_default.is) c.requires

pub returns : goal.returns
returns c =
    write_done _ _ _ _ _ _ (none_first _ c.check_replica.ensures c.in_default.is) _ _ _ _ _ c.check_content.ensures c.in_default-check_content.is c.content_from-content.ensures
    c.write.ensures c.written.ensures
