-- `refile_edit` meets its contract. Assumes nothing.
use native.Mathlib.Omega.{arith}
use Rattle.refile.specs.Boundary.{edit_call}
use Rattle.refile.proofs.CallLaws.{none_first, lent_stands, unfit_keeps, lent_refuses}
use Rattle.refile.proofs.ChangeLaws.{edit_refused, edit_hash_size, parent_hash_size, edit_done}
use Rattle.refile.proofs.change.refile_edit.Goals as goal

pub returns-in-Err : goal.returns-in-Err
unfolding edit_call
returns-in-Err c = unfit_keeps _ c.unfit.ensures (lent_refuses _ _ c.check_replica.ensures c.in-Err.is c.unfit.ensures)

pub returns-in-Err-check_edit : goal.returns-in-Err-check_edit
returns-in-Err-check_edit c = edit_refused _ _ _ _ _ _ _ _ (none_first _ c.check_replica.ensures c.in_default.is) c.check_edit.ensures c.in-Err-check_edit.is c.unfit-in-Err-check_edit.ensures

pub get_hash-new-requires : goal.get_hash-new-requires
get_hash-new-requires c = let s = edit_hash_size _ _ _ _ _ _ c.check_edit.ensures c.in_default-check_edit.is in omega arith

pub parent_from-named-requires : goal.parent_from-named-requires
parent_from-named-requires c = parent_hash_size _ _ _ _ _ _ c.check_edit.ensures c.in_default-check_edit.is

pub edit-requires : goal.edit-requires
edit-requires c = lent_stands _ (none_first _ c.check_replica.ensures c.in_default.is) c.requires

pub returns : goal.returns
returns c =
    edit_done _ _ _ _ _ _ _ _ (none_first _ c.check_replica.ensures c.in_default.is) _ _ _ _ _ _ _ c.check_edit.ensures c.in_default-check_edit.is
    c.get_hash-new.ensures c.content_from-content.ensures c.parent_from-named.ensures c.edit.ensures c.edited.ensures
