-- `check_edit` meets its contract. Assumes nothing.
use Rattle.std.proofs.lemmas.Result.{err_from_is_err_and}
use Rattle.refile.proofs.ChangeLaws.{edit_content, edit_flag, edit_hash, edit_parent}
use Rattle.refile.proofs.change.check_edit.Goals as goal

pub returns-in_err-check_content : goal.returns-in_err-check_content
returns-in_err-check_content c =
    let p = err_from_is_err_and c.from_residual.result c.from_residual.ensures.1 in
    rw (p.1, p.2) (edit_content _ _ _ _ _ _ c.check_content.ensures c.in_err-check_content.was)

pub returns-then-named-gt1 : goal.returns-then-named-gt1
returns-then-named-gt1 c = edit_flag _ _ _ _ _ _ c.check_content.ensures c.in_ok-check_content.was c.if-named-gt1.true

pub returns-in_err-check_hash : goal.returns-in_err-check_hash
returns-in_err-check_hash c =
    let p = err_from_is_err_and c.from_residual-in_err-check_hash.result c.from_residual-in_err-check_hash.ensures.1 in
    rw (p.1, p.2) (edit_hash _ _ _ _ _ _ c.check_content.ensures c.in_ok-check_content.was c.if-named-gt1.false c.check_hash.ensures c.in_err-check_hash.was)

pub returns : goal.returns
returns c =
    edit_parent _ _ _ _ _ _ c.check_content.ensures c.in_ok-check_content.was c.if-named-gt1.false c.check_hash.ensures c.in_ok-check_hash.was
    c.check_parent.ensures
