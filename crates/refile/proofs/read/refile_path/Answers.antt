-- `refile_path` meets its contract. Assumes nothing.
use Rattle.refile.specs.Boundary.{path_call}
use Rattle.refile.proofs.CallLaws.{none_first, lent_stands, lent_refuses}
use Rattle.refile.proofs.ReadCallLaws.{path_bad_hash, path_answers}
use Rattle.refile.proofs.read.refile_path.Goals as goal

pub returns-in-Err : goal.returns-in-Err
unfolding path_call
returns-in-Err c = lent_refuses _ _ c.check_replica.ensures c.in-Err.is c.unfit.ensures

pub returns-then-hash-ne-HASH : goal.returns-then-hash-ne-HASH
returns-then-hash-ne-HASH c = path_bad_hash _ _ _ _ _ (none_first _ c.check_replica.ensures c.in_default.is) _ c.if-hash-ne-HASH.true c.unfit-then-hash-ne-HASH.ensures

pub path-requires : goal.path-requires
path-requires c = lent_stands _ (none_first _ c.check_replica.ensures c.in_default.is) c.requires

pub returns : goal.returns
returns c =
    path_answers _ _ _ _ _ (none_first _ c.check_replica.ensures c.in_default.is) _ _ _ _
    c.if-hash-ne-HASH.false c.get_hash.ensures c.path.ensures c.answered.ensures
