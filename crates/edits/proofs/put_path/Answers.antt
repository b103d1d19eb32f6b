-- `put_path` meets its contract. Assumes nothing.
use Rattle.edits.proofs.ChildLaws.{path_one, path_two}
use Rattle.edits.proofs.put_path.Goals as goal

pub returns-in-Some : goal.returns-in-Some
returns-in-Some c = path_two _ _ _ _ c.requires c.put_hash.ensures _ _ c.in-Some.is c.put_hash-in-Some.ensures

pub returns-in-None : goal.returns-in-None
returns-in-None c = path_one _ _ _ _ c.requires c.put_hash.ensures c.in-None.is
