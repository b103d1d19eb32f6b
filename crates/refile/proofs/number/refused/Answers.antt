-- `refused` meets its contract. Assumes nothing.
use Rattle.refile.proofs.NumberLaws.{result_refused}
use Rattle.refile.proofs.number.refused.Goals as goal

pub returns : goal.returns
returns c = result_refused _ c.requires.0
