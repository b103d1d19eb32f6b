-- `read::refile_missing` meets its contract: it is the promise of the call that it makes. Assumes nothing.
use Rattle.refile_c.proofs.read.refile_missing.Goals as goal

pub returns : goal.returns
returns c = c.refile_missing.ensures
