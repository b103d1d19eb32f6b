-- `change::refile_write` meets its contract: it is the promise of the call that it makes. Assumes nothing.
use Rattle.refile_c.proofs.change.refile_write.Goals as goal

pub returns : goal.returns
returns c = c.refile_write.ensures
