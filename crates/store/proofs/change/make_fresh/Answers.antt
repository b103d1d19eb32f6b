-- `change::make_fresh` meets its contract. Assumes nothing.
use Rattle.store.proofs.ChangeLaws.{fresh_holds}
use Rattle.store.proofs.change.make_fresh.Goals as goal

pub returns : goal.returns
returns c = fresh_holds _ _ c.requires c.clear.ensures
