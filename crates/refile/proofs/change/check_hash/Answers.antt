-- `check_hash` meets its contract. Assumes nothing.
use Rattle.refile.proofs.ChangeLaws.{hash_long, hash_fine}
use Rattle.refile.proofs.change.check_hash.Goals as goal

pub returns-then-hash-ne-HASH : goal.returns-then-hash-ne-HASH
returns-then-hash-ne-HASH c = hash_long _ c.if-hash-ne-HASH.true

pub returns : goal.returns
returns c = hash_fine _ c.if-hash-ne-HASH.false
