-- `document::asked_rev` meets its contract. Assumes nothing.
use Rattle.reads.proofs.MissingLaws.{asked_fields}
use Rattle.reads.proofs.document.asked_rev.Goals as goal

pub returns : goal.returns
returns c = asked_fields _ _ _ c.requires c.get4.ensures.is c.get_hash.ensures.is
