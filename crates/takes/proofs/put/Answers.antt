-- `put` meets its contract. Assumes nothing.
use Rattle.takes.proofs.TookLaws.{put_refused, put_wrote}
use Rattle.takes.proofs.put.Goals as goal

pub returns-then-is_unwritable : goal.returns-then-is_unwritable
returns-then-is_unwritable c = put_refused _ c.is_unwritable.result c.requires c.is_unwritable.ensures c.if-is_unwritable.true

pub returns : goal.returns
returns c = put_wrote _ c.is_unwritable.result c.is_unwritable.ensures c.if-is_unwritable.false c.write.ensures
