-- `replica::sequence` meets its contract. Assumes nothing.
use Rattle.store.proofs.FitLaws.{stored_laid}
use Rattle.reads.proofs.replica.sequence.Goals as goal

pub update_sequence-requires : goal.update_sequence-requires
update_sequence-requires c = stored_laid _ c.requires
