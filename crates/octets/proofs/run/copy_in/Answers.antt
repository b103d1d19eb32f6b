-- `run::copy_in` meets its contract. Assumes nothing.
use Rattle.std.proofs.Common.{arith}
use Rattle.octets.proofs.SpliceLaws.{put_run}
use Rattle.octets.proofs.run.copy_in.Goals as goal

pub returns : goal.returns
returns c = put_run _ _ _ _ _ c.copy_from_slice.ensures.after (omega arith)
