-- `number::put8` meets its contract. Assumes nothing.
use Rattle.std.proofs.Common.{arith}
use Rattle.octets.proofs.NumberLaws.{number_put}
use Rattle.octets.proofs.number.put8.Goals as goal

pub returns : goal.returns
returns c = number_put _ _ 8 c.copy_in.ensures c.to_be_bytes.ensures (omega arith)
