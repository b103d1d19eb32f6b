-- `number::get8` meets its contract. Assumes nothing.
use Rattle.std.proofs.Common.{arith}
use Rattle.octets.proofs.NumberLaws.{number_read}
use Rattle.octets.proofs.number.get8.Goals as goal

pub returns : goal.returns
returns c = number_read _ _ 7 c.requires c.type_inv.s c.bytes_at.ensures c.from_be_bytes.ensures (omega arith)
