-- `number::get4` meets its contract. Assumes nothing.
use Rattle.std.proofs.Common.{arith}
use Rattle.octets.specs.Octets.{IsNumber}
use Rattle.octets.proofs.NumberLaws.{number_read}
use Rattle.octets.proofs.number.get4.Goals as goal

pub returns : goal.returns
returns c =
    let n : IsNumber 4 4294967296 c.args.s.now c.args.at c.from_be_bytes.result
    = number_read _ _ 3 c.requires c.type_inv.s c.bytes_at.ensures c.from_be_bytes.ensures (omega arith) in
    record { is = omega (arith, n.is); small = omega (arith, n.small); bytes = n.bytes }
