-- `report::line::put_field` meets its contract. Assumes nothing.
use native.Mathlib.Omega.{arith}
use Rattle.text.proofs.TextLaws.{decimal_most_lem, put_then}
use Rattle.report.proofs.line.put_field.Goals as goal

pub put_decimal-requires : goal.put_decimal-requires
put_decimal-requires c = omega (arith, decimal_most_lem c.args.v (omega arith))

pub returns : goal.returns
returns c =
    let n = decimal_most_lem c.args.v (omega arith) in
    record { put = put_then c.put_word-next.ensures c.put_decimal.ensures (omega arith); most = omega arith }
