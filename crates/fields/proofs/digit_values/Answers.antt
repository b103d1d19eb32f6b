-- `fields::digit_values` meets its contract. Assumes nothing.
use native.Mathlib.Omega.{arith}
use lib.ListN.{length-set}
use Rattle.lines.specs.Said.{is_hex_digit}
use Rattle.lines.proofs.SaidLaws.{all_at}
use Rattle.fields.proofs.HashLaws.{values_more, values_done}
use Rattle.fields.proofs.digit_values.Goals as goal

pub hex_value-requires : goal.hex_value-requires
hex_value-requires c =
    let n = c.requires.size in
    all_at is_hex_digit c.args.t.now c.loop-i.i 0 c.requires.digits (omega arith)

pub loop-i-preserved : goal.loop-i-preserved
loop-i-preserved c =
    let l = c.loop-i in
    let n = c.requires.size in
    (simp length-set l.invariant.0, values_more c.args.t.now l.values l.i (omega arith) (omega arith) l.invariant.1 c.hex_value.ensures.0)

pub returns : goal.returns
returns c =
    let l = c.loop-i in
    let n = c.requires.size in
    values_done c.args.t.now l.values _ (omega arith) (omega arith) c.requires.digits l.invariant.1
