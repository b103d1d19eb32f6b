-- `text::put_rev` meets its contract. Assumes nothing.
use Rattle.std.proofs.Common.{◌≡◌, length, arith, rules}
use Rattle.rules.specs.Report.{text}
use Rattle.rules.specs.Room.{hash_size}
use Rattle.text.proofs.TextLaws.{length-hex, decimal_most_lem, put_then, put_as, rev_joined}
use Rattle.text.proofs.put_rev.Goals as goal

pub put_decimal-dash-requires : goal.put_decimal-dash-requires
put_decimal-dash-requires c = omega (arith, decimal_most_lem c.args.rev.number.0 (omega arith))

pub put_word-h-requires : goal.put_word-h-requires
put_word-h-requires c = omega (arith, decimal_most_lem c.args.rev.number.0 (omega arith))

pub put_hex-requires : goal.put_hex-requires
put_hex-requires c =
    let h : length c.args.rev.hash ≡ hash_size = search rules in
    omega (arith, decimal_most_lem c.args.rev.number.0 (omega arith))

pub returns : goal.returns
unfolding text
returns c =
    let v = c.args.rev in
    let h : length v.hash ≡ hash_size = search rules in
    let n = decimal_most_lem v.number.0 (omega arith) in
    let l = length-hex v.hash in
    record {
      put =
          put_as (rev_joined v)
          (put_then (put_then c.put_decimal-dash.ensures c.put_word-h.ensures (omega arith)) c.put_hex.ensures (omega arith));
      most = omega arith;
    }
