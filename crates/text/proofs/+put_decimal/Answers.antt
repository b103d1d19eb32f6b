-- `text::put_decimal` meets its contract. Assumes nothing.
use Rattle.std.proofs.Common.{arith}
use Rattle.text.proofs.TextLaws.{length-digit, length_more, put_digit, put_last, in_last}
use Rattle.text.proofs.+put_decimal.Goals as goal

pub bounds-s-at : goal.bounds-s-at
bounds-s-at t c = omega (arith, length-digit c.args.v c.if-v-lt10.true)

pub returns-then-v-lt10 : goal.returns-then-v-lt10
returns-then-v-lt10 t c = let v = c.args.v in put_digit c.if-v-lt10.true (omega (arith, length-digit v c.if-v-lt10.true))

pub put_decimal-next-requires : goal.put_decimal-next-requires
put_decimal-next-requires t c = let l = length_more c.args.v (omega arith) (omega arith) in omega arith

pub bounds-s-next : goal.bounds-s-next
bounds-s-next t c = in_last {v = c.args.v} (omega arith) (omega arith) c.requires c.put_decimal-next.ensures

pub overflow_add-result-2 : goal.overflow_add-result-2
overflow_add-result-2 t c =
    let h = in_last {v = c.args.v} (omega arith) (omega arith) c.requires c.put_decimal-next.ensures in
    omega arith

pub returns : goal.returns
returns t c = put_last {v = c.args.v} (omega arith) (omega arith) c.requires c.put_decimal-next.ensures
