-- `fields::hex_value` meets its contract. Assumes nothing.
use mathlib.Core.Path.{sym}
use native.Mathlib.Omega.{arith}
use Rattle.lines.proofs.SaidLaws.{low_value, high_value, hex_value_small}
use Rattle.fields.proofs.HashLaws.{low_digit, high_digit}
use Rattle.fields.proofs.hex_value.Goals as goal

pub overflow_sub-result : goal.overflow_sub-result
overflow_sub-result c = omega (arith, low_digit c.args.c c.requires)

pub returns-then-c-le57 : goal.returns-then-c-le57
returns-then-c-le57 c =
    let k = c.args.c in
    let f = hex_value_small k c.requires in
    let e = low_value k c.if-c-le57.true in
    (sym e, omega arith)

pub overflow_sub-result-else-c-le57 : goal.overflow_sub-result-else-c-le57
overflow_sub-result-else-c-le57 c = omega (arith, high_digit c.args.c c.requires c.if-c-le57.false)

pub returns-else-c-le57 : goal.returns-else-c-le57
returns-else-c-le57 c =
    let k = c.args.c in
    let f = hex_value_small k c.requires in
    let e = high_value k c.if-c-le57.false in
    (sym e, omega arith)
