-- `size::line_size` meets its contract. Assumes nothing.
use native.Mathlib.Omega.{arith}
use Rattle.text.proofs.TextLaws.{decimal_longest}
use Rattle.puts.specs.Puts.{line_size}
use Rattle.puts.proofs.LineLaws.{end_most}
use Rattle.puts.proofs.size.line_size.Goals as goal

pub overflow_mul-result : goal.overflow_mul-result
overflow_mul-result c = omega (arith, c.decimal_size-digits.ensures, decimal_longest c.args.number.0, c.requires)

pub overflow_add-result-2 : goal.overflow_add-result-2
overflow_add-result-2 c = omega (arith, c.decimal_size-digits.ensures, decimal_longest c.args.number.0, c.requires)

pub overflow_mul-result-2 : goal.overflow_mul-result-2
overflow_mul-result-2 c = omega (arith, c.decimal_size-digits.ensures, decimal_longest c.args.number.0, c.requires)

pub overflow_add-result-3 : goal.overflow_add-result-3
overflow_add-result-3 c = omega (arith, c.decimal_size-digits.ensures, decimal_longest c.args.number.0, c.requires)

pub overflow_add-result-4 : goal.overflow_add-result-4
overflow_add-result-4 c = omega (arith, c.decimal_size-digits.ensures, decimal_longest c.args.number.0, c.requires, c.content_size.ensures, end_most c.args.content)

pub returns : goal.returns
unfolding line_size
returns c = omega (arith, c.decimal_size-digits.ensures, c.content_size.ensures)
