-- `fields::is_hex_digit` meets its contract. Assumes nothing.
use Rattle.std.proofs.Common.{rules, tests}
use mathlib.Core.Path.{sym}
use native.Mathlib.Omega.{arith}
use Rattle.lines.specs.Said.{is_digit, is_hex_digit}
use Rattle.fields.proofs.HashLaws.{a_letter}
use Rattle.fields.proofs.is_hex_digit.Goals as goal

pub returns-in-48-to-57 : goal.returns-in-48-to-57
unfolding is_hex_digit is_digit
returns-in-48-to-57 c = search (rules, tests)

pub returns-in-48-to-57-2 : goal.returns-in-48-to-57-2
returns-in-48-to-57-2 c = sym (a_letter c.args.c (omega arith) (omega arith))

pub returns-in_default : goal.returns-in_default
unfolding is_hex_digit is_digit
returns-in_default c = search (rules, tests)

pub returns-in_default-2 : goal.returns-in_default-2
unfolding is_hex_digit is_digit
returns-in_default-2 c = search (rules, tests)

pub returns-in_default-3 : goal.returns-in_default-3
unfolding is_hex_digit is_digit
returns-in_default-3 c = search (rules, tests)
