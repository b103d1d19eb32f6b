-- `fields::all_digits` meets its contract. Assumes nothing.
use mathlib.Core.Path.{◌≡◌}
use mathlib.Core.Bool.{◌&&◌}
use lib.ListN.{drop}
use Rattle.lines.specs.Said.{all, is_hex_digit}
use Rattle.fields.proofs.all_digits.Given as goal

abbrev pub invariant-loop-c : goal.invariant-loop-c
invariant-loop-c l = all is_hex_digit l.t ≡ (l.all && all is_hex_digit (drop l.c-index l.t))
