-- `fields::spare_zero` meets its contract. Assumes nothing.
use Rattle.std.proofs.Common.{◌∙◌, rules, tests}
use native.Mathlib.Omega.{arith}
use Rattle.fields.proofs.NumberLaws.{no_spare, spare_first}
use Rattle.fields.proofs.spare_zero.Goals as goal

pub returns-in-48 : goal.returns-in-48
returns-in-48 c = search (rules, tests) ∙ spare_first c.args.t.now (omega (arith, c.in-48.len_at_least))

pub returns-in_default : goal.returns-in_default
returns-in_default c = no_spare c.args.t.now (omega (arith, c.in_default.len_below))

pub returns-in_default-2 : goal.returns-in_default-2
returns-in_default-2 c = search (rules, tests) ∙ spare_first c.args.t.now (omega (arith, c.in_default.len_at_least))
