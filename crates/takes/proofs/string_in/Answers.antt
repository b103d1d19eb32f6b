-- `string_in` meets its contract. Assumes nothing.
use mathlib.Core.Path.{sym, ◌∙◌}
use native.Mathlib.Omega.{arith}
use Rattle.takes.proofs.SayLaws.{once_fits, no_part, no_quote, a_string}
use Rattle.takes.proofs.SpotLaws.{not_once}
use Rattle.takes.proofs.string_in.Goals as goal

pub returns-in_default : goal.returns-in_default
returns-in_default c = no_part c.args.s.now c.args.p (not_once c.args.p c.in_default.not-Once)

pub returns-then-peek-ne-QUOTE : goal.returns-then-peek-ne-QUOTE
returns-then-peek-ne-QUOTE c = no_quote c.args.s.now c.args.p _ _ _ c.in-Once.is c.peek.ensures c.if-peek-ne-QUOTE.true

pub overflow_add-result : goal.overflow_add-result
overflow_add-result c = let f = once_fits c.args.s.now c.args.p _ _ c.requires c.in-Once.is in omega (arith, f.0, f.1)

pub overflow_sub-result : goal.overflow_sub-result
overflow_sub-result c = let f = (once_fits c.args.s.now c.args.p _ _ c.requires c.in-Once.is).2 in omega (arith, f (sym c.peek.ensures ∙ c.if-peek-ne-QUOTE.false))

pub returns : goal.returns
returns c = a_string c.args.s.now c.args.p _ _ _ c.in-Once.is c.peek.ensures c.if-peek-ne-QUOTE.false
