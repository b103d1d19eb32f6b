-- `label_in` meets its contract. Assumes nothing.
use mathlib.Core.Path.{◌∙◌}
use Rattle.takes.proofs.SayLaws.{a_label, no_label}
use Rattle.takes.proofs.label_in.Goals as goal

pub returns-in_err-n : goal.returns-in_err-n
returns-in_err-n c = c.from_residual.ensures ∙ no_label c.args.s.now c.args.label c.number_in.result c.number_in.ensures c.in_err-n.was

pub returns : goal.returns
returns c = a_label c.args.s.now c.args.label c.number_in.result _ c.number_in.ensures c.in_ok-n.was
