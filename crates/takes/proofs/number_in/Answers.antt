-- `number_in` meets its contract. Assumes nothing.
use Rattle.takes.proofs.SayLaws.{once_fits, no_number, a_number}
use Rattle.takes.proofs.SpotLaws.{not_once}
use Rattle.takes.proofs.number_in.Goals as goal

pub returns-in_default : goal.returns-in_default
returns-in_default c = no_number c.args.s.now c.args.p c.args.most (not_once c.args.p c.in_default.not-Once)

pub slice_bounds-read_number-count : goal.slice_bounds-read_number-count
slice_bounds-read_number-count c = (once_fits c.args.s.now c.args.p _ _ c.requires c.in-Once.is).0

pub slice_bounds-read_number-start : goal.slice_bounds-read_number-start
slice_bounds-read_number-start c = (once_fits c.args.s.now c.args.p _ _ c.requires c.in-Once.is).0

pub slice_bounds-read_number-end : goal.slice_bounds-read_number-end
slice_bounds-read_number-end c = (once_fits c.args.s.now c.args.p _ _ c.requires c.in-Once.is).1

pub returns : goal.returns
returns c = a_number c.args.s.now c.args.p c.args.most _ _ c.read_number.result c.in-Once.is c.read_number.ensures
