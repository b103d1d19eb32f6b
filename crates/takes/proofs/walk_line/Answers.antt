-- `walk_line` meets its contract. Assumes nothing.
use mathlib.Core.Path.{sym, ◌∙◌}
use Rattle.takes.proofs.TookLaws.{line_no_brace, line_no_object, outer_within, line_goes_on, line_ends}
use Rattle.takes.proofs.walk_line.Goals as goal

pub returns-then-peek-ne-OBJECT : goal.returns-then-peek-ne-OBJECT
returns-then-peek-ne-OBJECT c = line_no_brace c.skip_ws-at.ensures c.args.path.now c.args.path.now (λ e. c.if-peek-ne-OBJECT.true (c.peek.ensures ∙ e))

pub walk_object-requires : goal.walk_object-requires
walk_object-requires c = (sym c.peek.ensures ∙ c.if-peek-ne-OBJECT.false, c.requires)

pub returns-in_err-x : goal.returns-in_err-x
returns-in_err-x c = rw c.from_residual.ensures (line_no_object c.skip_ws-at.ensures c.args.path.now _ c.walk_object.result c.walk_object.ensures c.in_err-x.was)

pub skip_ws-requires : goal.skip_ws-requires
skip_ws-requires c = outer_within c.skip_ws-at.ensures c.args.path.now _ c.walk_object.result c.walk_object.ensures _ c.in_ok-x.was

pub returns-then-skip_ws-s : goal.returns-then-skip_ws-s
returns-then-skip_ws-s c =
    line_goes_on c.skip_ws-at.ensures c.args.path.now _ c.walk_object.result c.walk_object.ensures _
    c.in_ok-x.was c.skip_ws.ensures c.if-skip_ws-s.true

pub returns : goal.returns
returns c =
    line_ends c.skip_ws-at.ensures c.args.path.now _ c.walk_object.result c.walk_object.ensures _
    c.in_ok-x.was c.skip_ws.ensures c.if-skip_ws-s.false
