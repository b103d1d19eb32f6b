-- `fields::all_digits` meets its contract. Assumes nothing.
use mathlib.Core.Path.{sym, ◌∙◌}
use lib.ListN.{drop_of_length-le}
use Rattle.lines.specs.Said.{all}
use Rattle.fields.proofs.HashLaws.{and_true, all_more}
use Rattle.fields.proofs.all_digits.Goals as goal

pub loop-c-preserved : goal.loop-c-preserved
loop-c-preserved c =
    let l = c.loop-c in
    rw c.is_hex_digit-all.ensures (l.invariant ∙ all_more c.args.t.now l.c-index l.all c.loop-c-test.true)

pub returns : goal.returns
unfolding all
returns c =
    let l = c.loop-c in
    sym (l.invariant ∙ rw (drop_of_length-le c.args.t.now c.loop-c-test.false) (and_true l.all))
