-- `answer_lines` meets its contract. Assumes nothing.
use native.Mathlib.Omega.{arith}
use Rattle.puts.proofs.OpenLaws.{lines_short, lines_answered}
use Rattle.puts.proofs.answer_lines.Goals as goal

pub returns-then-out-size : goal.returns-then-out-size
returns-then-out-size c = lines_short _ _ _ c.lines_size-size.ensures c.if-out-size.true

pub put_lines-requires : goal.put_lines-requires
put_lines-requires c = record { can = c.requires; room = omega (arith, c.lines_size-size.ensures, c.if-out-size.false) }

pub returns : goal.returns
returns c = lines_answered _ _ _ (omega (arith, c.lines_size-size.ensures, c.if-out-size.false)) c.put_lines.ensures
