-- `line::put_start` meets its contract. Assumes nothing.
use native.Mathlib.Omega.{arith}
use Rattle.rules.specs.Report.{text}
use Rattle.text.proofs.TextLaws.{put_then, put_as}
use Rattle.puts.proofs.LineLaws.{start_joined}
use Rattle.puts.proofs.line.put_start.Goals as goal

pub returns : goal.returns
unfolding text
returns c =
    put_as (start_joined _ _)
    (put_then
    (put_then (put_then c.put_word-i.ensures c.put_word-w.ensures (omega arith)) c.put_word-v.ensures (omega arith))
    c.put_rev.ensures.put (omega arith))
