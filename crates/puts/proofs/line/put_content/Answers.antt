-- `line::put_content` meets its contract. Assumes nothing.
use native.Mathlib.Omega.{arith}
use Rattle.rules.specs.Report.{text}
use Rattle.text.proofs.TextLaws.{put_then, put_as}
use Rattle.puts.proofs.LineLaws.{live_joined, live_size, deleted_joined, deleted_size}
use Rattle.puts.proofs.line.put_content.Goals as goal

pub put_word-n-requires : goal.put_word-n-requires
put_word-n-requires c = omega (arith, live_size c.in-Live.is, c.requires)

pub put_decimal-w-requires : goal.put_decimal-w-requires
put_decimal-w-requires c = omega (arith, live_size c.in-Live.is, c.requires, c.put_word-n.ensures.ends)

pub put_word-requires : goal.put_word-requires
put_word-requires c = omega (arith, live_size c.in-Live.is, c.requires, c.put_word-n.ensures.ends, c.put_decimal-w.ensures.ends)

pub put_word-requires-in-Deleted : goal.put_word-requires-in-Deleted
put_word-requires-in-Deleted c = omega (arith, deleted_size c.in-Deleted.is, c.requires)

pub returns-in-Live : goal.returns-in-Live
unfolding text
returns-in-Live c =
    let e = c.in-Live.is in
    let z = live_size e in
    let room = c.requires in
    put_as (live_joined e)
    (put_then (put_then c.put_word-n.ensures c.put_decimal-w.ensures (omega arith)) c.put_word.ensures (omega arith))

pub returns-in-Deleted : goal.returns-in-Deleted
unfolding text
returns-in-Deleted c = put_as (deleted_joined c.in-Deleted.is) c.put_word-in-Deleted.ensures
