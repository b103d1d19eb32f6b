-- `size::content_size` meets its contract. Assumes nothing.
use mathlib.Core.Path.{sym}
use native.Mathlib.Omega.{arith}
use Rattle.text.proofs.TextLaws.{decimal_longest}
use Rattle.puts.proofs.LineLaws.{live_size, deleted_size}
use Rattle.puts.proofs.size.content_size.Goals as goal

pub overflow_add-result : goal.overflow_add-result
overflow_add-result c = omega (arith, c.decimal_size.ensures, decimal_longest c.in-Live.label)

pub overflow_add-result-in-Live : goal.overflow_add-result-in-Live
overflow_add-result-in-Live c = omega (arith, c.decimal_size.ensures, decimal_longest c.in-Live.label)

pub returns-in-Live : goal.returns-in-Live
returns-in-Live c = omega (arith, c.decimal_size.ensures, live_size c.in-Live.is)

pub returns-in-Deleted : goal.returns-in-Deleted
returns-in-Deleted c = sym (deleted_size c.in-Deleted.is)
