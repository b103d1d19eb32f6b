-- `order::order_bytes` meets its contract. Assumes nothing.
use Rattle.std.proofs.Common.{◌∙◌}
use Rattle.octets.proofs.ByteOrderLaws.{order_bytes_first}
use Rattle.octets.proofs.order.order_bytes.Goals as goal

pub returns-in-len1-up-len1-up : goal.returns-in-len1-up-len1-up
returns-in-len1-up-len1-up c = c.cmp.ensures ∙ order_bytes_first c.args.a.now c.args.b.now c.if-x-y.true
