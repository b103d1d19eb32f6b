-- `order::same_bytes` meets its contract. Assumes nothing.
use Rattle.std.proofs.Common.{◌∙◌}
use Rattle.octets.proofs.ByteOrderLaws.{order_bytes_eq}
use Rattle.octets.proofs.order.same_bytes.Goals as goal

pub returns : goal.returns
returns c = c.eq.ensures ∙ order_bytes_eq _ _
