-- `order::order_whole` meets its contract. Assumes nothing.
use Rattle.std.proofs.Common.{ap, ◌∙◌, arith, nat_cmp}
use Rattle.std.proofs.lemmas.List.{take_all}
use Rattle.std.specs.Cmp.Lexicographic.{slice_cmp}
use Rattle.octets.proofs.ByteOrderLaws.{order_bytes_cmp}
use Rattle.octets.proofs.order.order_whole.Goals as goal

pub returns : goal.returns
returns c =
    let a = c.args in
    c.cmp.ensures ∙ (ap (slice_cmp nat_cmp a.a.now) (search (take_all, arith)) ∙ order_bytes_cmp a.a.now a.b.now)
