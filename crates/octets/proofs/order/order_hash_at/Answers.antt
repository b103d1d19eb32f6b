-- `order::order_hash_at` meets its contract. Assumes nothing.
use Rattle.std.proofs.Common.{◌≡◌, ◌∙◌, ℕ, rules, length, slice_index, Fits, w8}
use Rattle.rules.specs.Bytes.{part}
use Rattle.rules.specs.Room.{hash_size}
use Rattle.rules.proofs.ByteLaws.{bytes_part, length_part}
use Rattle.octets.proofs.ByteOrderLaws.{numbers_cmp}
use Rattle.octets.proofs.NumberLaws.{bytes_all}
use Rattle.octets.proofs.order.order_hash_at.Goals as goal

pub returns : goal.returns
returns c =
    let a = c.args in
    let n : length a.h ≡ hash_size = search rules in
    let b : (i : ℕ) → Fits w8 (slice_index a.h i) = search rules in
    let p : part a.at hash_size a.s.now ≡ c.bytes_at.result = search rules in
    c.cmp.ensures
    ∙ numbers_cmp a.h (part a.at hash_size a.s.now) 15 n (length_part a.at hash_size a.s.now c.requires)
    (bytes_all a.h b) (bytes_part a.at hash_size a.s.now (bytes_all a.s.now c.type_inv.s)) c.from_be_bytes.ensures (rw p c.from_be_bytes-2.ensures)
