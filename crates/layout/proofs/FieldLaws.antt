-- A field of an entry or a row, which is a part of the whole, stands at its place in the whole. Assumes nothing.
use Rattle.std.proofs.Common.{◌≡◌, sym, ap, ◌∙◌, List, ℕ, ◌+◌, ◌-◌, ◌≤◌, ◌<◌, arith, get_or, take, drop, get_or-take, get_or-drop, take-take}
use Rattle.rules.specs.Bytes.{value, part}
use Rattle.rules.specs.Layout.{entry_of, id_in, entry_size}
use Rattle.rules.specs.Room.{hash_size, id_most}
use Rattle.rules.proofs.ByteLaws.{part-part}
use Rattle.octets.specs.Octets.{IsNumber, IsHash}
use Rattle.layout.specs.Fields.{IsField, IsHashField, one_byte}

-- a byte of a part
pub get_d_part : (k n i : ℕ) (s : List ℕ) → i < n → get_or (part k n s) i 0 ≡ get_or s (k + i) 0
unfolding part
get_d_part k n i s h = get_or-take n (drop k s) i 0 h ∙ get_or-drop k s i 0

-- the field begins i bytes into the n bytes from `at` on, which is at p
module _ (i n at : ℕ) {p : ℕ} (e : p ≡ at + i) where
  pub byte_field : (s : List ℕ) → i < n → get_or s p 0 < one_byte → IsField one_byte (get_or (part at n s) i 0) (get_or s p 0)
  byte_field s h b = record { is = ap (λ (k : ℕ). get_or s k 0) e ∙ sym (get_d_part at n i s h); small = b }

  pub number_field : {k limit r : ℕ} {s : List ℕ} → i + k ≤ n → IsNumber k limit s p r → IsField limit (value (part i k (part at n s))) r
  number_field {k} {limit} {r} {s} h q =
      record {
        is = q.is ∙ (ap (λ (j : ℕ). value (part j k s)) e ∙ ap value (sym (part-part i k at n s h)));
        small = q.small;
      }

  pub hash_field : {r s : List ℕ} → i + hash_size ≤ n → IsHash s p r → IsHashField (part i hash_size (part at n s)) r
  hash_field {r} {s} h q =
      record { is = q.is ∙ (ap (λ (j : ℕ). part j hash_size s) e ∙ sym (part-part i hash_size at n s h)); size = q.size }

-- an entry's id, as a slice from a to e is
module _ (at : ℕ) (s : List ℕ) (h : (entry_of (part at entry_size s)).size ≤ id_most) where
  id_part : (entry_of (part at entry_size s)).id ≡ take (entry_of (part at entry_size s)).size (drop (at + id_in) s)
  unfolding entry_of part
  id_part =
      let n = get_or (part at entry_size s) 0 0 in
      ap (take n) (part-part id_in id_most at entry_size s (omega arith)) ∙ take-take n id_most (drop (at + id_in) s) h

  pub id_slice : (a e : ℕ) → a ≡ at + id_in → e ≡ a + (entry_of (part at entry_size s)).size
      → take (e - a) (drop a s) ≡ (entry_of (part at entry_size s)).id
  id_slice a e p q =
      let n : e - a ≡ (entry_of (part at entry_size s)).size = omega arith in
      rw (n, p) (sym id_part)
