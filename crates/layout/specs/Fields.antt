-- What is read from a field, and how many values its bytes have.
use Rattle.std.specs.Prelude.{◌≡◌, List, ℕ, ◌+◌, ◌*◌, ◌^◌, ◌≤◌, ◌<◌, length}
use Rattle.rules.specs.Bytes.{part}
use Rattle.rules.specs.Layout.{head_size, entry_size, entry_of}
use Rattle.rules.specs.Replica.{Hash}
use Rattle.rules.specs.Room.{hash_size, id_most}

abbrev pub one_byte : ℕ
one_byte = 256

abbrev pub two_bytes : ℕ
two_bytes = 256 ^ 2

abbrev pub four_bytes : ℕ
four_bytes = 256 ^ 4

abbrev pub eight_bytes : ℕ
eight_bytes = 256 ^ 8

-- r is what the field says, and has room in it
pub record IsField (limit field r : ℕ) : Type 0 where
  pub is : r ≡ field
  pub small : r < limit

-- the same of a hash
pub record IsHashField (field r : Hash) : Type 0 where
  pub is : r ≡ field
  pub size : length r ≡ hash_size

-- the entry at `at` stands there, and its id is no longer than its field
pub record HasId (at : ℕ) (s : List ℕ) : Type 0 where
  pub within : at + entry_size ≤ length s
  pub most : (entry_of (part at entry_size s)).size ≤ id_most

-- where entry d begins
abbrev pub entry_place : ℕ → ℕ
entry_place d = head_size + entry_size * d
