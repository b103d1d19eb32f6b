-- What is read from a slice, and what is known of it.
use Rattle.std.specs.Prelude.{◌≡◌, List, ℕ, ◌<◌, length}
use Rattle.rules.specs.Bytes.{be, value, part, Bytes}
use Rattle.rules.specs.Room.{hash_size}
use Rattle.octets.specs.Splice.{splice}

-- r is the number of k bytes at `at`, and below `limit`; and they are bytes
pub record IsNumber (k limit : ℕ) (s : List ℕ) (at r : ℕ) : Type 0 where
  pub is : r ≡ value (part at k s)
  pub small : r < limit
  pub bytes : Bytes (part at k s)

-- v's k bytes now stand at `at`, and v is below `limit`
pub record NumberPut (k limit : ℕ) (before : List ℕ) (at v : ℕ) (after : List ℕ) : Type 0 where
  pub is : after ≡ splice before at (be k v)
  pub small : v < limit

-- h is the sixteen bytes at `at`
pub record IsHash (s : List ℕ) (at : ℕ) (h : List ℕ) : Type 0 where
  pub is : h ≡ part at hash_size s
  pub size : length h ≡ hash_size

-- the sixteen bytes h now stand at `at`
pub record HashPut (before : List ℕ) (at : ℕ) (h after : List ℕ) : Type 0 where
  pub is : after ≡ splice before at h
  pub size : length h ≡ hash_size
