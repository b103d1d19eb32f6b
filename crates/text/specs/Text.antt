-- Text written into a slice, and the place after it.
use Rattle.std.specs.Prelude.{◌≡◌, List, ℕ, suc, ◌+◌, ◌*◌, ◌≤◌, length}
use Prim.Native.String.{String}
use Rattle.rules.specs.Report.{dash}
use Rattle.rules.specs.Room.{hash_size}
use Rattle.octets.specs.Splice.{splice}

-- "Numbers are decimal": the most digits that one of 32 bits has
abbrev pub decimal_most : ℕ
decimal_most = 10

-- the bytes of a word
abbrev pub size : String → ℕ
size String.[] = 0
size (String.◌∷◌ c s) = suc (size s)

-- "hex": two digits a byte
abbrev pub hex_size : ℕ → ℕ
hex_size n = 2 * n

-- the most bytes of a revision "as number and hash"
abbrev pub rev_most : ℕ
rev_most = decimal_most + size dash + hex_size hash_size

-- the text now stands at `at`, and `next` is the place after it
pub record Put (text : List ℕ) (before : List ℕ) (at next : ℕ) (after : List ℕ) : Type 0 where
  pub is : after ≡ splice before at text
  pub ends : next ≡ at + length text

-- the text now stands at `at`, and it has no more bytes than `bound`
pub record PutWithin (bound : ℕ) (text before : List ℕ) (at next : ℕ) (after : List ℕ) : Type 0 where
  pub put : Put text before at next after
  pub most : next ≤ at + bound
