-- What the answers of this crate say, and which of our names a text is.
use Rattle.std.specs.Prelude.{Bool, true, false, not, List, [], ◌∷◌, ◌≡◌, ℕ, ◌+◌, ◌*◌, ◌<◌, eqb, length, get_or, map}
use Rattle.std.specs.Prelude.{Option, None, Some}
use Prim.Native.String.{String}
use Rattle.rules.specs.Choice.{first_that, maybe}
use Rattle.rules.specs.Order.{order_bytes, is_equal}
use Rattle.rules.specs.Report.{text}
use Rattle.rules.specs.Room.{hash_size}
use Rattle.rules.specs.Write.{is_none}
use Rattle.octets.specs.Splice.{splice}
use Rattle.lines.specs.Said.{all, is_name, is_hex_digit, hex_digit_value, read_hash}
use Rattle.fields.specs.declared.Name.{Name}
use Rattle.fields.specs.declared.Name.TheVariants.{Id, Rev, Revisions, Deleted, Label, Start, Ids}

-- ---- hashes

-- the bytes that values below 16 are, two for each
unfoldable pub pairs : List ℕ → List ℕ
pairs [] = []
pairs (a ∷ []) = []
pairs (a ∷ b ∷ more) = (a * 16 + b) ∷ pairs more

-- 32 hex digits
pub record HexDigits (t : List ℕ) : Type 0 where
  pub size : length t ≡ hash_size + hash_size
  pub digits : all is_hex_digit t ≡ true

-- each is the value of a hex digit
unfoldable pub Small : List ℕ → Type 0
Small values = (i : ℕ) → get_or values i 0 < 16

-- the values of hex digits
pub record HexValues (t values : List ℕ) : Type 0 where
  pub is : values ≡ map hex_digit_value t
  pub small : Small values

-- whether t is a hash; where it is, its bytes now stand at `at`, and else no byte is another
pub record HashTaken (t before : List ℕ) (at : ℕ) (r : Bool) (after : List ℕ) : Type 0 where
  pub is : r ≡ not (is_none (read_hash t))
  pub left : after ≡ maybe before (splice before at) (read_hash t)

-- ---- names and words

-- whether a text is the word `true`
abbrev pub is_true : List ℕ → Bool
is_true t = is_equal (order_bytes (text "true") t)

-- the names of a line's members, and of those of `_revisions`
abbrev pub word : Name → String
word Id = "_id"
word Rev = "_rev"
word Revisions = "_revisions"
word Deleted = "_deleted"
word Label = "label"
word Start = "start"
word Ids = "ids"

abbrev pub our_names : List Name
our_names = Id ∷ Rev ∷ Revisions ∷ Deleted ∷ Label ∷ Start ∷ Ids ∷ []

-- the first of our names that t is
unfoldable pub name_at : List ℕ → Option Name
name_at t = first_that (map (λ n. (is_name (word n) t, n)) our_names)

-- the place of a name among ours, and whether a name is there and has the place k
abbrev pub place : Name → ℕ
place Id = 0
place Rev = 1
place Revisions = 2
place Deleted = 3
place Label = 4
place Start = 5
place Ids = 6

abbrev pub is_place : ℕ → Option Name → Bool
is_place k None = false
is_place k (Some n) = eqb k (place n)
