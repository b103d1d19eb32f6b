-- What the texts of a line's members say: names, numbers, hashes, revisions. None of them is decoded.
use Rattle.std.specs.Prelude.{Bool, true, false, not, ◌&&◌, ◌||◌, List, [], ◌∷◌, ◌++◌, ℕ, ◌+◌, ◌*◌, ◌-◌, eqb, leb, length}
use Rattle.std.specs.Prelude.{Option, None, Some}
use Prim.Native.String.{String}
use Rattle.rules.specs.declared.Revision.{Revision}
use Rattle.rules.specs.Choice.{pick, maybe}
use Rattle.rules.specs.Order.{order_bytes, is_equal}
use Rattle.rules.specs.Replica.{Hash, revision}
use Rattle.rules.specs.Report.{text}
use Rattle.rules.specs.Room.{hash_size, number_most}
use Rattle.json_text.specs.Members.{Form, plain, object, array}

-- ---- choosing

-- f of both where both are there
abbrev pub both : {A B C : Type 0} → (A → B → C) → Option A → Option B → Option C
both f None b = None
both f (Some a) None = None
both f (Some a) (Some b) = Some (f a b)

-- what f gives for each, where it gives something for all
unfoldable pub each : {A B : Type 0} → (A → Option B) → List A → Option (List B)
each f [] = Some []
each f (a ∷ more) = both ◌∷◌ (f a) (each f more)

unfoldable pub all : {A : Type 0} → (A → Bool) → List A → Bool
all p [] = true
all p (a ∷ more) = p a && all p more

-- neither "absent" nor "repeated"
abbrev pub once : {A : Type 0} → List A → Option A
once [] = None
once (a ∷ []) = Some a
once (a ∷ b ∷ more) = None

-- ---- strings

-- the quotation mark
abbrev pub quote : ℕ
quote = 34

unfoldable pub quoted : List ℕ → List ℕ
quoted t = quote ∷ (t ++ (quote ∷ []))

unfoldable pub but_last : List ℕ → List ℕ
but_last [] = []
but_last (c ∷ []) = []
but_last (c ∷ d ∷ t) = c ∷ but_last (d ∷ t)

-- of a string's text, what stands between its quotation marks
unfoldable pub unquote : List ℕ → Option (List ℕ)
unquote [] = None
unquote (c ∷ t) = pick (eqb c quote) (Some (but_last t)) None

-- the text of a value that is neither an object nor an array
abbrev pub plain_text : {A : Type 0} → Form A → Option (List ℕ)
plain_text (plain t) = Some t
plain_text (object ms) = None
plain_text (array vs) = None

-- what f makes of a string's text, and of another plain one's
unfoldable pub of_string : {A B : Type 0} → (List ℕ → Option B) → Form A → Option B
of_string f j = maybe None (λ t. maybe None f (unquote t)) (plain_text j)

unfoldable pub of_plain : {A B : Type 0} → (List ℕ → Option B) → Form A → Option B
of_plain f j = maybe None f (plain_text j)

-- ---- names

unfoldable pub is_name : String → List ℕ → Bool
is_name n t = is_equal (order_bytes (quoted (text n)) t)

-- the values of the members of that name, as written: "a member name with an escape is unknown"
unfoldable pub named : {A : Type 0} → String → List (List ℕ × A) → List A
named n [] = []
named n (m ∷ ms) = pick (is_name n m.0) (m.1 ∷ named n ms) (named n ms)

-- ---- numbers

unfoldable pub is_digit : ℕ → Bool
is_digit c = leb 48 c && leb c 57

unfoldable pub decimal_from : ℕ → List ℕ → ℕ
decimal_from v [] = v
decimal_from v (c ∷ t) = decimal_from (v * 10 + (c - 48)) t

-- the number that digits are, the first the heaviest
unfoldable pub decimal_value : List ℕ → ℕ
decimal_value t = decimal_from 0 t

abbrev pub is_empty : {A : Type 0} → List A → Bool
is_empty [] = true
is_empty (a ∷ more) = false

unfoldable pub spare_zero : List ℕ → Bool
spare_zero [] = false
spare_zero (c ∷ t) = eqb c 48 && not (is_empty t)

-- "numbers that exceed their field, aren't bare digits or lead with a spare zero"
unfoldable pub read_number : ℕ → List ℕ → Option ℕ
read_number most t =
    pick (not (is_empty t) && (all is_digit t && (not (spare_zero t) && leb (decimal_value t) most)))
    (Some (decimal_value t))
    None

-- ---- hashes

unfoldable pub is_hex_digit : ℕ → Bool
is_hex_digit c = is_digit c || (leb 97 c && leb c 102)

unfoldable pub hex_digit_value : ℕ → ℕ
hex_digit_value c = pick (leb c 57) (c - 48) (c - 87)

-- the bytes that hex digits are, two for each
unfoldable pub hex_value : List ℕ → List ℕ
hex_value [] = []
hex_value (c ∷ []) = []
hex_value (c ∷ d ∷ t) = (hex_digit_value c * 16 + hex_digit_value d) ∷ hex_value t

-- "Hashes are 32 lower-case hex digits"
unfoldable pub read_hash : List ℕ → Option Hash
read_hash t = pick (eqb (length t) (hash_size + hash_size) && all is_hex_digit t) (Some (hex_value t)) None

-- ---- revisions

abbrev pub dash_byte : ℕ
dash_byte = 45

-- what stands before the first dash, and after it
unfoldable pub before_dash : List ℕ → List ℕ
before_dash [] = []
before_dash (c ∷ t) = pick (eqb c dash_byte) [] (c ∷ before_dash t)

unfoldable pub after_dash : List ℕ → List ℕ
after_dash [] = []
after_dash (c ∷ t) = pick (eqb c dash_byte) t (after_dash t)

-- a number, a dash and a hash
unfoldable pub read_rev : List ℕ → Option Revision
read_rev t = both revision (read_number number_most (before_dash t)) (read_hash (after_dash t))
