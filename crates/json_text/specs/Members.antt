-- The bridge from a text to what it holds, as written: the members of an object, the values of an array.
use Rattle.std.specs.Prelude.{◌≡◌, List, [], ◌∷◌, ◌++◌, ℕ, zero, suc}
use Rattle.json_text.specs.Grammar.{Rule, ◌then◌, ws, string, scalar}
use Rattle.json_text.specs.Tight.{begin_array, end_array, begin_object, end_object, name_separator, value_separator}

-- A value as written: the text of a literal, a number or a string; the members of an object, each a
-- name's text and a value; or the values of an array.
pub data Form (A : Type 0) : Type 0 where
  plain : List ℕ → Form A
  object : List (List ℕ × A) → Form A
  array : List A → Form A

-- a value in which objects and arrays go at most so deep
abbrev pub Json : ℕ → Type 0
Json zero = List ℕ
Json (suc d) = Form (Json d)

-- the text of P that stands here is t
unfoldable pub spelt : Rule → List ℕ → Rule
spelt P t a b = P a b × (a ≡ t ++ b)

module _ {A : Type 0} (item : A → Rule) (end : Rule) where
  -- *( value-separator item ) end
  unfoldable pub others : List A → Rule
  others [] = end
  others (x ∷ xs) = value_separator then item x then others xs

  -- [ item *( value-separator item ) ] end
  unfoldable pub items : List A → Rule
  items [] = end
  items (x ∷ xs) = item x then others xs

module _ {A : Type 0} (value : A → Rule) where
  -- member = string name-separator value
  unfoldable pub member_of : List ℕ × A → Rule
  member_of m = spelt string m.0 then name_separator then value m.1

  unfoldable pub object_of : List (List ℕ × A) → Rule
  object_of ms = begin_object then items member_of end_object ms

  unfoldable pub array_of : List A → Rule
  array_of vs = begin_array then items value end_array vs

  unfoldable pub form_of : Form A → Rule
  form_of (plain t) = spelt scalar t
  form_of (object ms) = object_of ms
  form_of (array vs) = array_of vs

unfoldable pub value_of : (d : ℕ) → Json d → Rule
value_of zero t = spelt scalar t
value_of (suc d) j = form_of (value_of d) j

-- the members of a line
unfoldable pub line_of : List (List ℕ × Json 15) → List ℕ → Type 0
line_of ms s = (ws then object_of (value_of 15) ms then ws) s []
