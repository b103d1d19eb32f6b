-- The six structural characters exactly as section 2 of RFC 8259 writes them, with white space on
-- both sides, and the productions over them. A line by these is a line by `Tight` and the other way
-- round (`values:RfcLaws.line_to_rfc`, `line_from_rfc`), so either may be believed.
use Rattle.std.specs.Prelude.{ℕ, zero, suc}
use Rattle.json_text.specs.Grammar.{Rule, byte, ◌then◌, ◌or◌, option, many, ws, string, scalar}

-- begin-array = ws [ ws, and the others by their characters
unfoldable pub begin_array : Rule
begin_array = ws then byte 0x5b then ws

unfoldable pub begin_object : Rule
begin_object = ws then byte 0x7b then ws

unfoldable pub end_array : Rule
end_array = ws then byte 0x5d then ws

unfoldable pub end_object : Rule
end_object = ws then byte 0x7d then ws

unfoldable pub name_separator : Rule
name_separator = ws then byte 0x3a then ws

unfoldable pub value_separator : Rule
value_separator = ws then byte 0x2c then ws

-- member = string name-separator value
unfoldable pub member : Rule → Rule
member v = string then name_separator then v

-- object = begin-object [ member *( value-separator member ) ] end-object
unfoldable pub object : Rule → Rule
object v = begin_object then option (member v then many (value_separator then member v)) then end_object

-- array = begin-array [ value *( value-separator value ) ] end-array
unfoldable pub array : Rule → Rule
array v = begin_array then option (v then many (value_separator then v)) then end_array

-- value = false / null / true / object / array / number / string: "an object may hold arrays and an
-- array may hold objects", at most so deep
unfoldable pub value : ℕ → Rule
value zero = scalar
value (suc d) = scalar or object (value d) or array (value d)

-- JSON-text = ws value ws, the value being an object, "to depth 16, the line being 1"
unfoldable pub line : Rule
line = ws then object (value 15) then ws
