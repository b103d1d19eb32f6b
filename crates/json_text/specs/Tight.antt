-- The productions of RFC 8259 with the white space between two tokens told once: it belongs to the
-- structural character, and at either end of a list to the bracket. The lines are those of `Rfc`
-- (`values:RfcLaws.line_to_rfc`, `line_from_rfc`), and a line holds one list of members.
use Rattle.std.specs.Prelude.{ℕ, zero, suc}
use Rattle.json_text.specs.Grammar.{Rule, byte, ◌then◌, ◌or◌, option, many, ws, string, scalar}

-- begin-array, end-array, begin-object, end-object, name-separator, value-separator
unfoldable pub begin_array : Rule
begin_array = byte 0x5b then ws

unfoldable pub end_array : Rule
end_array = ws then byte 0x5d

unfoldable pub begin_object : Rule
begin_object = byte 0x7b then ws

unfoldable pub end_object : Rule
end_object = ws then byte 0x7d

unfoldable pub name_separator : Rule
name_separator = ws then byte 0x3a then ws

unfoldable pub value_separator : Rule
value_separator = ws then byte 0x2c then ws

-- array = begin-array [ value *( value-separator value ) ] end-array
unfoldable pub array : Rule → Rule
array v = begin_array then option (v then many (value_separator then v)) then end_array

-- member = string name-separator value
unfoldable pub member : Rule → Rule
member v = string then name_separator then v

-- object = begin-object [ member *( value-separator member ) ] end-object
unfoldable pub object : Rule → Rule
object v = begin_object then option (member v then many (value_separator then member v)) then end_object

-- value = false / null / true / object / array / number / string, with objects and arrays at most
-- so deep
unfoldable pub value : ℕ → Rule
value zero = scalar
value (suc d) = scalar or object (value d) or array (value d)

-- JSON-text = ws value ws, the value being an object. The line is depth 1, so that what it holds
-- goes at most 15 deep.
unfoldable pub line : Rule
line = ws then object (value 15) then ws
