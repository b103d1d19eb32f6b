-- The two kinds of list: their brackets, their items and their rules.
use Rattle.std.specs.Prelude.{ℕ}
use Rattle.json_text.specs.Grammar.{Rule}
use Rattle.json_text.specs.Tight.{array, member, object}
use Rattle.values.specs.declared.Kind.{Kind}
use Rattle.values.specs.declared.Kind.TheVariants as kind

abbrev pub open_of : Kind → ℕ
open_of kind.Array = 0x5b
open_of kind.Object = 0x7b

abbrev pub close_of : Kind → ℕ
close_of kind.Array = 0x5d
close_of kind.Object = 0x7d

-- the items of a list, whose values are by v
abbrev pub item_of : Kind → Rule → Rule
item_of kind.Array v = v
item_of kind.Object v = member v

abbrev pub list_of : Kind → Rule → Rule
list_of kind.Array v = array v
list_of kind.Object v = object v
