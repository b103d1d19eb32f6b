-- What a walk over the members of an object knows.
use Rattle.std.specs.Prelude.{List, ◌≡◌, ℕ, ◌+◌, get_or}
use Rattle.std.specs.Prelude.{Option, None, Some}
use Rattle.json_text.specs.Grammar.{string}
use Rattle.json_text.specs.Tight.{member, value}
use Rattle.json_text.specs.Members.{Json, object_of, value_of, line_of}
use Rattle.json_text.specs.Skips.{WsTo, OnlyAt, NoText}
use Rattle.values.specs.Reading.{ListAt}
use Rattle.lines.specs.Take.{Members}
use Rattle.takes.specs.Spots.{Spots, SpotsAre}

-- a name stands at `at` and ends at e, and behind a colon with the white space around it stands v
pub record NameAt (s : List ℕ) (at e v : ℕ) : Type 0 where
  pub named : OnlyAt string s at e
  pub colon : ℕ
  pub white : WsTo s e colon
  pub is : get_or s colon 0 ≡ 58
  pub spaces : WsTo s (colon + 1) v

-- no member stands at `at`
unfoldable pub NoMember : List ℕ → ℕ → Type 0
NoMember s at = (d : ℕ) → NoText (member (value d)) s at

abbrev pub Names : List ℕ → ℕ → Option (ℕ × ℕ) → Type 0
Names s at (Some (e, v)) = NameAt s at e v
Names s at None = NoMember s at

-- an object whose values go at most d deep stands from `at` to e, and these are the spots of its members
pub record Passes (d : ℕ) (s : List ℕ) (at e : ℕ) (p : Spots) : Type 0 where
  pub members : List (List ℕ × Json d)
  pub is : ListAt (object_of (value_of d)) members s at e
  pub spots : SpotsAre d s members p

-- the text is a line, and these are the spots of its members
pub record LineIs (s : List ℕ) (p : Spots) : Type 0 where
  pub members : Members
  pub is : line_of members s
  pub spots : SpotsAre 15 s members p
