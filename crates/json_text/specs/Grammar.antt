-- The grammar of JSON (RFC 8259), production by production, up to the values that hold no others.
use Rattle.std.specs.Prelude.{◌≡◌, List, ◌∷◌, ◌⊎◌, ℕ, ◌≤◌}

-- A rule of the grammar. P a b: the bytes a are a text of the rule P and then b. No rule looks at b
-- (`json_text:BlindLaws.line_blind`), so that P tells which bytes are a text of it.
abbrev pub Rule : Type 1
Rule = List ℕ → List ℕ → Type 0

-- a byte that is c
unfoldable pub byte : ℕ → Rule
byte c a b = a ≡ c ∷ b

-- a byte from lo to hi
unfoldable pub range : ℕ → ℕ → Rule
range lo hi a b = (c : ℕ) × ((lo ≤ c) × ((c ≤ hi) × (a ≡ c ∷ b)))

infixr 60 ◌then◌
infixr 50 ◌or◌
-- one after the other
unfoldable pub ◌then◌ : Rule → Rule → Rule
(P then Q) a c = (b : List ℕ) × (P a b × Q b c)

-- either
unfoldable pub ◌or◌ : Rule → Rule → Rule
(P or Q) a b = P a b ⊎ Q a b

-- [ P ]
unfoldable pub option : Rule → Rule
option P a b = (a ≡ b) ⊎ P a b

-- *( P )
pub data many (P : Rule) : List ℕ → List ℕ → Type 0 where
  none : {a : List ℕ} → many P a a
  more : {a b c : List ℕ} → P a b → many P b c → many P a c

-- 1*( P )
unfoldable pub some : Rule → Rule
some P = P then many P

-- ws = *( space / tab / line feed / carriage return )
unfoldable pub white : Rule
white = byte 0x20 or byte 0x09 or byte 0x0a or byte 0x0d

unfoldable pub ws : Rule
ws = many white

-- UTF-8 (RFC 3629): UTF8-tail and the characters of two, three and four bytes
unfoldable pub tail : Rule
tail = range 0x80 0xbf

unfoldable pub utf8_two : Rule
utf8_two = range 0xc2 0xdf then tail

unfoldable pub utf8_three : Rule
utf8_three = (range 0xe0 0xe0 then range 0xa0 0xbf then tail)
    or (range 0xe1 0xec then tail then tail)
    or (range 0xed 0xed then range 0x80 0x9f then tail)
    or (range 0xee 0xef then tail then tail)

unfoldable pub utf8_four : Rule
utf8_four = (range 0xf0 0xf0 then range 0x90 0xbf then tail then tail)
    or (range 0xf1 0xf3 then tail then tail then tail)
    or (range 0xf4 0xf4 then range 0x80 0x8f then tail then tail)

unfoldable pub utf8 : Rule
utf8 = utf8_two or utf8_three or utf8_four

-- unescaped = %x20-21 / %x23-5B / %x5D-10FFFF
unfoldable pub unescaped : Rule
unescaped = range 0x20 0x21 or range 0x23 0x5b or range 0x5d 0x7f or utf8

-- what follows the escape alone: quotation mark, reverse solidus, solidus, b, f, n, r, t
unfoldable pub simple : Rule
simple = (byte 0x22 or byte 0x5c) or (byte 0x2f or byte 0x62) or (byte 0x66 or byte 0x6e) or (byte 0x72 or byte 0x74)

unfoldable pub hex : Rule
hex = range 0x30 0x39 or range 0x41 0x46 or range 0x61 0x66

-- char = unescaped / escape ( one of the simple ones / u 4HEXDIG )
unfoldable pub char : Rule
char = unescaped or (byte 0x5c then (simple or (byte 0x75 then hex then hex then hex then hex)))

-- string = quotation-mark *char quotation-mark
unfoldable pub string : Rule
string = byte 0x22 then many char then byte 0x22

-- false, null, true
unfoldable pub literal : Rule
literal = (byte 0x66 then byte 0x61 then byte 0x6c then byte 0x73 then byte 0x65)
    or (byte 0x6e then byte 0x75 then byte 0x6c then byte 0x6c)
    or (byte 0x74 then byte 0x72 then byte 0x75 then byte 0x65)

unfoldable pub digit : Rule
digit = range 0x30 0x39

-- int = zero / ( digit1-9 *DIGIT )
unfoldable pub int : Rule
int = byte 0x30 or (range 0x31 0x39 then many digit)

-- frac = decimal-point 1*DIGIT
unfoldable pub frac : Rule
frac = byte 0x2e then some digit

-- exp = e [ minus / plus ] 1*DIGIT
unfoldable pub exp : Rule
exp = (byte 0x65 or byte 0x45) then option (byte 0x2d or byte 0x2b) then some digit

-- number = [ minus ] int [ frac ] [ exp ]
unfoldable pub number : Rule
number = option (byte 0x2d) then int then option frac then option exp

unfoldable pub scalar : Rule
scalar = literal or number or string
