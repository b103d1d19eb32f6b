-- Where the values of our members stand in a line, and what is read there.
use Rattle.std.specs.Prelude.{List, [], ◌∷◌, ◌≡◌, ℕ, ◌+◌, ◌-◌, ◌≤◌, eqb, length, take, drop, get_or, set, replicate}
use Rattle.std.specs.Prelude.{Option, None, Some}
use Rattle.rules.specs.Choice.{pick}
use Rattle.rules.specs.declared.Content.{Content}
use Rattle.json_text.specs.Members.{Json, value_of}
use Rattle.lines.specs.Said.{quote, named}
use Rattle.lines.specs.Take.{read_true, read_label}
use Rattle.takes.specs.declared.Spot.{Spot}
use Rattle.takes.specs.declared.Spot.TheVariants.{Absent, Once, Repeated}
use Rattle.fields.specs.declared.Name.{Name}
use Rattle.fields.specs.Fields.{word, place}

-- ---- where they stand

-- the value j stands from v to e
pub record ValueAt (d : ℕ) (j : Json d) (s : List ℕ) (v e : ℕ) : Type 0 where
  pub from : v ≤ e
  pub within : e ≤ length s
  pub is : value_of d j (drop v s) (drop e s)

-- where the values vs of the members of one name stand
abbrev pub SpotIs : (d : ℕ) → List ℕ → List (Json d) → Spot → Type 0
SpotIs d s vs Absent = vs ≡ []
SpotIs d s vs (Once v e) = (j : Json d) × (vs ≡ j ∷ []) × ValueAt d j s v e
SpotIs d s vs Repeated = (a : Json d) × (b : Json d) × (more : List (Json d)) × (vs ≡ a ∷ b ∷ more)

-- of each of our names, by its place among them
abbrev pub Spots : Type 0
Spots = List Spot

abbrev pub spot : Spots → Name → Spot
spot p n = get_or p (place n) Absent

-- the same of all seven names
pub record SpotsAre (d : ℕ) (s : List ℕ) (ms : List (List ℕ × Json d)) (p : Spots) : Type 0 where
  pub size : length p ≡ 7
  pub are : (n : Name) → SpotIs d s (named (word n) ms) (spot p n)

-- ---- one member more

-- the spot of a name once a value from v to e was seen
abbrev pub one_more : Spot → ℕ → ℕ → Spot
one_more Absent v e = Once v e
one_more (Once a b) v e = Repeated
one_more Repeated v e = Repeated

abbrev pub no_spots : Spots
no_spots = replicate 7 Absent

-- one of our names stood before the value from v to e, or another
unfoldable pub see_at : Spots → Option Name → ℕ → ℕ → Spots
see_at p None v e = p
see_at p (Some n) v e = set p (place n) (one_more (spot p n) v e)

-- ---- what stands there

-- the place can be read: of a string both quotation marks
abbrev pub Fits : List ℕ → Spot → Type 0
Fits s Absent = Unit {0}
Fits s (Once v e) = (v ≤ e) × (e ≤ length s) × (get_or s v 0 ≡ quote → v + 2 ≤ e)
Fits s Repeated = Unit {0}

abbrev pub AllFit : List ℕ → Spots → Type 0
AllFit s p = (n : Name) → Fits s (spot p n)

-- between a string's quotation marks
abbrev pub string_in : List ℕ → Spot → Option (ℕ × ℕ)
string_in s Absent = None
string_in s (Once v e) = pick (eqb (get_or s v 0) quote) (Some (v + 1, e - 1)) None
string_in s Repeated = None

abbrev pub plain_in : Spot → Option (ℕ × ℕ)
plain_in Absent = None
plain_in (Once v e) = Some (v, e)
plain_in Repeated = None

-- the text of a part
abbrev pub part_text : List ℕ → Option (ℕ × ℕ) → Option (List ℕ)
part_text s (Some (v, e)) = Some (take (e - v) (drop v s))
part_text s None = None

-- what the places of `_deleted` and `label` say
abbrev pub content_in : List ℕ → Spot → Spot → Option Content
content_in s Absent Absent = None
content_in s Absent (Once v e) = read_label (take (e - v) (drop v s))
content_in s Absent Repeated = None
content_in s (Once v e) Absent = read_true (take (e - v) (drop v s))
content_in s (Once v e) (Once x y) = None
content_in s (Once v e) Repeated = None
content_in s Repeated Absent = None
content_in s Repeated (Once v e) = None
content_in s Repeated Repeated = None
