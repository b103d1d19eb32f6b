-- `_revisions` read while it is passed over: what was read stays with the spot.
use Rattle.std.specs.Prelude.{List, [], ◌≡◌, ℕ, suc, eqb, length, drop, get_or}
use Rattle.std.specs.Prelude.{Option, None, Some}
use Rattle.rules.specs.Choice.{pick, maybe}
use Rattle.rules.specs.Replica.{Hash}
use Rattle.rules.specs.Room.{number_most}
use Rattle.json_text.specs.Rfc.{line}
use Rattle.json_text.specs.Tight.{value}
use Rattle.json_text.specs.Members.{Json, object_of, value_of}
use Rattle.json_text.specs.Skips.{Placed}
use Rattle.values.specs.Reading.{NoList}
use Rattle.lines.specs.Said.{read_number}
use Rattle.lines.specs.Take.{Revisions, read_revisions}
use Rattle.takes.specs.declared.Spot.{Spot}
use Rattle.takes.specs.declared.Spot.TheVariants.{Absent, Once, Repeated}
use Rattle.fields.specs.declared.Name.{Name}
use Rattle.fields.specs.declared.Name.TheVariants as name
use Rattle.takes.specs.declared.Value.{Value}
use Rattle.takes.specs.declared.Walk.{Walk}
use Rattle.takes.specs.Spots.{spot, plain_in, part_text}
use Rattle.takes.specs.Walk.{Passes, LineIs}
use Rattle.takes.specs.Path.{Laid, IdsAt}

-- What is read of a value at v on the way is R v, of the path that is left and of what was said: R is
-- `IdsAt` of the ids in `_revisions`, and `RevsAt` of `_revisions` in a line. It is read of the name n,
-- where the value begins with the byte b.

-- of a spot whose value was read
pub record Kept {T : Type 0} (R : ℕ → List ℕ → Option T → Type 0) (b : ℕ) (s : List ℕ) (p : Spot) (path : List ℕ) (got : Option T) : Type 0 where
  pub at : (v e : ℕ) → p ≡ Once v e → get_or s v 0 ≡ b → R v path got

-- the value at v was passed over and read
pub record Passed {T : Type 0} (R : ℕ → List ℕ → Option T → Type 0) (d : ℕ) (s : List ℕ) (v : ℕ) (before : List ℕ) (r : Value T) (after : List ℕ) : Type 0 where
  pub end : Placed (value d) s v r.end
  pub room : length after ≡ length before
  pub read : R v after r.got

-- the value of the name k at v was passed over, and read if it is to be
pub record Valued {T : Type 0} (R : ℕ → List ℕ → Option T → Type 0) (n : Name) (b d : ℕ) (s : List ℕ) (k : Option Name) (v : ℕ) (before : List ℕ) (got : Option T) (r : Value T) (after : List ℕ) : Type 0 where
  pub end : Placed (value d) s v r.end
  pub room : length after ≡ length before
  pub read : k ≡ Some n → get_or s v 0 ≡ b → R v after r.got
  pub kept : (k ≡ Some n → ⊥) → (r.got ≡ got) × (after ≡ before)

-- the object at `at` was passed over
pub record WalkIs {T : Type 0} (R : ℕ → List ℕ → Option T → Type 0) (n : Name) (b d : ℕ) (s : List ℕ) (at : ℕ) (x : Walk T) (after : List ℕ) : Type 0 where
  pub passes : Passes d s at x.end x.spots
  pub kept : Kept R b s (spot x.spots n) after x.got

abbrev pub WalkCase : {T : Type 0} → (ℕ → List ℕ → Option T → Type 0) → Name → ℕ → ℕ → List ℕ → ℕ → List ℕ → Option (Walk T) → Type 0
WalkCase R n b d s at after (Some x) = WalkIs R n b d s at x after
WalkCase R n b d s at after None = NoList (object_of (value_of d)) s at

pub record Walks {T : Type 0} (R : ℕ → List ℕ → Option T → Type 0) (n : Name) (b d : ℕ) (s : List ℕ) (at : ℕ) (before : List ℕ) (r : Option (Walk T)) (after : List ℕ) : Type 0 where
  pub room : length after ≡ length before
  pub is : WalkCase R n b d s at after r

-- ---- the ids

abbrev pub IdsKept : ℕ → List ℕ → Spot → List ℕ → Option (ℕ × ℕ) → Type 0
IdsKept d s p path got = Kept (IdsAt d s) 91 s p path got

abbrev pub IdsPassed : ℕ → List ℕ → ℕ → List ℕ → Value (ℕ × ℕ) → List ℕ → Type 0
IdsPassed d s v before r after = Passed (IdsAt d s) (suc (suc d)) s v before r after

abbrev pub InnerWalks : ℕ → List ℕ → ℕ → List ℕ → Option (Walk (ℕ × ℕ)) → List ℕ → Type 0
InnerWalks d s at before r after = Walks (IdsAt d s) name.Ids 91 (suc (suc d)) s at before r after

-- ---- `_revisions`

-- what start and ids say together
abbrev pub ids_in : List ℕ → Spot → Option (ℕ × ℕ) → ℕ → Option (ℕ × ℕ)
ids_in s Absent got first = None
ids_in s (Once v e) None first = None
ids_in s (Once v e) (Some (n, x)) first = pick (eqb (get_or s v 0) 91) (Some (first, n)) None
ids_in s Repeated got first = None

unfoldable pub revs_in : List ℕ → Spot → Spot → Option (ℕ × ℕ) → Option (ℕ × ℕ)
revs_in s start ids got = maybe None (ids_in s ids got) (maybe None (read_number number_most) (part_text s (plain_in start)))

abbrev pub RevsSay : Option Revisions → List ℕ → Option (ℕ × ℕ) → Type 0
RevsSay o path (Some (first, n)) = (hs : List Hash) × (o ≡ Some (record { start = first; ids = hs })) × Laid hs n path
RevsSay o path None = o ≡ None

-- what the object at v says
unfoldable pub RevsAt : ℕ → List ℕ → ℕ → List ℕ → Option (ℕ × ℕ) → Type 0
RevsAt d s v path got =
    (j : Json (suc (suc (suc d)))) (e : ℕ) → value_of (suc (suc (suc d))) j (drop v s) (drop e s) → RevsSay (read_revisions j) path got

abbrev pub RevsKept : ℕ → List ℕ → Spot → List ℕ → Option (ℕ × ℕ) → Type 0
RevsKept d s p path got = Kept (RevsAt d s) 123 s p path got

abbrev pub RevsPassed : ℕ → List ℕ → ℕ → List ℕ → Value (ℕ × ℕ) → List ℕ → Type 0
RevsPassed d s v before r after = Passed (RevsAt d s) (suc (suc (suc d))) s v before r after

abbrev pub OuterWalks : ℕ → List ℕ → ℕ → List ℕ → Option (Walk (ℕ × ℕ)) → List ℕ → Type 0
OuterWalks d s at before r after = Walks (RevsAt d s) name.Revisions 123 (suc (suc (suc d))) s at before r after

-- ---- the line

pub record WholeLine (s : List ℕ) (x : Walk (ℕ × ℕ)) (after : List ℕ) : Type 0 where
  pub line_is : LineIs s x.spots
  pub kept : RevsKept 12 s (spot x.spots name.Revisions) after x.got

abbrev pub LineCase : List ℕ → List ℕ → Option (Walk (ℕ × ℕ)) → Type 0
LineCase s after (Some x) = WholeLine s x after
LineCase s after None = line s [] → ⊥

pub record LineWalks (s before : List ℕ) (r : Option (Walk (ℕ × ℕ))) (after : List ℕ) : Type 0 where
  pub room : length after ≡ length before
  pub is : LineCase s after r
