-- Parents and children among a document's rows.
use Rattle.std.specs.Prelude.{◌≡◌, Bool, true, false, not, List, ℕ, suc, ◌+◌, ◌-◌, ◌*◌, ◌≤◌, ◌<◌, eqb, length, get_or, replicate}
use Rattle.std.specs.Prelude.{Result, Ok, Err}
use Rattle.std.specs.Prelude.{Option, None, Some}
use Rattle.rules.specs.declared.Revision.{Revision}
use Rattle.rules.specs.Choice.{pick, maybe, any}
use Rattle.rules.specs.Faults.{first_true, bad_rows, is_parent_of}
use Rattle.rules.specs.Image.{parent_of_row}
use Rattle.rules.specs.Layout.{Row, row_size}
use Rattle.rules.specs.Order.{same_rev}
use Rattle.rules.specs.Replica.{Tree}
use Rattle.rules.specs.Room.{revisions_most}
use Rattle.tree.specs.declared.table.Body.{Body}
use Rattle.tree.specs.Table.{tree_at, place_of}
use Rattle.faults.specs.declared.links.Run.{Run}
use Rattle.faults.specs.declared.links.Parent.{Parent}
use Rattle.faults.specs.declared.links.Parent.TheVariants.{Unknown, Missing, Among}
use Rattle.faults.specs.Each.{Links}
use Rattle.faults.specs.Places.{row_at, rows_at}
use Rattle.faults.specs.Each.{CanTest}

-- row m of those from base on, and its revision's number
abbrev pub row_on : ℕ → ℕ → List ℕ → Row
row_on base m s = row_at (base + m * row_size) s

abbrev pub number_on : ℕ → ℕ → List ℕ → ℕ
number_on base m s = (row_on base m s).rev.number.0

-- what 25 leaves: the n rows of a document are good and ascend
pub record Ordered (base n : ℕ) (s : List ℕ) : Type 0 where
  pub within : base + n * row_size ≤ length s
  pub most : n ≤ revisions_most
  pub good : first_true 0 (bad_rows None (rows_at base n s)) ≡ None

-- ---- where a row's parent is: "A parent's number is one lower", and the row gives its hash

-- the run to search for row j's parent, from the run for the row before it: the rows of one number lie together
unfoldable pub run_on : ℕ → Run → ℕ → List ℕ → Run
run_on base run j s = pick (eqb (number_on base run.hi s) (number_on base j s)) run (record { lo = run.hi; hi = j })

-- the run serves every row before j: no row before it has the number below its end's or more, and none before j a higher one
pub record Serves (base j : ℕ) (run : Run) (s : List ℕ) : Type 0 where
  pub ordered : run.lo ≤ run.hi
  pub within : run.hi ≤ j
  pub far : (m : ℕ) → m < run.lo → number_on base m s + 1 < number_on base run.hi s
  pub below : (m : ℕ) → m < run.hi → number_on base m s < number_on base run.hi s
  pub top : (m : ℕ) → m < j → number_on base m s ≤ number_on base run.hi s

abbrev pub among : ℕ → Result ℕ ℕ → Parent
among lo (Ok i) = Among (lo + i)
among lo (Err i) = Missing

abbrev pub parent_among : ℕ → Tree → Option Revision → Parent
parent_among lo t None = Unknown
parent_among lo t (Some p) = among lo (place_of 0 p t)

-- where the parent of row j is, sought among the rows of the run
unfoldable pub parent_on : ℕ → Run → ℕ → List ℕ → Parent
parent_on base run j s =
    parent_among run.lo (tree_at (base + run.lo * row_size) (run.hi - run.lo) s) (parent_of_row (row_on base j s))

-- row j is one of some ordered rows, and the run serves it
pub record CanLink (base j : ℕ) (run : Run) (s : List ℕ) : Type 0 where
  pub n : ℕ
  pub ordered : Ordered base n s
  pub here : j < n
  pub serves : Serves base (suc j) run s
  pub level : number_on base run.hi s ≡ number_on base j s

-- ---- 26

-- "known parent not in the document"
unfoldable pub missing : List Row → Row → Bool
missing all w = maybe false (λ p. not (any (λ x. same_rev p x.rev) all)) (parent_of_row w)

-- "kind not fitting the children"
unfoldable pub misfit : List Row → Row → Bool
misfit all w = pick (any (is_parent_of w.rev) all) (not (eqb w.kind 0)) (eqb w.kind 0)

abbrev pub bit : Bool → ℕ
bit true = 1
bit false = 0

-- each of n rows is marked that is a parent of one of the first j
pub record Marks (base n j : ℕ) (s ms : List ℕ) : Type 0 where
  pub size : length ms ≡ n
  pub each : (m : ℕ) → m < n → get_or ms m 0 ≡ bit (any (is_parent_of (row_on base m s).rev) (rows_at base j s))

-- `first` is the first of the first j rows whose parent is missing, or n
pub record FirstMissing (base n j : ℕ) (s : List ℕ) (first : ℕ) : Type 0 where
  pub most : first ≤ n
  pub before : (m : ℕ) → m < j → m < first → missing (rows_at base n s) (row_on base m s) ≡ false
  pub at : first < n → missing (rows_at base n s) (row_on base first s) ≡ true

pub record Marked (base n j : ℕ) (s ms : List ℕ) (first : ℕ) : Type 0 where
  pub marks : Marks base n j s ms
  pub missing : FirstMissing base n j s first

pub record CanMark (base n : ℕ) (s ms : List ℕ) : Type 0 where
  pub ordered : Ordered base n s
  pub marks : Marks base n 0 s ms

pub record CanJudge (base n k first : ℕ) (s ms : List ℕ) : Type 0 where
  pub ordered : Ordered base n s
  pub most : k + n ≤ revisions_most
  pub marked : Marked base n n s ms first

pub record CanFind (b : Body) (k : ℕ) (s ms : List ℕ) : Type 0 where
  pub rows : CanTest Links b k s
  pub blank : ms ≡ replicate revisions_most 0
