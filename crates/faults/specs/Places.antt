-- Places of faults, and the entries and rows that are looked at.
use Rattle.std.specs.Prelude.{◌≡◌, List, [], ◌∷◌, map, ℕ, zero, suc, ◌+◌, ◌*◌, ◌≤◌, length, drop}
use Rattle.std.specs.Prelude.{Option, None, Some}
use Rattle.rules.specs.Bytes.{part, pieces}
use Rattle.rules.specs.declared.Revision.{Revision}
use Rattle.rules.specs.Faults.{sum_rows}
use Rattle.rules.specs.Image.{entries_of, total_length}
use Rattle.rules.specs.Layout.{Entry, entry_of, Row, row_of, head_of, entry_size, row_size}
use Rattle.rules.specs.Replica.{Id}
use Rattle.rules.specs.Room.{documents_most, revisions_most, id_most}
use Rattle.layout.specs.Fields.{entry_place}
use Rattle.tree.specs.declared.table.Body.{Body}

-- what 20 to 22 leave: the image is as long as its head says
pub record Headed (s : List ℕ) : Type 0 where
  pub documents : (head_of s).documents ≤ documents_most
  pub revisions : (head_of s).revisions ≤ revisions_most
  pub size : length s ≡ total_length (head_of s).documents (head_of s).revisions

-- where row k begins behind d entries
abbrev pub row_place : ℕ → ℕ → ℕ
row_place d k = entry_place d + row_size * k

-- ---- entries

abbrev pub entry_at : ℕ → List ℕ → Entry
entry_at i s = entry_of (part (entry_place i) entry_size s)

-- the id before entry i's
abbrev pub id_before : ℕ → List ℕ → Option Id
id_before zero s = None
id_before (suc i) s = Some (entry_at i s).id

-- the id before is as long as an id can be
abbrev pub FitsBefore : ℕ → List ℕ → Type 0
FitsBefore zero s = Unit {0}
FitsBefore (suc i) s = (entry_at i s).size ≤ id_most

-- entry i is there, and its id can be compared with the one before
pub record HasEntry (i : ℕ) (s : List ℕ) : Type 0 where
  pub within : entry_place i + entry_size ≤ length s
  pub before : FitsBefore i s

-- the same, and its own id is no longer than an id can be
pub record HasId (i : ℕ) (s : List ℕ) : Type 0 where
  pub entry : HasEntry i s
  pub most : (entry_at i s).size ≤ id_most

abbrev pub seq_at : ℕ → List ℕ → ℕ
seq_at i s = (entry_at i s).seq

-- the own sequences before entry i's, the last first
unfoldable pub seqs_before : ℕ → List ℕ → List ℕ
seqs_before zero s = []
seqs_before (suc i) s = seq_at i s ∷ seqs_before i s

-- what 23 leaves: the entries' rows are all rows
pub record Listed (s : List ℕ) : Type 0 where
  pub headed : Headed s
  pub sum : sum_rows (entries_of s) ≡ (head_of s).revisions

-- ---- rows

abbrev pub row_at : ℕ → List ℕ → Row
row_at at s = row_of (part at row_size s)

-- n rows from base on
unfoldable pub rows_at : ℕ → ℕ → List ℕ → List Row
rows_at base n s = map row_of (pieces n row_size (drop base s))

abbrev pub rows_in : Body → List ℕ → List Row
rows_in b s = rows_at b.base b.rows s

-- the revision of the row before row j
abbrev pub rev_before : ℕ → ℕ → List ℕ → Option Revision
rev_before base zero s = None
rev_before base (suc j) s = Some (row_at (base + j * row_size) s).rev
