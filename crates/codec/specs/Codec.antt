-- What loading leaves in a buffer, what saving writes, and when bytes are a replica in a buffer.
use Rattle.std.specs.Prelude.{◌≡◌, Bool, true, List, [], ◌++◌, ℕ, zero, suc, ◌+◌, ◌-◌, ◌*◌, ◌≤◌, length, replicate}
use Rattle.std.specs.Prelude.{Result, Ok, Err}
use Rattle.std.specs.Prelude.{Option, None, Some}
use Rattle.rules.specs.declared.Fault.{Fault}
use Rattle.rules.specs.Bytes.{be, value, part}
use Rattle.rules.specs.Choice.{first_that}
use Rattle.rules.specs.Faults.{faults, load}
use Rattle.rules.specs.Image.{edition, image, replica_in, total_length}
use Rattle.rules.specs.Layout.{head_of, documents_at, total_at, head_size, count_in, place_in, entry_size, row_size}
use Rattle.rules.specs.Outcome.{Does}
use Rattle.rules.specs.Room.{documents_most, revisions_most}
use Rattle.octets.specs.Splice.{splice}
use Rattle.store.specs.Storage.{rows_room, rows_place, store_size, stored, replica_of, IsStored}

-- the head from its counts to its update sequence: all but edition and total
abbrev pub head_middle : ℕ
head_middle = total_at - documents_at

-- ---- entries

-- n entries from `at` on, each with its place put anew: the first has `place`, and each row moves the next on by `step`
unfoldable pub moved : ℕ → ℕ → ℕ → ℕ → List ℕ → List ℕ
moved step place zero at s = []
moved step place (suc n) at s =
    (part at place_in s ++ be 4 place) ++ moved step (place + step * value (part (at + count_in) 2 s)) n (at + entry_size) s

-- d entries have room in both, and no place is too large for its four bytes
pub record CanMove (d first step : ℕ) (dst src : List ℕ) : Type 0 where
  pub most : d ≤ documents_most
  pub room : head_size + entry_size * d ≤ length dst
  pub there : head_size + entry_size * d ≤ length src
  pub low : first ≤ head_size + entry_size * documents_most
  pub short : step ≤ row_size

-- ---- laying out

-- a buffer with the head of src but for edition and total, its first d entries with place 0, and rows
unfoldable pub laid_out : ℕ → List ℕ → List ℕ → List ℕ
laid_out d src rows =
    splice (splice (splice (replicate store_size 0) documents_at (part documents_at head_middle src)) head_size (moved 0 0 d head_size src)) rows_place rows

-- b is a buffer, and src and the rows have no more than it holds
pub record CanLay (b src : List ℕ) (d : ℕ) (rows : List ℕ) : Type 0 where
  pub size : length b ≡ store_size
  pub most : d ≤ documents_most
  pub there : head_size + entry_size * d ≤ length src
  pub fit : length rows ≤ rows_room

-- ---- loading

pub record CanTake (b s : List ℕ) : Type 0 where
  pub size : length b ≡ store_size
  pub fine : first_that (faults s) ≡ None

-- "A failed load leaves the former replica": to the last byte
abbrev pub load_bytes : List ℕ → List ℕ → Option (Fault × ℕ) → Result (Unit {0}) (Fault × ℕ) × List ℕ
load_bytes before s None = (Ok tt, stored (replica_in s))
load_bytes before s (Some f) = (Err f, before)

pub record Loads (before s : List ℕ) (answer : Result (Unit {0}) (Fault × ℕ)) (after : List ℕ) : Type 0 where
  -- the answer, and every byte of the buffer
  pub does : Does (load_bytes before s (first_that (faults s))) answer after
  -- so it is what 01 says of the replica
  pub means : load (replica_of before) s ≡ (answer, replica_of after)
  -- what was accepted is a replica in the buffer, whatever was there
  pub accepted : answer ≡ Ok tt → IsStored after
  -- whose image is the one that was loaded
  pub shows : answer ≡ Ok tt → image (replica_of after) ≡ s
  -- and what was a replica in the buffer stays one
  pub stays : IsStored before → IsStored after

-- ---- saving

-- the image of d documents and r revisions whose parts stand in a buffer
unfoldable pub image_from : ℕ → ℕ → List ℕ → List ℕ
image_from d r b =
    be 2 edition
    ++ (part documents_at head_middle b
    ++ (be 4 (total_length d r)
    ++ (moved row_size (head_size + entry_size * d) d head_size b ++ part rows_place (row_size * r) b)))

-- b is a buffer, and out has room for the image of d documents and r revisions
pub record CanWrite (b out : List ℕ) (d r : ℕ) : Type 0 where
  pub size : length b ≡ store_size
  pub documents : d ≤ documents_most
  pub revisions : r ≤ revisions_most
  pub room : total_length d r ≤ length out

-- ---- telling

-- b has the size of a buffer, and counts d documents and r revisions, no more than there is room for
pub record CountsIn (b : List ℕ) (d r : ℕ) : Type 0 where
  pub size : length b ≡ store_size
  pub documents : d ≡ (head_of b).documents
  pub revisions : r ≡ (head_of b).revisions
  pub documents_at_most : d ≤ documents_most
  pub revisions_at_most : r ≤ revisions_most

-- yes exactly if it is so
pub record Tells (so : Type 0) (answer : Bool) : Type 0 where
  pub yes : answer ≡ true → so
  pub always : so → answer ≡ true
