-- A replica in a buffer: its bytes to the last one, what such bytes hold, and when a replica can be laid out so.
use Rattle.std.specs.Prelude.{◌≡◌, List, [], ◌∷◌, ◌++◌, map, ℕ, ◌+◌, ◌-◌, ◌*◌, ◌≤◌, length, drop, replicate}
use Rattle.rules.specs.declared.Revision.{Revision}
use Rattle.rules.specs.Bytes.{be, pieces, join}
use Rattle.rules.specs.Image.{entries_of, deal, documents_in}
use Rattle.rules.specs.Layout.{Row, head_size, entry_size, row_size, head_of, row_of}
use Rattle.rules.specs.Map.{Map}
use Rattle.rules.specs.Replica.{Id, Node, Document, Replica, IsReplica, revisions_held}
use Rattle.rules.specs.Room.{documents_most, revisions_most, id_most, seq_most}
use Rattle.tree.specs.Rows.{stored_row, node_held, FitsRow}

-- ---- the regions: a head, room for every entry, room for every row

abbrev pub contents_room : ℕ
contents_room = entry_size * documents_most

abbrev pub rows_room : ℕ
rows_room = row_size * revisions_most

-- where the rows begin
abbrev pub rows_place : ℕ
rows_place = head_size + contents_room

abbrev pub store_size : ℕ
store_size = rows_place + rows_room

-- ---- the bytes of a replica

-- bytes at the front of a region of n bytes, the rest of it zero
unfoldable pub filled : ℕ → List ℕ → List ℕ
filled n s = s ++ replicate (n - length s) 0

-- the head: documents d, revisions r and the update sequence. Edition and total are zero.
unfoldable pub stored_head : ℕ → ℕ → ℕ → List ℕ
stored_head d r q = be 2 0 ++ (be 2 d ++ (be 2 r ++ (be 2 0 ++ (be 4 q ++ be 4 0))))

-- a document's entry: its id filled with zeros, how many rows it has and its sequence. The place of the
-- first row is zero, since only saving works it out.
unfoldable pub stored_entry : Id × Document → List ℕ
stored_entry d =
    length d.0
    ∷ (d.0
    ++ (replicate (id_most - length d.0) 0
    ++ (0 ∷ (be 2 (length d.1.tree) ++ (be 4 d.1.seq.0 ++ be 4 0)))))

unfoldable pub stored_entries : Map Id Document → List (List ℕ)
stored_entries ds = map stored_entry ds

-- the rows of all documents, one document after the other
unfoldable pub rows_in : Map Id Document → List (Revision × Node)
rows_in [] = []
rows_in (d ∷ ds) = d.1.tree ++ rows_in ds

unfoldable pub stored_rows : Map Id Document → List (List ℕ)
stored_rows ds = map stored_row (rows_in ds)

unfoldable pub stored : Replica → List ℕ
stored r =
    stored_head (length r.documents) (revisions_held r.documents) r.seq.0
    ++ (filled contents_room (join (stored_entries r.documents)) ++ filled rows_room (join (stored_rows r.documents)))

-- ---- the replica that bytes are

unfoldable pub rows_held : List ℕ → List Row
rows_held s = map row_of (pieces (head_of s).revisions row_size (drop rows_place s))

unfoldable pub replica_of : List ℕ → Replica
replica_of s = record {
  seq = record { 0 = (head_of s).seq };
  documents = documents_in node_held (entries_of s) (deal (entries_of s) (rows_held s));
}

-- ---- which replicas can be read back

abbrev pub All : {A : Type 0} → (A → Type 0) → List A → Type 0
All P [] = Unit {0}
All P (x ∷ xs) = P x × All P xs

pub record FitsDocument (d : Id × Document) : Type 0 where
  pub id : length d.0 ≤ id_most
  pub seq : d.1.seq.0 ≤ seq_most
  pub rows : All FitsRow d.1.tree

-- what a write passes through: not a replica yet, but with every field in its range
pub record Storable (r : Replica) : Type 0 where
  pub documents : All FitsDocument r.documents
  pub documents_at_most : length r.documents ≤ documents_most
  pub revisions_at_most : revisions_held r.documents ≤ revisions_most
  pub seq_at_most : r.seq.0 ≤ seq_most

-- ---- buffers

-- the bytes are those of what they hold, to the last one
pub record Laid (s : List ℕ) : Type 0 where
  pub same : s ≡ stored (replica_of s)
  pub fits : Storable (replica_of s)

-- a replica in a buffer
pub record IsStored (s : List ℕ) : Type 0 where
  pub same : s ≡ stored (replica_of s)
  pub replica : IsReplica (replica_of s)
