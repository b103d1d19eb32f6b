-- A path in bytes.
use Rattle.std.specs.Prelude.{◌≡◌, Option, None, Some, List, [], ℕ, ◌+◌, ◌*◌, ◌≤◌, ◌<◌, length}
use Rattle.rules.specs.declared.Revision.{Revision}
use Rattle.rules.specs.Bytes.{join}
use Rattle.rules.specs.Choice.{maybe}
use Rattle.rules.specs.Layout.{row_size}
use Rattle.rules.specs.Read.{path_of}
use Rattle.rules.specs.Replica.{Hash, Tree}
use Rattle.rules.specs.Room.{hash_size}
use Rattle.octets.specs.Splice.{splice}
use Rattle.tree.specs.declared.table.Body.{Body}
use Rattle.tree.specs.Rows.{node_at, rev_at}
use Rattle.tree.specs.Table.{tree_at, body, tree_in, Searchable}

-- ---- one step up

-- the path of the parent of row i, among the rows before it
unfoldable pub path_above : ℕ → ℕ → List ℕ → List Hash
path_above base i s = maybe [] (path_of (tree_at base i s)) (node_at (base + i * row_size) s).1.parent

-- row i's parent is v, which has a path: "A parent's number is one lower."
pub record HasParent (base i : ℕ) (s : List ℕ) (v : Revision) : Type 0 where
  pub is : path_above base i s ≡ path_of (tree_at base i s) v
  pub some : 0 < v.number.0
  pub lower : v.number.0 + 1 ≡ (rev_at (base + i * row_size) s).number.0

abbrev pub IsParent : ℕ → ℕ → List ℕ → Option Revision → Type 0
IsParent base i s None = path_above base i s ≡ []
IsParent base i s (Some v) = HasParent base i s v

-- ---- how many

-- r revisions are in it: at most all rows before, and the parent where it is none of them
pub record IsAboveCount (base i : ℕ) (s : List ℕ) (r : ℕ) : Type 0 where
  pub is : r ≡ length (path_above base i s)
  pub most : r ≤ i + 1

-- r revisions are in the path of v: at most all rows, and v where it is none of them
pub record IsPathCount (b : Body) (s : List ℕ) (v : Revision) (r : ℕ) : Type 0 where
  pub is : r ≡ length (path_of (tree_in b s) v)
  pub most : r ≤ b.rows + 1

-- ---- which

-- hashes stand at `at`, and `next` is the place after them
pub record HashesPut (hs : List Hash) (at : ℕ) (before : List ℕ) (next : ℕ) (after : List ℕ) : Type 0 where
  pub is : after ≡ splice before at (join hs)
  pub end : next ≡ at + length hs * hash_size
  pub size : length (join hs) ≡ length hs * hash_size

pub record CanPutAbove (base i : ℕ) (s out : List ℕ) (at : ℕ) : Type 0 where
  pub rows : Searchable (body base (i + 1)) s
  pub room : at + length (path_above base i s) * hash_size ≤ length out

pub record CanPutPath (b : Body) (s : List ℕ) (v : Revision) (out : List ℕ) (at : ℕ) : Type 0 where
  pub rows : Searchable b s
  pub room : at + length (path_of (tree_in b s) v) * hash_size ≤ length out

-- "Its hashes are written, 16 bytes each": they stand at `at`, and `next` is the place after them
pub record PathPut (t : Tree) (v : Revision) (at : ℕ) (before : List ℕ) (next : ℕ) (after : List ℕ) : Type 0 where
  pub is : after ≡ splice before at (join (path_of t v))
  pub end : next ≡ at + length (path_of t v) * hash_size
  pub size : length (join (path_of t v)) ≡ length (path_of t v) * hash_size
