-- The documents in a buffer, by their index, and what a caller shows to name one.
use Rattle.std.specs.Prelude.{◌≡◌, List, [], ℕ, ◌+◌, ◌*◌, ◌<◌, length, get_or, take}
use Rattle.std.specs.Prelude.{Result, Ok, Err}
use Rattle.rules.specs.Layout.{row_size}
use Rattle.rules.specs.Map.{Map}
use Rattle.rules.specs.Order.{order_bytes}
use Rattle.rules.specs.Replica.{Id, Tree, Document, tree_of, revisions_held}
use Rattle.tree.specs.declared.table.Body.{Body}
use Rattle.tree.specs.Table.{body, tree_in, Within, place}
use Rattle.store.specs.Storage.{rows_place, replica_of, Laid}

abbrev pub documents_of : List ℕ → Map Id Document
documents_of s = (replica_of s).documents

-- a document without revisions, which no change has reached yet
abbrev pub no_document : Id × Document
no_document = ([], record { seq = record { 0 = 0 }; tree = [] })

unfoldable pub document_at : Map Id Document → ℕ → Id × Document
document_at ds d = get_or ds d no_document

-- the index of document d's first row among all rows
unfoldable pub first_row : Map Id Document → ℕ → ℕ
first_row ds d = revisions_held (take d ds)

-- where row k begins
abbrev pub row_place : ℕ → ℕ
row_place k = rows_place + row_size * k

-- ---- searching

-- where the document i is, or the gap where it would go
abbrev pub place_of_id : ℕ → Id → Map Id Document → Result ℕ ℕ
place_of_id n i ds = place order_bytes n i ds

-- ---- contracts

-- s is laid out and has a document d
pub record HasDocument (s : List ℕ) (d : ℕ) : Type 0 where
  pub laid : Laid s
  pub within : d < length (documents_of s)

-- where document d's rows stand, and how many they are
pub record IsBody (s : List ℕ) (d : ℕ) (b : Body) : Type 0 where
  pub document : HasDocument s d
  pub base : b.base ≡ row_place (first_row (documents_of s) d)
  pub rows : b.rows ≡ length (document_at (documents_of s) d).1.tree

-- of a document that is absent: no rows
abbrev pub body_at : Map Id Document → Result ℕ ℕ → Body
body_at ds (Ok d) = body (row_place (first_row ds d)) (length (document_at ds d).1.tree)
body_at ds (Err d) = body rows_place 0

-- a document of s was looked for
abbrev pub Looked : List ℕ → Result ℕ ℕ → Type 0
Looked s (Ok d) = HasDocument s d
Looked s (Err d) = Laid s

-- the rows there are the tree t
pub record Shows (s : List ℕ) (b : Body) (t : Tree) : Type 0 where
  pub within : Within b s
  pub tree : tree_in b s ≡ t

pub record IsBodyOf (s : List ℕ) (i : Id) (b : Body) : Type 0 where
  pub is : b ≡ body_at (documents_of s) (place_of_id 0 i (documents_of s))
  pub shows : Shows s b (tree_of (replica_of s) i)
