-- A tree as rows in a slice: where a revision is, and what a change leaves.
use Rattle.std.specs.Prelude.{◌≡◌, List, [], ◌∷◌, ◌++◌, map, ℕ, suc, ◌+◌, ◌-◌, ◌*◌, ◌≤◌, length, take, drop}
use Rattle.std.specs.declared.cmp.Ordering.{Ordering}
use Rattle.std.specs.Prelude.{Result, Ok, Err}
use Rattle.rules.specs.declared.Revision.{Revision}
use Rattle.rules.specs.Bytes.{part, pieces}
use Rattle.rules.specs.Layout.{row_size, row_of}
use Rattle.rules.specs.Map.{Map, by_order, Ascending}
use Rattle.rules.specs.Order.{order_rev}
use Rattle.rules.specs.Replica.{Node, Tree}
use Rattle.octets.specs.Splice.{splice}
use Rattle.tree.specs.declared.row.Row.{Row}
use Rattle.tree.specs.declared.table.Body.{Body}
use Rattle.tree.specs.Rows.{meaning, node_held, stored_row, FitsRow}

-- ---- a body of rows

-- the tree that n rows from base on are
unfoldable pub tree_at : ℕ → ℕ → List ℕ → Tree
tree_at base n s = map node_held (map row_of (pieces n row_size (drop base s)))

-- n rows from base on
abbrev pub body : ℕ → ℕ → Body
body base n = record { base = base; rows = n }

abbrev pub tree_in : Body → List ℕ → Tree
tree_in b s = tree_at b.base b.rows s

-- where row i begins
abbrev pub row_start : Body → ℕ → ℕ
row_start b i = b.base + i * row_size

-- the rows are in the slice
abbrev pub Within : Body → List ℕ → Type 0
Within b s = row_start b b.rows ≤ length s

-- ---- searching

-- the first key that is not below k, counted from n: it, or the gap before it
unfoldable pub place : {K A : Type 0} → (K → K → Ordering) → ℕ → K → Map K A → Result ℕ ℕ
place order n k [] = Err n
place order n k (x ∷ xs) = by_order (order k x.0) (Err n) (Ok n) (place order (suc n) k xs)

-- of a tree's revisions
abbrev pub place_of : ℕ → Revision → Tree → Result ℕ ℕ
place_of n v t = place order_rev n v t

pub record Searchable (b : Body) (s : List ℕ) : Type 0 where
  pub within : Within b s
  pub ascending : Ascending order_rev (tree_in b s)

-- ---- changing

-- xs with x put in at i
unfoldable pub insert_at : {A : Type 0} → ℕ → A → List A → List A
insert_at i x xs = take i xs ++ (x ∷ drop i xs)

pub record CanInsert (at end : ℕ) (s : List ℕ) : Type 0 where
  pub place : at ≤ end
  pub room : end + row_size ≤ length s

-- the bytes from `at` to `end` move up, and the new row takes the gap
unfoldable pub insert_bytes : ℕ → ℕ → Revision × Node → List ℕ → List ℕ
insert_bytes at end v s = splice (splice s (at + row_size) (part at (end - at) s)) at (stored_row v)

pub record RowInserted (at end : ℕ) (row : Row) (before after : List ℕ) : Type 0 where
  pub is : after ≡ insert_bytes at end (meaning row) before
  pub fits : FitsRow (meaning row)
