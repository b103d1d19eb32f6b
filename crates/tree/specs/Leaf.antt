-- Leaves in bytes.
use Rattle.std.specs.Prelude.{◌≡◌, List, map, ℕ, ◌+◌, ◌*◌, ◌≤◌, length}
use Rattle.rules.specs.declared.Content.{Content}
use Rattle.rules.specs.declared.Revision.{Revision}
use Rattle.rules.specs.Bytes.{join}
use Rattle.rules.specs.Layout.{kind_in}
use Rattle.rules.specs.Read.{LeafOf, leaves, leaf_bytes}
use Rattle.rules.specs.Replica.{Tree}
use Rattle.octets.specs.Splice.{splice}
use Rattle.tree.specs.declared.table.Body.{Body}
use Rattle.tree.specs.Table.{tree_in, Within}

abbrev pub leaf_of : Revision → Content → LeafOf
leaf_of v c = record { rev = v; content = c }

-- ---- leaves in bytes

-- "29 bytes each: number, hash, kind, label as in an image row": the label follows the kind
abbrev pub leaf_label_in : ℕ
leaf_label_in = kind_in + 1

abbrev pub leaf_size : ℕ
leaf_size = leaf_label_in + 8

-- a leaf's bytes stand at `at`
pub record LeafPut (before : List ℕ) (at : ℕ) (a : LeafOf) (after : List ℕ) : Type 0 where
  pub is : after ≡ splice before at (leaf_bytes a)
  pub size : length (leaf_bytes a) ≡ leaf_size

pub record CanPutLeaves (b : Body) (s out : List ℕ) : Type 0 where
  pub within : Within b s
  pub room : length (leaves (tree_in b s)) * leaf_size ≤ length out

-- a tree's leaves stand at the front
pub record LeavesPut (t : Tree) (before after : List ℕ) : Type 0 where
  pub is : after ≡ splice before 0 (join (map leaf_bytes (leaves t)))
  pub size : length (join (map leaf_bytes (leaves t))) ≡ length (leaves t) * leaf_size
