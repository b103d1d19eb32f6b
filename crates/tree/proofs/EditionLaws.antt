-- A row of storage and a row of an image of edition 1 are the same today. Assumes nothing.
use mathlib.Core.Path.{◌≡◌, refl}
use mathlib.Core.Bool.{Bool, true, false}
use mathlib.Core.List.{List, map, [], ◌∷◌}
use Rattle.std.specs.Prelude.{Option, None, Some}
use Prim.Native.Nat.{ℕ, pred}
use lib.Dec.{eqb}
use lib.ListN.{drop}
use Rattle.rules.specs.declared.Content.{Content}
use Rattle.rules.specs.declared.Content.TheVariants.{Live, Deleted}
use Rattle.rules.specs.declared.Revision.{Revision}
use Rattle.rules.specs.Bytes.{pieces}
use Rattle.rules.specs.Choice.{pick}
use Rattle.rules.specs.Image.{row_bytes, kind_of, label_of, flag_of, parent_hash, parent_of_row, content_of_kind, node_in}
use Rattle.rules.specs.Layout.{Row, row_size, row_of}
use Rattle.rules.specs.Replica.{Node, revision}
use Rattle.tree.specs.Rows.{parent_of, meaning, kind_from, row_from, node_held, kind_byte, label_held, known_byte, parent_held, stored_row}
use Rattle.tree.specs.Table.{tree_at}

-- ---- bytes

kind_same : (c : Option Content) → kind_byte c ≡ kind_of c
kind_same None = refl
kind_same (Some c) = refl

label_same : (c : Option Content) → label_held c ≡ label_of c
label_same None = refl
label_same (Some c) = refl

known_same : (p : Option Revision) → known_byte p ≡ flag_of p
known_same None = refl
known_same (Some p) = refl

parent_same : (p : Option Revision) → parent_held p ≡ parent_hash p
parent_same None = refl
parent_same (Some p) = refl

pub stored_row_lem : (v : Revision × Node) → stored_row v ≡ row_bytes v
unfolding stored_row row_bytes
stored_row_lem v = rw (kind_same v.1.content, known_same v.1.parent, parent_same v.1.parent, label_same v.1.content)

-- ---- meaning

kind_means : (k label : ℕ) → (kind_from k label) ≡ content_of_kind k label
unfolding kind_from
kind_means k label = go (eqb k 0)
  where
    go : (b : Bool) → (pick b None (Some (pick (eqb k 1) (Live label) Deleted))) ≡ pick b None (Some (pick (eqb k 1) (Live label) Deleted))
    go true = refl
    go false = refl

pub node_held_lem : (w : Row) → node_held w ≡ node_in w
unfolding node_held meaning row_from node_in parent_of_row
node_held_lem w = λ i. (w.rev, record { parent = go (eqb w.flag 0) i; content = kind_means w.kind w.label i })
  where
    go : (b : Bool) → parent_of w.rev (pick b None (Some w.parent)) ≡ pick b None (Some (revision (pred w.rev.number.0) w.parent))
    go true = refl
    go false = refl

nodes_held : (rs : List Row) → map node_held rs ≡ map node_in rs
nodes_held [] = refl
nodes_held (w ∷ rs) = rw (node_held_lem w, nodes_held rs)

pub tree_held : (base n : ℕ) (s : List ℕ) → tree_at base n s ≡ map node_in (map row_of (pieces n row_size (drop base s)))
unfolding tree_at
tree_held base n s = nodes_held (map row_of (pieces n row_size (drop base s)))
