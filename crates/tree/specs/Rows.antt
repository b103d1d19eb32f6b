-- One row of storage: its value in code, what it means, and its bytes. `Layout` says where each field stands.
use Rattle.std.specs.Prelude.{◌≡◌, List, ◌∷◌, ◌++◌, ℕ, pred, ◌<◌, eqb, length, replicate}
use Rattle.std.specs.Prelude.{Option, None, Some}
use Rattle.rules.specs.declared.Content.{Content}
use Rattle.rules.specs.declared.Content.TheVariants.{Live, Deleted}
use Rattle.rules.specs.declared.Revision.{Revision}
use Rattle.rules.specs.Bytes.{be, part}
use Rattle.rules.specs.Choice.{pick, maybe}
use Rattle.rules.specs.Layout as layout
use Rattle.rules.specs.Read.{content_kind, content_label}
use Rattle.rules.specs.Replica.{Hash, revision, Node, IsContent}
use Rattle.rules.specs.Room.{hash_size}
use Rattle.octets.specs.Splice.{splice}
use Rattle.layout.specs.Fields.{four_bytes}
use Rattle.tree.specs.declared.row.Row.{Row}

-- ---- what a row means: a revision, and what is known of it

-- "A parent's number is one lower."
abbrev pub parent_of : Revision → Option Hash → Option Revision
parent_of v o = maybe None (λ h. Some (revision (pred v.number.0) h)) o

unfoldable pub meaning : Row → Revision × Node
meaning r = (r.rev, record { parent = parent_of r.rev r.parent; content = r.content })

-- ---- a row is read: the value of its fields, and what they mean

-- 0 has a child, 1 is live with its label, any other is deleted
unfoldable pub kind_from : ℕ → ℕ → Option Content
kind_from k label = pick (eqb k 0) None (Some (pick (eqb k 1) (Live label) Deleted))

unfoldable pub row_from : layout.Row → Row
row_from w = record { rev = w.rev; parent = pick (eqb w.flag 0) None (Some w.parent); content = kind_from w.kind w.label }

unfoldable pub node_held : layout.Row → Revision × Node
node_held w = meaning (row_from w)

-- the row at a place, what it means, and its revision
unfoldable pub row_at : ℕ → List ℕ → Row
row_at at s = row_from (layout.row_of (part at layout.row_size s))

unfoldable pub node_at : ℕ → List ℕ → Revision × Node
node_at at s = node_held (layout.row_of (part at layout.row_size s))

unfoldable pub rev_at : ℕ → List ℕ → Revision
rev_at at s = (node_at at s).0

-- ---- a row is written: the bytes of what it means

abbrev pub kind_byte : Option Content → ℕ
kind_byte o = maybe 0 (λ c. content_kind c) o

abbrev pub label_held : Option Content → ℕ
label_held o = maybe 0 (λ c. content_label c) o

abbrev pub known_byte : {A : Type 0} → Option A → ℕ
known_byte o = maybe 0 (λ p. 1) o

-- zeros where the parent is not known
abbrev pub parent_held : Option Revision → Hash
parent_held o = maybe (replicate hash_size 0) (λ p. p.hash) o

-- number, hash, kind, whether the parent is known, two zeros, the parent's hash, label
unfoldable pub stored_row : Revision × Node → List ℕ
stored_row v =
    be 4 v.0.number.0
    ++ (v.0.hash
    ++ (kind_byte v.1.content
    ∷ known_byte v.1.parent
    ∷ (be 2 0 ++ (parent_held v.1.parent ++ be 8 (label_held v.1.content)))))

-- ---- what can be read back from a row's bytes

abbrev pub FitsParent : Revision → Option Revision → Type 0
FitsParent v None = Unit {0}
FitsParent v (Some p) = (p.number.0 ≡ pred v.number.0) × (length p.hash ≡ hash_size)

abbrev pub FitsContent : Option Content → Type 0
FitsContent None = Unit {0}
FitsContent (Some c) = IsContent c

pub record FitsRow (v : Revision × Node) : Type 0 where
  pub number : v.0.number.0 < four_bytes
  pub hash : length v.0.hash ≡ hash_size
  pub parent : FitsParent v.0 v.1.parent
  pub content : FitsContent v.1.content

-- ---- promises

-- the row's bytes stand at `at`, and it fits them
pub record RowPut (before : List ℕ) (at : ℕ) (row : Row) (after : List ℕ) : Type 0 where
  pub is : after ≡ splice before at (stored_row (meaning row))
  pub fits : FitsRow (meaning row)
