-- "The stored image", edition 1: a replica's image, and what an image without a fault holds.
use Rattle.std.specs.Prelude.{List, [], ◌∷◌, ◌++◌, map, ℕ, pred, ◌+◌, ◌-◌, ◌*◌, eqb, length, take, drop, replicate}
use Rattle.rules.specs.declared.Refusal.{Refusal}
use Rattle.std.specs.Prelude.{Result}
use Rattle.std.specs.Prelude.{Option, None, Some}
use Rattle.rules.specs.declared.Content.{Content}
use Rattle.rules.specs.declared.Content.TheVariants.{Live, Deleted}
use Rattle.rules.specs.declared.Revision.{Revision}
use Rattle.rules.specs.Bytes.{be, pieces, join}
use Rattle.rules.specs.Choice.{pick}
use Rattle.rules.specs.Layout.{Entry, Row, head_size, entry_size, row_size, head_of, entry_of, row_of}
use Rattle.rules.specs.Map.{Map}
use Rattle.rules.specs.Read.{content_kind, content_label, reads}
use Rattle.rules.specs.Replica.{Id, Hash, revision, Node, Document, Replica, revisions_held}
use Rattle.rules.specs.Room.{id_most, hash_size}

abbrev pub edition : ℕ
edition = 1

-- "total length (4) = 16 + 44d + 48r"
abbrev pub total_length : ℕ → ℕ → ℕ
total_length d r = head_size + entry_size * d + row_size * r

-- ---- the image of a replica

-- "edition 1 (2), documents d (2), revisions r (2), zero (2), update sequence (4), total length (4)"
unfoldable pub head_bytes : ℕ → ℕ → ℕ → List ℕ
head_bytes d r q = be 2 edition ++ (be 2 d ++ (be 2 r ++ (be 2 0 ++ (be 4 q ++ be 4 (total_length d r)))))

-- "id length (1), id filled with zeros (32), zero (1), rows (2), own sequence (4), byte place of its
-- first row (4)"
unfoldable pub entry_bytes : ℕ → Id × Document → List ℕ
entry_bytes place d =
    length d.0
    ∷ (d.0
    ++ (replicate (id_most - length d.0) 0
    ++ (0 ∷ (be 2 (length d.1.tree) ++ (be 4 d.1.seq.0 ++ be 4 place)))))

-- "Bodies follow in this order without a gap."
unfoldable pub contents_bytes : ℕ → Map Id Document → List ℕ
contents_bytes place [] = []
contents_bytes place (d ∷ ds) = entry_bytes place d ++ contents_bytes (place + row_size * length d.1.tree) ds

-- "kind (1: 0 has a child, 1 live, 2 deleted)"
abbrev pub kind_of : Option Content → ℕ
kind_of None = 0
kind_of (Some c) = content_kind c

-- "label (8, zero unless live)"
abbrev pub label_of : Option Content → ℕ
label_of None = 0
label_of (Some c) = content_label c

-- "parent known (1: 0 or 1)"
abbrev pub flag_of : Option Revision → ℕ
flag_of None = 0
flag_of (Some p) = 1

-- "parent hash (16, zeros if unknown; a known one may be all zeros)"
abbrev pub parent_hash : Option Revision → Hash
parent_hash None = replicate hash_size 0
parent_hash (Some p) = p.hash

-- "Row, 48 bytes": its fields in their order
unfoldable pub row_bytes : Revision × Node → List ℕ
row_bytes v =
    be 4 v.0.number.0
    ++ (v.0.hash
    ++ (kind_of v.1.content
    ∷ flag_of v.1.parent
    ∷ (be 2 0 ++ (parent_hash v.1.parent ++ be 8 (label_of v.1.content)))))

unfoldable pub body_bytes : Map Id Document → List ℕ
body_bytes [] = []
body_bytes (d ∷ ds) = join (map row_bytes d.1.tree) ++ body_bytes ds

-- "table of contents first, then the bodies"
unfoldable pub image : Replica → List ℕ
image r =
    let d = length r.documents in
    head_bytes d (revisions_held r.documents) r.seq.0
    ++ (contents_bytes (head_size + entry_size * d) r.documents ++ body_bytes r.documents)

-- "changes and saving 14"
unfoldable pub save : Replica → List ℕ → Result ℕ Refusal × List ℕ
save r out = let bytes = image r in reads [] (length bytes) bytes out

-- ---- the parts of an image

unfoldable pub entries_of : List ℕ → List Entry
entries_of s = map entry_of (pieces (head_of s).documents entry_size (drop head_size s))

unfoldable pub rows_of : List ℕ → List Row
rows_of s = map row_of (pieces (head_of s).revisions row_size (drop (head_size + entry_size * (head_of s).documents) s))

-- the rows of each entry: "Bodies follow in this order without a gap"
unfoldable pub deal : {R : Type 0} → List Entry → List R → List (List R)
deal [] rs = []
deal (e ∷ es) rs = take e.rows rs ∷ deal es (drop e.rows rs)

-- ---- what an image without a fault holds

-- a known parent is the row numbered one lower with the parent hash: "A parent's number is one lower."
unfoldable pub parent_of_row : Row → Option Revision
parent_of_row w = pick (eqb w.flag 0) None (Some (revision (pred w.rev.number.0) w.parent))

abbrev pub content_of_kind : ℕ → ℕ → Option Content
content_of_kind k label = pick (eqb k 0) None (Some (pick (eqb k 1) (Live label) Deleted))

unfoldable pub node_in : Row → Revision × Node
node_in w = (w.rev, record { parent = parent_of_row w; content = content_of_kind w.kind w.label })

-- the documents of entries and their rows, where `node` says what a row means
unfoldable pub documents_in : {R : Type 0} → (R → Revision × Node) → List Entry → List (List R) → Map Id Document
documents_in node [] rss = []
documents_in node (e ∷ es) [] = []
documents_in node (e ∷ es) (rs ∷ rss) =
    (e.id, record { seq = record { 0 = e.seq }; tree = map node rs }) ∷ documents_in node es rss

unfoldable pub replica_in : List ℕ → Replica
replica_in s = record {
  seq = record { 0 = (head_of s).seq };
  documents = documents_in node_in (entries_of s) (deal (entries_of s) (rows_of s));
}
