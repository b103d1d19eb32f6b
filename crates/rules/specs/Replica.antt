-- "What a replica holds."
use Rattle.std.specs.Prelude.{◌≡◌, List, [], ◌∷◌, ◌↔◌, ℕ, suc, ◌+◌, ◌≤◌, ◌<◌, max, length}
use Rattle.std.specs.Prelude.{Option, None, Some}
use Rattle.rules.specs.declared.Content.{Content}
use Rattle.rules.specs.declared.Content.TheVariants.{Live, Deleted}
use Rattle.rules.specs.declared.Revision.{Revision}
use Rattle.rules.specs.declared.Seq.{Seq}
use Rattle.rules.specs.Bytes.{Bytes}
use Rattle.rules.specs.Map.{Map, find, Ascending}
use Rattle.rules.specs.Order.{order_bytes, order_rev}
use Rattle.rules.specs.Room.{documents_most, revisions_most, id_most, hash_size, number_most, seq_most, labels}

abbrev pub Id : Type 0
Id = List ℕ

abbrev pub Hash : Type 0
Hash = List ℕ

abbrev pub revision : ℕ → Hash → Revision
revision n h = record { number = record { 0 = n }; hash = h }

-- "A revision has a known parent or none." "Each leaf has a content", and only a leaf:
-- "A revision that gains a child loses its content."
pub record Node : Type 0 where
  pub parent : Option Revision
  pub content : Option Content

-- a document's known revisions, each with what is known of it
abbrev pub Tree : Type 0
Tree = Map Revision Node

-- "Each document keeps the sequence of its last change."
pub record Document : Type 0 where
  pub seq : Seq
  pub tree : Tree

-- "The replica has an update sequence, 0 when fresh"
pub record Replica : Type 0 where
  pub seq : Seq
  pub documents : Map Id Document

abbrev pub fresh : Replica
fresh = record { seq = record { 0 = 0 }; documents = [] }

abbrev pub tree_in : Option Document → Tree
tree_in None = []
tree_in (Some d) = d.tree

unfoldable pub document_of : Replica → Id → Option Document
document_of r i = find order_bytes i r.documents

-- the tree of a document, empty where it is absent
unfoldable pub tree_of : Replica → Id → Tree
tree_of r i = tree_in (document_of r i)

-- ---- what is known of a revision

abbrev pub Known : Tree → Revision → Type 0
Known t v = (n : Node) × (find order_rev v t ≡ Some n)

abbrev pub HasParent : Tree → Revision → Revision → Type 0
HasParent t v p = (n : Node) × (find order_rev v t ≡ Some n) × (n.parent ≡ Some p)

abbrev pub HasContent : Tree → Revision → Content → Type 0
HasContent t v c = (n : Node) × (find order_rev v t ≡ Some n) × (n.content ≡ Some c)

abbrev pub HasChild : Tree → Revision → Type 0
HasChild t p = (v : Revision) × HasParent t v p

-- "A leaf is a revision that no known revision of its document has as parent."
abbrev pub Leaf : Tree → Revision → Type 0
Leaf t v = Known t v × (HasChild t v → ⊥)

-- ---- what every replica satisfies

-- "revisions held": of all documents together
unfoldable pub revisions_held : Map Id Document → ℕ
revisions_held [] = 0
revisions_held (d ∷ ds) = length d.1.tree + revisions_held ds

-- the largest of the own sequences, 0 if there is none
unfoldable pub largest_seq : Map Id Document → ℕ
largest_seq [] = 0
largest_seq (d ∷ ds) = max d.1.seq.0 (largest_seq ds)

-- "an id of 1 to 32 bytes, each byte free"
pub record IsId (i : Id) : Type 0 where
  pub bytes : Bytes i
  pub least : 1 ≤ length i
  pub most : length i ≤ id_most

-- "Numbers run from 1 to 4,294,967,295"; "The hash is sixteen bytes"
pub record IsRevision (v : Revision) : Type 0 where
  pub bytes : Bytes v.hash
  pub size : length v.hash ≡ hash_size
  pub least : 1 ≤ v.number.0
  pub most : v.number.0 ≤ number_most

-- "a live body with its 64-bit label, or a deletion, which has no label"
abbrev pub IsContent : Content → Type 0
IsContent (Live n) = n < labels
IsContent Deleted = Unit {0}

pub record IsTree (t : Tree) : Type 0 where
  pub ascending : Ascending order_rev t
  pub some_revision : 1 ≤ length t
  pub revisions : (v : Revision) → Known t v → IsRevision v
  -- "A parent's number is one lower." (So a revision numbered 1 has none: numbers begin at 1.)
  pub lower : (v p : Revision) → HasParent t v p → suc p.number.0 ≡ v.number.0
  pub parents : (v p : Revision) → HasParent t v p → Known t p
  -- "Each leaf has a content", and no other revision has one
  pub leaves : (v : Revision) → ((c : Content) × HasContent t v c) ↔ Leaf t v
  pub contents : (v : Revision) (c : Content) → HasContent t v c → IsContent c

pub record IsDocument (r : Replica) (i : Id) (d : Document) : Type 0 where
  pub id : IsId i
  pub tree : IsTree d.tree
  pub seq_least : 1 ≤ d.seq.0
  -- no other document has this sequence
  pub seq_own : (j : Id) (e : Document) → document_of r j ≡ Some e → e.seq ≡ d.seq → j ≡ i

-- "Replicas are only what this tool's calls make": what each of them satisfies
pub record IsReplica (r : Replica) : Type 0 where
  pub ascending : Ascending order_bytes r.documents
  pub documents : (i : Id) (d : Document) → document_of r i ≡ Some d → IsDocument r i d
  pub documents_at_most : length r.documents ≤ documents_most
  pub revisions_at_most : revisions_held r.documents ≤ revisions_most
  pub seq_largest : r.seq.0 ≡ largest_seq r.documents
  pub seq_at_most : r.seq.0 ≤ seq_most
