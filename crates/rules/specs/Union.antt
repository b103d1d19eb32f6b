-- Demand 3: the union "stated from what is given or held, never by running writes or pulls".
use Rattle.std.specs.Prelude.{true, ◌≡◌, List, [], ◌∷◌, ◌↔◌, ◌⊎◌, ◌≤◌, length}
use Rattle.std.specs.declared.cmp.Ordering.TheVariants.{Less}
use Rattle.rules.specs.declared.Refusal.{Refusal}
use Rattle.rules.specs.declared.Outcome.{Outcome}
use Rattle.std.specs.Prelude.{Result, Ok, Err}
use Rattle.std.specs.Prelude.{None, Some}
use Rattle.rules.specs.declared.Content.{Content}
use Rattle.rules.specs.declared.Refusal.TheVariants.{SequenceSpent}
use Rattle.rules.specs.declared.Revision.{Revision}
use Rattle.rules.specs.declared.Seq.{Seq}
use Rattle.rules.specs.Bytes.{Bytes}
use Rattle.rules.specs.Choice.{first_that}
use Rattle.rules.specs.Map.{Map}
use Rattle.rules.specs.Read.{LeafOf, order_leaf, winner}
use Rattle.rules.specs.Replica.{Id, Node, Tree, Document, Replica, document_of, tree_of, Known, HasParent, HasContent, Leaf, IsContent}
use Rattle.rules.specs.Room.{documents_most, revisions_most, number_most}
use Rattle.rules.specs.Write.{Write, gives, agree, form_refusals, write}

abbrev pub In : {A : Type 0} → A → List A → Type 0
In x [] = ⊥
In x (y ∷ ys) = (x ≡ y) ⊎ In x ys

-- ---- what is given or held: revisions, parents and contents of documents

pub record Things : Type 1 where
  pub revision : Id → Revision → Type 0
  pub parent : Id → Revision → Revision → Type 0
  pub content : Id → Revision → Content → Type 0

-- what writes give
abbrev pub Gives : List Write → Id → Revision → Node → Type 0
Gives ws i v n = (w : Write) × In w ws × (w.id ≡ i) × In (v, n) (gives w)

abbrev pub given : List Write → Things
given ws = record {
  revision = λ i v. (n : Node) × Gives ws i v n;
  parent = λ i v p. (n : Node) × Gives ws i v n × (n.parent ≡ Some p);
  content = λ i v c. (n : Node) × Gives ws i v n × (n.content ≡ Some c);
}

-- what a replica holds
abbrev pub held : Replica → Things
held r = record {
  revision = λ i v. Known (tree_of r i) v;
  parent = λ i v p. HasParent (tree_of r i) v p;
  content = λ i v c. HasContent (tree_of r i) v c;
}

abbrev pub both : Things → Things → Things
both a b = record {
  revision = λ i v. a.revision i v ⊎ b.revision i v;
  parent = λ i v p. a.parent i v p ⊎ b.parent i v p;
  content = λ i v c. a.content i v c ⊎ b.content i v c;
}

-- ---- the union

-- "its leaves are the revisions with no child in it"
abbrev pub LeafIn : Things → Id → Revision → Type 0
LeafIn g i v = g.revision i v × ((u : Revision) → g.parent i u v → ⊥)

-- "each with the content it was given; the content of a revision with a child is no part of it"
abbrev pub ContentIn : Things → Id → Revision → Content → Type 0
ContentIn g i v c = LeafIn g i v × g.content i v c

-- the winner among its leaves: no leaf of it is higher
abbrev pub WinnerIn : Things → Id → LeafOf → Type 0
WinnerIn g i a =
    ContentIn g i a.rev a.content
    × ((b : LeafOf) → ContentIn g i b.rev b.content → order_leaf a b ≡ Less → ⊥)

-- the replica holds exactly the union
pub record IsUnion (r : Replica) (g : Things) : Type 1 where
  pub documents : (i : Id) → ((d : Document) × (document_of r i ≡ Some d)) ↔ ((v : Revision) × g.revision i v)
  pub revisions : (i : Id) (v : Revision) → Known (tree_of r i) v ↔ g.revision i v
  pub parents : (i : Id) (v p : Revision) → HasParent (tree_of r i) v p ↔ g.parent i v p
  pub leaves : (i : Id) (v : Revision) → Leaf (tree_of r i) v ↔ LeafIn g i v
  pub contents : (i : Id) (v : Revision) (c : Content) → HasContent (tree_of r i) v c ↔ ContentIn g i v c
  pub winners : (i : Id) (a : LeafOf) → (winner (tree_of r i) ≡ Some a) ↔ WinnerIn g i a

-- a replica's documents without their sequences
unfoldable pub trees : Map Id Document → Map Id Tree
trees [] = []
trees (d ∷ ds) = (d.0, d.1.tree) ∷ trees ds

-- the same but for sequences
abbrev pub SameButSeq : Replica → Replica → Type 0
SameButSeq r s = trees r.documents ≡ trees s.documents

-- ---- the writes of demand 3

-- what a call can be given: a number, bytes and a label in their ranges
pub record IsWrite (w : Write) : Type 0 where
  pub id : Bytes w.id
  pub number : w.number.0 ≤ number_most
  pub path : Bytes w.path
  pub content : IsContent w.content

-- "A write is well-formed if 1 to 3 below don't refuse it."
pub record WellFormed (w : Write) : Type 0 where
  pub write : IsWrite w
  pub form : first_that (form_refusals w) ≡ None

-- "no two of which give one revision of a document two different parents, or give one newest
-- revision two different contents"
pub record Compatible (g : Things) : Type 0 where
  pub parents : (i : Id) (v p q : Revision) → g.parent i v p → g.parent i v q → p ≡ q
  pub contents : (i : Id) (v : Revision) (c d : Content) → g.content i v c → g.content i v d → agree c d ≡ true

-- "and which fit the limits together"
pub record Fits (g : Things) : Type 0 where
  pub ids : List Id
  pub ids_most : length ids ≤ documents_most
  pub ids_all : (i : Id) (v : Revision) → g.revision i v → In i ids
  pub revisions : List (Id × Revision)
  pub revisions_at_most : length revisions ≤ revisions_most
  pub revisions_all : (i : Id) (v : Revision) → g.revision i v → In (i, v) revisions

-- "hold only things those writes give"
pub record Within (h g : Things) : Type 0 where
  pub revisions : (i : Id) (v : Revision) → h.revision i v → g.revision i v
  pub parents : (i : Id) (v p : Revision) → h.parent i v p → g.parent i v p
  pub contents : (i : Id) (v : Revision) (c : Content) → h.content i v c → g.content i v c

-- ---- writes and pulls one after the other

unfoldable pub write_all : List Write → Replica → Replica
write_all [] r = r
write_all (w ∷ ws) r = write_all ws (write r w).1

abbrev pub IsAccepted : Result Outcome Refusal → Type 0
IsAccepted (Ok o) = Unit {0}
IsAccepted (Err n) = ⊥

-- none of the writes is refused
abbrev pub AllAccepted : List Write → Replica → Type 0
AllAccepted [] r = Unit {0}
AllAccepted (w ∷ ws) r = IsAccepted (write r w).0 × AllAccepted ws (write r w).1

-- "neither runs out of sequence": none of the writes is answered 8
abbrev pub SeqSuffices : List Write → Replica → Type 0
SeqSuffices [] r = Unit {0}
SeqSuffices (w ∷ ws) r = ((write r w).0 ≡ Err SequenceSpent → ⊥) × SeqSuffices ws (write r w).1

-- "pulling all of one into the other"
abbrev pub all_from : Seq
all_from = record { 0 = 0 }
