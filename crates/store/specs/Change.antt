-- What a change of the buffer does to the replica in it. A path write is made of these, so they pass
-- through states that aren't replicas yet.
use Rattle.std.specs.Prelude.{◌≡◌, List, [], ◌∷◌, ℕ, zero, suc, ◌≤◌, ◌<◌, length}
use Rattle.std.specs.Prelude.{None}
use Rattle.rules.specs.declared.Revision.{Revision}
use Rattle.rules.specs.declared.Seq.{Seq}
use Rattle.rules.specs.Map.{find, alter, Ascending}
use Rattle.rules.specs.Order.{order_rev}
use Rattle.rules.specs.Replica.{Id, Node, Tree, Document, Replica, revisions_held}
use Rattle.rules.specs.Room.{documents_most, revisions_most, id_most}
use Rattle.rules.specs.Write.{learn}
use Rattle.tree.specs.declared.table.Body.{Body}
use Rattle.tree.specs.Table.{insert_at}
use Rattle.store.specs.Storage.{stored, replica_of, Laid}
use Rattle.store.specs.Documents.{documents_of, document_at, IsBody}

-- the i-th changed by f
unfoldable pub modify : {A : Type 0} → ℕ → (A → A) → List A → List A
modify i f [] = []
modify zero f (x ∷ xs) = f x ∷ xs
modify (suc i) f (x ∷ xs) = x ∷ modify i f xs

-- a document that has no revisions yet
abbrev pub blank : Id → Id × Document
blank i = (i, record { seq = record { 0 = 0 }; tree = [] })

unfoldable pub with_document : ℕ → Id → Replica → Replica
with_document at i r = record {
  seq = r.seq;
  documents = insert_at at (blank i) r.documents;
}

abbrev pub set_seq : Seq → Id × Document → Id × Document
set_seq q d = (d.0, record { seq = q; tree = d.1.tree })

-- "the sequence rises by one, and the document takes the new value"
unfoldable pub with_seq : ℕ → Seq → Replica → Replica
with_seq d q r = record { seq = q; documents = modify d (set_seq q) r.documents }

abbrev pub set_tree : (Tree → Tree) → Id × Document → Id × Document
set_tree f d = (d.0, record { seq = d.1.seq; tree = f d.1.tree })

-- with f of the tree of document d
unfoldable pub with_tree : ℕ → (Tree → Tree) → Replica → Replica
with_tree d f r = record { seq = r.seq; documents = modify d (set_tree f) r.documents }

-- ---- contracts

-- the buffer holds r now, to the last byte
pub record Holds (r : Replica) (s : List ℕ) : Type 0 where
  pub bytes : s ≡ stored r
  pub laid : Laid s
  pub means : replica_of s ≡ r

pub record CanAddDocument (s : List ℕ) (at : ℕ) (i : Id) : Type 0 where
  pub laid : Laid s
  pub place : at ≤ length (documents_of s)
  pub room : length (documents_of s) < documents_most
  pub id : length i ≤ id_most

-- a row goes in at place i of document d
pub record CanInsertRow (s : List ℕ) (d : ℕ) (b : Body) (i : ℕ) : Type 0 where
  pub body : IsBody s d b
  pub place : i ≤ b.rows
  pub room : revisions_held (documents_of s) < revisions_most

-- room is asked for only where the revision is new
pub record CanLearn (s : List ℕ) (d : ℕ) (b : Body) (v : Revision × Node) : Type 0 where
  pub body : IsBody s d b
  pub ascending : Ascending order_rev (document_at (documents_of s) d).1.tree
  pub room : find order_rev v.0 (document_at (documents_of s) d).1.tree ≡ None → revisions_held (documents_of s) < revisions_most

-- document d knows what v gives, and its rows stand at b now
pub record Learnt (s : List ℕ) (d : ℕ) (v : Revision × Node) (b : Body) (after : List ℕ) : Type 0 where
  pub holds : Holds (with_tree d (alter order_rev v.0 (learn v.1)) (replica_of s)) after
  pub body : IsBody after d b
