-- An edit as a call gives it, the parent that it takes, and what it promises.
use Rattle.std.specs.Prelude.{◌≡◌, List, [], ◌++◌, ℕ, ◌≤◌, length, take}
use Rattle.rules.specs.declared.Refusal.{Refusal}
use Rattle.rules.specs.declared.Outcome.{Outcome}
use Rattle.std.specs.Prelude.{Result, Ok, Err}
use Rattle.std.specs.Prelude.{Option, None, Some}
use Rattle.rules.specs.declared.Content.{Content}
use Rattle.rules.specs.declared.Revision.{Revision}
use Rattle.rules.specs.declared.RevNumber.{RevNumber}
use Rattle.rules.specs.Choice.{maybe}
use Rattle.rules.specs.Edit.{Edit, parent_of, edit}
use Rattle.rules.specs.Replica.{Id, Hash, tree_of}
use Rattle.rules.specs.Room.{number_most}
use Rattle.rules.specs.Write.{Write, write}
use Rattle.tree.specs.declared.table.Body.{Body}
use Rattle.store.specs.Documents.{Shows}
use Rattle.store.specs.Storage.{stored, replica_of, IsStored}

-- ---- the edit that a call gives

-- "optionally a parent revision": it is named or not
abbrev pub edit_of : Id → Hash → Content → Option Revision → Edit
edit_of i h c named = record { id = i; hash = h; content = c; parent = named }

-- ---- the parent that it takes

-- the edit e is on the document whose rows are b, and it names this parent or none
pub record IsOn (s : List ℕ) (b : Body) (named : Option Revision) (e : Edit) : Type 0 where
  pub stored : IsStored s
  pub shows : Shows s b (tree_of (replica_of s) e.id)
  pub parent : e.parent ≡ named

-- and it has this content; `taken` is the parent that it takes
pub record IsRuled (s : List ℕ) (b : Body) (c : Content) (named taken : Option Revision) (e : Edit) : Type 0 where
  pub on : IsOn s b named e
  pub content : e.content ≡ c
  pub takes : taken ≡ parent_of (replica_of s) e

-- a number above the parent's is left
abbrev pub NotLast : Option Revision → Type 0
NotLast None = Unit {0}
NotLast (Some v) = v.number.0 ≡ number_most → ⊥

-- ---- its path write

-- "the new revision and its parent, if any"
abbrev pub child_path : Hash → Option Revision → List ℕ
child_path h parent = h ++ maybe [] (λ v. v.hash) parent

-- the first n bytes are that path
pub record PathPut (h : Hash) (parent : Option Revision) (n : ℕ) (after : List ℕ) : Type 0 where
  pub within : n ≤ length after
  pub path : take n after ≡ child_path h parent

-- "and answers the new number"
abbrev pub answer_of : RevNumber → Result Outcome Refusal → Result RevNumber Refusal
answer_of n (Ok o) = Ok n
answer_of n (Err x) = Err x

-- the path write w is made, and answered as an edit of the number n
pub record ChildWritten (s : List ℕ) (w : Write) (n : RevNumber) (r : Result RevNumber Refusal) (after : List ℕ) : Type 0 where
  pub answer : r ≡ answer_of n (write (replica_of s) w).0
  pub left : after ≡ stored (write (replica_of s) w).1
  pub means : replica_of after ≡ (write (replica_of s) w).1
  pub is : IsStored after

-- ---- the call

-- what an edit promises: the answer, every byte that it leaves, and that they are a replica
pub record EditDone (s : List ℕ) (e : Edit) (r : Result RevNumber Refusal) (after : List ℕ) : Type 0 where
  pub answer : r ≡ (edit (replica_of s) e).0
  pub left : after ≡ stored (edit (replica_of s) e).1
  pub means : replica_of after ≡ (edit (replica_of s) e).1
  pub is : IsStored after
