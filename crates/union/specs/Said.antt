-- What the theorems say of an edit, of one write, of reads and of pulls, in the words of rules.
use Rattle.std.specs.Prelude.{◌≡◌, Bool, true, false, List, [], ◌∷◌, ℕ, ◌+◌, length}
use Rattle.std.specs.declared.cmp.Ordering.TheVariants.{Less}
use Rattle.rules.specs.declared.Refusal.{Refusal}
use Rattle.rules.specs.declared.Outcome.{Outcome}
use Rattle.std.specs.Prelude.{Result, Ok, Err}
use Rattle.std.specs.Prelude.{Option, None, Some}
use Rattle.rules.specs.declared.Change.{Change}
use Rattle.rules.specs.declared.Counts.{Counts}
use Rattle.rules.specs.declared.Outcome.TheVariants.{Changed, Unchanged}
use Rattle.rules.specs.declared.Revision.{Revision}
use Rattle.rules.specs.Bytes.{Bytes}
use Rattle.rules.specs.Choice.{maybe, how_many}
use Rattle.rules.specs.Edit.{Edit}
use Rattle.rules.specs.Order.{order_rev}
use Rattle.rules.specs.Pull.{offers, pull}
use Rattle.rules.specs.Read.{LeafOf, leaves, winner, read_winner, read_leaves, read_path, read_missing, change_of}
use Rattle.rules.specs.Replica.{Id, Document, Replica, document_of, tree_of, revisions_held, IsContent}
use Rattle.rules.specs.Room.{hash_size}
use Rattle.rules.specs.Union.{In, given, held, both, IsUnion, SameButSeq, AllAccepted, all_from}
use Rattle.rules.specs.Write.{Write, next, adds, write}

-- what a call of an edit can be given: bytes, a hash of sixteen and a label in range
pub record IsEdit (e : Edit) : Type 0 where
  pub id : Bytes e.id
  pub hash : Bytes e.hash
  pub size : length e.hash ≡ hash_size
  pub content : IsContent e.content

-- "Where nothing was added": each revision and each parent that the path gives is known
pub record Knows (r : Replica) (w : Write) : Type 0 where
  pub revisions : (v : Revision) → (given (w ∷ [])).revision w.id v → (held r).revision w.id v
  pub parents : (v p : Revision) → (given (w ∷ [])).parent w.id v p → (held r).parent w.id v p

-- what an accepted write w leaves of r, stated without running it
pub record Left (r : Replica) (w : Write) (left : Replica) : Type 1 where
  -- "An accepted write adds the revisions and parents that the path gives and the replica lacks."
  pub union : IsUnion left (both (held r) (given (w ∷ [])))
  -- "Where nothing was added .. the sequence stays."
  pub unchanged : adds r w ≡ false → left ≡ r
  -- "Otherwise .. the sequence rises by one, and the document takes the new value."
  pub changed : adds r w ≡ true → left.seq ≡ next r.seq
  pub own : adds r w ≡ true → (d : Document) → document_of left w.id ≡ Some d → d.seq ≡ next r.seq
  -- "A write to one document changes no answer about another document"
  pub others : (j : Id) → (j ≡ w.id → ⊥) → document_of left j ≡ document_of r j

-- ---- one document and the others

-- what changes says of the document i
abbrev pub change_about : Replica → Id → Option Change
change_about r i = maybe None (λ d. Some (change_of (i, d))) (document_of r i)

-- "changes no answer about another document's revisions, parents, leaves, contents, winner or own sequence":
-- each read of the document i, whatever is lent to it, answers and writes alike on both replicas
pub record SameAnswers (i : Id) (r s : Replica) : Type 0 where
  pub winner : (out : List ℕ) → read_winner r i out ≡ read_winner s i out
  pub leaves : (out : List ℕ) → read_leaves r i out ≡ read_leaves s i out
  pub path : (v : Revision) (out : List ℕ) → read_path r i v out ≡ read_path s i v out
  pub missing : (asked out : List ℕ) → read_missing r i asked out ≡ read_missing s i asked out
  pub change : change_about r i ≡ change_about s i

-- "Only the update sequence and the shared room connect them.": all that a write to the document i can
-- depend on is alike
pub record AlikeAt (i : Id) (r s : Replica) : Type 0 where
  pub document : document_of r i ≡ document_of s i
  pub seq : r.seq ≡ s.seq
  pub documents : length r.documents ≡ length s.documents
  pub revisions : revisions_held r.documents ≡ revisions_held s.documents

-- ---- what reads answer

-- "highest number first, then highest hash": each is above all that follow it
abbrev pub Descending : List LeafOf → Type 0
Descending [] = Unit {0}
Descending (a ∷ more) = ((b : LeafOf) → In b more → order_rev b.rev a.rev ≡ Less) × Descending more

-- ---- pulls

-- b after "pulling all of one into the other", from a, and a after pulling that back
abbrev pub there : Replica → Replica → Replica
there a b = (pull all_from a b).1

abbrev pub back : Replica → Replica → Replica
back a b = (pull all_from (there a b) a).1

-- pulls both ways leave a and b with the union of what they held
pub record Agreed (a b : Replica) : Type 1 where
  pub accepted_there : AllAccepted (offers all_from a) b
  pub accepted_back : AllAccepted (offers all_from (there a b)) a
  pub union_there : IsUnion (there a b) (both (held a) (held b))
  pub union_back : IsUnion (back a b) (both (held a) (held b))
  -- they are the same but for sequences
  pub same : SameButSeq (there a b) (back a b)
  pub winners : (i : Id) → winner (tree_of (there a b) i) ≡ winner (tree_of (back a b) i)

-- "three counts: changed, unchanged, refused": together
abbrev pub total : Counts → ℕ
total c = c.changed + c.unchanged + c.refused

-- "the leaves of the source documents"
unfoldable pub leaf_count : List (Id × Document) → ℕ
leaf_count [] = 0
leaf_count (d ∷ ds) = length (leaves d.1.tree) + leaf_count ds

-- what writes answer "one by one": each is made on what those before it left
unfoldable pub answers : Replica → List Write → List (Result Outcome Refusal)
answers r [] = []
answers r (w ∷ ws) = (write r w).0 ∷ answers (write r w).1 ws

abbrev pub is_changed : Result Outcome Refusal → Bool
is_changed (Ok Changed) = true
is_changed (Ok Unchanged) = false
is_changed (Err n) = false

abbrev pub is_unchanged : Result Outcome Refusal → Bool
is_unchanged (Ok Changed) = false
is_unchanged (Ok Unchanged) = true
is_unchanged (Err n) = false

abbrev pub is_refused : Result Outcome Refusal → Bool
is_refused (Ok o) = false
is_refused (Err n) = true

-- "each count is that of the offers one by one": how many of them were answered so
pub record CountsEach (c : Counts) (os : List (Result Outcome Refusal)) : Type 0 where
  pub changed : c.changed ≡ how_many is_changed os
  pub unchanged : c.unchanged ≡ how_many is_unchanged os
  pub refused : c.refused ≡ how_many is_refused os
