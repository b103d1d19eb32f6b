-- The reads of a document, step by step: its rows after the refusals 1 and 12, then what is left to refuse and to write.
use Rattle.std.specs.Prelude.{◌≡◌, Bool, true, false, List, [], ◌∷◌, ◌++◌, map, ℕ, ◌/◌, ◌≤◌, length}
use Rattle.std.specs.Prelude.{Result, Ok, Err}
use Rattle.std.specs.Prelude.{None, Some}
use Rattle.rules.specs.declared.Refusal.{Refusal}
use Rattle.rules.specs.declared.Refusal.TheVariants.{BadId, NoRevision}
use Rattle.rules.specs.declared.Revision.{Revision}
use Rattle.rules.specs.Bytes.{join}
use Rattle.rules.specs.Choice.{pick, maybe, first_that}
use Rattle.rules.specs.Map.{find}
use Rattle.rules.specs.Order.{order_rev}
use Rattle.rules.specs.Read.{leaves, winner, leaf_bytes, path_of, asked_size, missing, reads, document_refusals}
use Rattle.rules.specs.Replica.{Id, Tree, tree_of, IsTree}
use Rattle.rules.specs.Write.{bad_id, is_none}
use Rattle.octets.specs.Splice.{splice}
use Rattle.tree.specs.declared.table.Body.{Body}
use Rattle.tree.specs.Table.{tree_in, Searchable}
use Rattle.store.specs.Documents.{documents_of, place_of_id, IsBody}
use Rattle.store.specs.Storage.{replica_of}

-- the rows are a document's tree
pub record CanRead (b : Body) (s : List ℕ) : Type 0 where
  pub rows : Searchable b s
  pub is : IsTree (tree_in b s)

-- 1, of a bad id
pub record IdChecked (i : Id) (r : Result (Unit {0}) Refusal) : Type 0 where
  pub good : r ≡ Ok tt → bad_id i ≡ false
  pub refused : (n : Refusal) → r ≡ Err n → (bad_id i ≡ true) × (n ≡ BadId)

-- the rows b are those of the document i, which is there
pub record IsOpen (s : List ℕ) (i : Id) (b : Body) : Type 0 where
  pub refusals : first_that (document_refusals (replica_of s) i) ≡ None
  pub rows : CanRead b s
  pub tree : tree_in b s ≡ tree_of (replica_of s) i
  pub place : ℕ
  pub found : place_of_id 0 i (documents_of s) ≡ Ok place
  pub body : IsBody s place b

-- "Reads of a document check 1, 12"
pub record Opens (s : List ℕ) (i : Id) (r : Result Body Refusal) : Type 0 where
  pub at : (b : Body) → r ≡ Ok b → IsOpen s i b
  pub refused : (n : Refusal) → r ≡ Err n → first_that (document_refusals (replica_of s) i) ≡ Some n

-- ---- what a read of a tree refuses, answers and writes

pub record Reading : Type 0 where
  pub refusals : List (Bool × Refusal)
  pub count : ℕ
  pub bytes : List ℕ

unfoldable pub winner_in : Tree → Reading
winner_in t = let bytes = maybe [] leaf_bytes (winner t) in record { refusals = []; count = length bytes; bytes = bytes }

unfoldable pub leaves_in : Tree → Reading
leaves_in t = record { refusals = []; count = length (leaves t); bytes = join (map leaf_bytes (leaves t)) }

unfoldable pub path_in : Revision → Tree → Reading
path_in v t = record {
  refusals = (is_none (find order_rev v t), NoRevision) ∷ [];
  count = length (path_of t v);
  bytes = join (path_of t v);
}

-- after these refusals, with the lent buffer
abbrev pub reading_after : List (Bool × Refusal) → Reading → List ℕ → Result ℕ Refusal × List ℕ
reading_after before q out = reads (before ++ q.refusals) q.count q.bytes out

-- ---- missing revisions

-- "0 known, 1 missing"
abbrev pub missing_of : Tree → Revision → ℕ
missing_of t v = pick (is_none (find order_rev v t)) 1 0

pub record CanPutMissing (b : Body) (s asked out : List ℕ) : Type 0 where
  pub rows : Searchable b s
  pub room : length asked / asked_size ≤ length out

-- a byte for each asked revision stands at the front
pub record MissingPut (t : Tree) (asked before after : List ℕ) : Type 0 where
  pub is : after ≡ splice before 0 (missing t asked)
