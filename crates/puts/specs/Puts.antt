-- A leaf's line in the parts that are written one after the other, and what a caller shows to have them written.
use Rattle.std.specs.Prelude.{◌≡◌, Bool, true, List, [], ◌∷◌, ◌++◌, ℕ, ◌+◌, ◌-◌, ◌*◌, ◌/◌, ◌≤◌, ◌<◌, length, is_some}
use Rattle.std.specs.Prelude.{Result, Ok, Err}
use Rattle.std.specs.Prelude.{None, Some}
use Prim.Native.String.{String}
use Rattle.rules.specs.declared.Content.{Content}
use Rattle.rules.specs.declared.Content.TheVariants.{Live, Deleted}
use Rattle.rules.specs.declared.Refusal.{Refusal}
use Rattle.rules.specs.declared.Revision.{Revision}
use Rattle.rules.specs.declared.RevNumber.{RevNumber}
use Rattle.rules.specs.Bytes.{pieces}
use Rattle.rules.specs.Choice.{first_that}
use Rattle.rules.specs.Read.{LeafOf, path_of, reads}
use Rattle.rules.specs.Replica.{Id, Hash, Tree, tree_of, Known, HasContent}
use Rattle.rules.specs.Report.{decimal, hex, text, dash, rev_text}
use Rattle.rules.specs.Room.{revisions_most, hashes_most, id_most, hash_size}
use Rattle.text.specs.Text.{size, hex_size, rev_most, Put}
use Rattle.tree.specs.declared.table.Body.{Body}
use Rattle.tree.specs.Leaf.{leaf_of}
use Rattle.tree.specs.Rows.{row_at}
use Rattle.tree.specs.Table.{tree_in, row_start}
use Rattle.store.specs.Storage.{replica_of}
use Rattle.reads.specs.Reads.{CanRead}
use Rattle.lines.specs.Put.{leaf_line, lines_text, put_refusals}

-- ---- the words between a line's id, numbers and hashes

abbrev pub start_word : String
start_word = "{\"_id\":\""

abbrev pub rev_word : String
rev_word = "\",\"_rev\":\""

abbrev pub revisions_word : String
revisions_word = "\",\"_revisions\":{\"start\":"

abbrev pub ids_word : String
ids_word = ",\"ids\":[\""

abbrev pub next_word : String
next_word = "\",\""

abbrev pub label_word : String
label_word = "\"]},\"label\":"

abbrev pub end_word : String
end_word = "}\n"

abbrev pub deleted_word : String
deleted_word = "\"]},\"_deleted\":true}\n"

-- ---- the parts of a line

-- the id and the revision
unfoldable pub start_text : Id → Revision → List ℕ
start_text i v = text start_word ++ (i ++ (text rev_word ++ rev_text v))

-- hashes behind another, each after a comma
unfoldable pub next_texts : List Hash → List ℕ
next_texts [] = []
next_texts (h ∷ hs) = text next_word ++ (hex h ++ next_texts hs)

-- the path: the number, the revision's own hash, the others
unfoldable pub path_text : Revision → List Hash → List ℕ
path_text v hs = text revisions_word ++ (decimal v.number.0 ++ (text ids_word ++ (hex v.hash ++ next_texts hs)))

-- the content and the line's end
abbrev pub end_text : Content → List ℕ
end_text (Live n) = text label_word ++ (decimal n ++ text end_word)
end_text Deleted = text deleted_word

-- the hashes that bytes are
abbrev pub hashes_in : List ℕ → List Hash
hashes_in s = pieces (length s / hash_size) hash_size s

-- ---- how long they are

-- the start, for an id of n bytes
abbrev pub start_most : ℕ → ℕ
start_most n = size start_word + n + size rev_word + rev_most

-- one of the hashes behind another
abbrev pub next_size : ℕ
next_size = size next_word + hex_size hash_size

-- the path of a revision numbered n, with k hashes behind its own
abbrev pub path_size : ℕ → ℕ → ℕ
path_size n k = size revisions_word + length (decimal n) + size ids_word + hex_size hash_size + k * next_size

-- what every line has but its id, its numbers, the hashes of its path with a word before each, and its content
abbrev pub fixed_size : ℕ
fixed_size = size start_word + size rev_word + size dash + hex_size hash_size + size revisions_word + size ids_word - size next_word

-- a line by the length of its id, its number, how many hashes its path has, and its content
unfoldable pub line_size : ℕ → RevNumber → ℕ → Content → ℕ
line_size i n k c = fixed_size + i + 2 * length (decimal n.0) + k * next_size + length (end_text c)

pub record CanSize (i k : ℕ) : Type 0 where
  pub id : i ≤ id_most
  pub few : k ≤ hashes_most

-- of the first n rows each numbered above 1 has a known parent
abbrev pub Rooted : Body → List ℕ → ℕ → Type 0
Rooted b s n = (j : ℕ) → j < n → 1 < (row_at (row_start b j) s).rev.number.0 → is_some (row_at (row_start b j) s).parent ≡ true

pub record CanCount (b : Body) (s : List ℕ) (v : Revision) (r : Bool) : Type 0 where
  pub rows : CanRead b s
  pub known : Known (tree_in b s) v
  pub rooted : r ≡ true → Rooted b s b.rows

-- ---- the lines

-- the longest path
abbrev pub path_room : ℕ
path_room = hashes_most * hash_size

-- one leaf: its path is no longer than the longest, for which there is room in the scratch place
pub record CanPutLine (b : Body) (s : List ℕ) (i : Id) (v : Revision) (c : Content) (path out : List ℕ) (at : ℕ) : Type 0 where
  pub rows : CanRead b s
  pub content : HasContent (tree_in b s) v c
  pub few : length (path_of (tree_in b s) v) ≤ hashes_most
  pub scratch : path_room ≤ length path
  pub room : at + length (leaf_line i (tree_in b s) (leaf_of v c)) ≤ length out

-- its line stands at `at`, and the scratch place stays as long as it was
pub record LinePut (line path out : List ℕ) (at next : ℕ) (path' out' : List ℕ) : Type 0 where
  pub put : Put line out at next out'
  pub scratch : length path' ≡ length path

-- the rows are a document's tree, and the sizes are those of a replica
pub record CanPut (b : Body) (s : List ℕ) (i : Id) : Type 0 where
  pub rows : CanRead b s
  pub most : b.rows ≤ revisions_most
  pub few : (a : LeafOf) → HasContent (tree_in b s) a.rev a.content → length (path_of (tree_in b s) a.rev) ≤ hashes_most
  pub id : length i ≤ id_most

pub record CanPutLines (b : Body) (s : List ℕ) (i : Id) (out : List ℕ) : Type 0 where
  pub can : CanPut b s i
  pub room : length (lines_text i (tree_in b s)) ≤ length out

-- the lines with the lent buffer: 14, or they stand at its front
unfoldable pub lines_in : Id → Tree → List ℕ → Result ℕ Refusal × List ℕ
lines_in i t out = let bytes = lines_text i t in reads [] (length bytes) bytes out

-- ---- the document

-- the rows b are those of the document i, which can be put out
pub record IsOpen (s : List ℕ) (i : Id) (b : Body) : Type 0 where
  pub refusals : first_that (put_refusals (replica_of s) i) ≡ None
  pub can : CanPut b s i
  pub tree : tree_in b s ≡ tree_of (replica_of s) i

-- "Putting out checks 1, 12, 43"
pub record Opens (s : List ℕ) (i : Id) (r : Result Body Refusal) : Type 0 where
  pub at : (b : Body) → r ≡ Ok b → IsOpen s i b
  pub refused : (n : Refusal) → r ≡ Err n → first_that (put_refusals (replica_of s) i) ≡ Some n
