-- "Reading": winner, leaves, conflicts, path, missing, changes.
use Rattle.std.specs.Prelude.{Bool, true, false, not, List, [], ◌∷◌, ◌++◌, map, ℕ, zero, suc, ◌/◌, ◌%◌, eqb, leb, ltb, length, take, drop}
use Rattle.std.specs.declared.cmp.Ordering.{Ordering}
use Rattle.std.specs.Prelude.{Result, Ok, Err}
use Rattle.std.specs.Prelude.{Option, None, Some}
use Rattle.rules.specs.declared.Change.{Change}
use Rattle.rules.specs.declared.Content.{Content}
use Rattle.rules.specs.declared.Content.TheVariants.{Live, Deleted}
use Rattle.rules.specs.declared.Held.{Held}
use Rattle.rules.specs.declared.Leaf.{Leaf}
use Rattle.rules.specs.declared.Refusal.{Refusal}
use Rattle.rules.specs.declared.Refusal.TheVariants.{BadId, NoDocument, NoRevision, ShortBuffer, BadAsked}
use Rattle.rules.specs.declared.Revision.{Revision}
use Rattle.rules.specs.declared.Seq.{Seq}
use Rattle.rules.specs.Bytes.{be, value, pieces, join}
use Rattle.rules.specs.Choice.{pick, maybe, first_that}
use Rattle.rules.specs.Map.{Map, find}
use Rattle.rules.specs.Order.{order_n, order_rev, and_then, is_less, same_rev}
use Rattle.rules.specs.Replica.{Id, Hash, revision, Node, Tree, Document, Replica, document_of, tree_of, revisions_held}
use Rattle.rules.specs.Write.{bad_id, is_none, parent_in}

-- ---- leaves

-- a leaf with its content
abbrev pub LeafOf : Type 0
LeafOf = Leaf

abbrev pub leaf_in : Revision × Node → List LeafOf
leaf_in v = maybe [] (λ c. record { rev = v.0; content = c } ∷ []) v.1.content

-- "highest number first, then highest hash": a tree ascends, so from its end
unfoldable pub leaves : Tree → List LeafOf
leaves [] = []
leaves (v ∷ t) = leaves t ++ leaf_in v

-- ---- winner and conflicts

abbrev pub is_live : Content → Bool
is_live (Live n) = true
is_live Deleted = false

abbrev pub is_deletion : Content → Bool
is_deletion (Live n) = false
is_deletion Deleted = true

-- "among live leaves ..; with no live leaf, the same among deleted ones"
abbrev pub rank : Content → ℕ
rank (Live n) = 1
rank Deleted = 0

-- by rank, then "the highest number, then the highest hash"
unfoldable pub order_leaf : LeafOf → LeafOf → Ordering
order_leaf a b = and_then (order_n (rank a.content) (rank b.content)) (order_rev a.rev b.rev)

abbrev pub higher : LeafOf → Option LeafOf → LeafOf
higher a None = a
higher a (Some b) = pick (is_less (order_leaf a b)) b a

unfoldable pub highest : List LeafOf → Option LeafOf
highest [] = None
highest (a ∷ more) = Some (higher a (highest more))

unfoldable pub winner : Tree → Option LeafOf
winner t = highest (leaves t)

-- "The document's conflicts are its leaves other than the winner."
unfoldable pub not_at : Revision → List LeafOf → List LeafOf
not_at v [] = []
not_at v (a ∷ more) = pick (same_rev v a.rev) (not_at v more) (a ∷ not_at v more)

unfoldable pub conflicts : Tree → List LeafOf
conflicts t = maybe [] (λ w. not_at w.rev (leaves t)) (winner t)

-- ---- bytes

-- "kind (1: 0 has a child, 1 live, 2 deleted)"
abbrev pub content_kind : Content → ℕ
content_kind (Live n) = 1
content_kind Deleted = 2

-- "label (8, zero unless live)"
abbrev pub content_label : Content → ℕ
content_label (Live n) = n
content_label Deleted = 0

-- "29 bytes each: number, hash, kind, label as in an image row"
unfoldable pub leaf_bytes : LeafOf → List ℕ
leaf_bytes a =
    be 4 a.rev.number.0 ++ (a.rev.hash ++ (content_kind a.content ∷ be 8 (content_label a.content)))

-- ---- path

-- "the revision itself, followed by the path of its parent, as far as parents are known": of a
-- revision that is numbered n at most, since each parent's number is one lower
unfoldable pub ancestry : ℕ → Tree → Revision → List Hash
ancestry zero t v = []
ancestry (suc n) t v = v.hash ∷ maybe [] (ancestry n t) (parent_in (find order_rev v t))

unfoldable pub path_of : Tree → Revision → List Hash
path_of t v = ancestry v.number.0 t v

-- ---- missing

-- "20 bytes for each revision, a number of four bytes, big-endian, and a hash"
abbrev pub asked_size : ℕ
asked_size = 20

unfoldable pub asked_rev : List ℕ → Revision
asked_rev a = revision (value (take 4 a)) (drop 4 a)

-- "one byte each, 0 known, 1 missing"
unfoldable pub missing_byte : Tree → List ℕ → ℕ
missing_byte t a = pick (is_none (find order_rev (asked_rev a) t)) 1 0

unfoldable pub missing : Tree → List ℕ → List ℕ
missing t asked = map (missing_byte t) (pieces (length asked / asked_size) asked_size asked)

-- ---- documents after a sequence

unfoldable pub insert_by_seq : Id × Document → List (Id × Document) → List (Id × Document)
insert_by_seq d [] = d ∷ []
insert_by_seq d (e ∷ es) = pick (leb d.1.seq.0 e.1.seq.0) (d ∷ e ∷ es) (e ∷ insert_by_seq d es)

-- "Documents come in order of their sequence": those whose own is above s, the lowest first
unfoldable pub documents_after : Seq → Map Id Document → List (Id × Document)
documents_after s [] = []
documents_after s (d ∷ ds) =
    pick (ltb s.0 d.1.seq.0) (insert_by_seq d (documents_after s ds)) (documents_after s ds)

-- ---- the calls: an answer, and the lent buffer as it is left

-- "An accepted call writes the answer at the front of the buffer and leaves the bytes after it."
unfoldable pub front : List ℕ → List ℕ → List ℕ
front bytes out = bytes ++ drop (length bytes) out

-- 14: "a lent output buffer is shorter than the answer"
unfoldable pub short_buffer : List ℕ → List ℕ → Bool × Refusal
short_buffer bytes out = (ltb (length out) (length bytes), ShortBuffer)

abbrev pub lend : {A : Type 0} → (Refusal → A) → List ℕ → A → List ℕ → Option Refusal → A × List ℕ
lend refused out answer bytes None = (answer, front bytes out)
lend refused out answer bytes (Some n) = (refused n, out)

-- a read that answers n and writes bytes, after these refusals and 14
unfoldable pub reads : List (Bool × Refusal) → ℕ → List ℕ → List ℕ → Result ℕ Refusal × List ℕ
reads refusals n bytes out =
    lend Err out (Ok n) bytes (first_that (refusals ++ (short_buffer bytes out ∷ [])))

-- "Reads of a document check 1, 12, 13 (path only), 14"
unfoldable pub document_refusals : Replica → Id → List (Bool × Refusal)
document_refusals r i = (bad_id i, BadId) ∷ (is_none (document_of r i), NoDocument) ∷ []

unfoldable pub read_winner : Replica → Id → List ℕ → Result ℕ Refusal × List ℕ
read_winner r i out =
    let bytes = maybe [] leaf_bytes (winner (tree_of r i)) in reads (document_refusals r i) (length bytes) bytes out

unfoldable pub read_leaves : Replica → Id → List ℕ → Result ℕ Refusal × List ℕ
read_leaves r i out =
    let ls = leaves (tree_of r i) in reads (document_refusals r i) (length ls) (join (map leaf_bytes ls)) out

unfoldable pub read_path : Replica → Id → Revision → List ℕ → Result ℕ Refusal × List ℕ
read_path r i v out =
    let hs = path_of (tree_of r i) v in
    reads (document_refusals r i ++ ((is_none (find order_rev v (tree_of r i)), NoRevision) ∷ [])) (length hs) (join hs) out

-- "missing revisions 1, 15, 14": "asked list not a multiple of 20 bytes"
unfoldable pub read_missing : Replica → Id → List ℕ → List ℕ → Result ℕ Refusal × List ℕ
read_missing r i asked out =
    let bytes = missing (tree_of r i) asked in
    reads ((bad_id i, BadId) ∷ (not (eqb (length asked % asked_size) 0), BadAsked) ∷ []) (length bytes) bytes out

-- "its id length, that sequence, its leaf count and whether its winner is a deletion"
unfoldable pub change_of : Id × Document → Change
change_of d = record {
  id_len = length d.0;
  seq = d.1.seq;
  leaves = length (leaves d.1.tree);
  deleted = maybe false (λ w. is_deletion w.content) (winner d.1.tree);
}

abbrev pub first_of : {A : Type 0} → List A → Option A
first_of [] = None
first_of (a ∷ more) = Some a

-- "the document with the lowest own sequence above s: its id written out ..; or no more, nothing
-- written"; "changes and saving 14"
unfoldable pub read_changes : Replica → Seq → List ℕ → Result (Option Change) Refusal × List ℕ
read_changes r s out =
    maybe (Ok None, out)
    (λ d. lend Err out (Ok (Some (change_of d))) d.0 (first_that (short_buffer d.0 out ∷ [])))
    (first_of (documents_after s r.documents))

-- how many documents and revisions are held
unfoldable pub held_in : Replica → Held
held_in r = record { documents = length r.documents; revisions = revisions_held r.documents }
