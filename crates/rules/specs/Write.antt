-- "Writing a path", and the refusals 1 to 8.
use Rattle.std.specs.Prelude.{Bool, true, false, not, ◌&&◌, ◌||◌, List, [], ◌∷◌, ◌++◌, ℕ, suc, pred, ◌+◌, ◌/◌, ◌%◌, eqb, leb, ltb, length}
use Rattle.rules.specs.declared.Outcome.{Outcome}
use Rattle.std.specs.Prelude.{Result, Ok, Err}
use Rattle.std.specs.Prelude.{Option, None, Some}
use Rattle.rules.specs.declared.Content.{Content}
use Rattle.rules.specs.declared.Content.TheVariants.{Live, Deleted}
use Rattle.rules.specs.declared.Outcome.TheVariants.{Changed, Unchanged}
use Rattle.rules.specs.declared.Refusal.{Refusal}
use Rattle.rules.specs.declared.Refusal.TheVariants.{BadId, BadPath, LowNumber, OtherParent, OtherContent, DocumentsFull, RevisionsFull, SequenceSpent}
use Rattle.rules.specs.declared.Revision.{Revision}
use Rattle.rules.specs.declared.RevNumber.{RevNumber}
use Rattle.rules.specs.declared.Seq.{Seq}
use Rattle.rules.specs.Bytes.{pieces}
use Rattle.rules.specs.Choice.{pick, or_else, maybe, any, how_many, first_that}
use Rattle.rules.specs.Map.{find, alter}
use Rattle.rules.specs.Order.{order_bytes, order_rev, same_rev}
use Rattle.rules.specs.Replica.{Id, Hash, revision, Node, Tree, Replica, document_of, tree_of, revisions_held}
use Rattle.rules.specs.Room.{documents_most, revisions_most, hashes_most, id_most, hash_size, seq_most}

-- "A path write gives an id, a number, one or more hashes newest first, and the content of the
-- newest." The hashes come as bytes.
pub record Write : Type 0 where
  pub id : Id
  pub number : RevNumber
  pub path : List ℕ
  pub content : Content

unfoldable pub hashes : Write → List Hash
hashes w = pieces (length w.path / hash_size) hash_size w.path

-- ---- what a path gives

-- "The k-th hash after the newest has the number less k."
abbrev pub newest_of : ℕ → List Hash → Option Revision
newest_of n [] = None
newest_of n (h ∷ hs) = Some (revision n h)

-- "Each hash is the parent of the one before it." Only the newest is given a content.
unfoldable pub along : ℕ → List Hash → Option Content → List (Revision × Node)
along n [] c = []
along n (h ∷ hs) c =
    (revision n h, record { parent = newest_of (pred n) hs; content = c }) ∷ along (pred n) hs None

-- the revisions that a write gives, newest first, each with the parent and the content given for it
unfoldable pub gives : Write → List (Revision × Node)
gives w = along w.number.0 (hashes w) (Some w.content)

-- ---- adding it

-- of a known revision: the newest keeps the content that it has or lacks, and an older one of the
-- path has a child now
abbrev pub keeps : Option Content → Option Content → Option Content
keeps None held = None
keeps (Some c) held = held

-- what is known of a revision once `given` is
abbrev pub learn : Node → Option Node → Node
learn given None = given
learn given (Some n) =
    record { parent = or_else n.parent given.parent; content = keeps given.content n.content }

unfoldable pub add_all : List (Revision × Node) → Tree → Tree
add_all [] t = t
add_all (g ∷ gs) t = add_all gs (alter order_rev g.0 (learn g.1) t)

abbrev pub next : Seq → Seq
next s = record { 0 = suc s.0 }

-- "the sequence rises by one, and the document takes the new value"
unfoldable pub added : Replica → Write → Replica
added r w = record {
  seq = next r.seq;
  documents = alter order_bytes w.id
      (λ d. record { seq = next r.seq; tree = add_all (gives w) (tree_of r w.id) }) r.documents;
}

-- ---- what is new

abbrev pub is_none : {A : Type 0} → Option A → Bool
is_none None = true
is_none (Some a) = false

unfoldable pub is_new : Tree → Revision × Node → Bool
is_new t g = is_none (find order_rev g.0 t)

-- a parent is given, and none is known
abbrev pub lacks_parent : Option Revision → Option Revision → Bool
lacks_parent None held = false
lacks_parent (Some p) held = is_none held

abbrev pub parent_in : Option Node → Option Revision
parent_in None = None
parent_in (Some n) = n.parent

-- also where the revision itself is new
unfoldable pub is_new_parent : Tree → Revision × Node → Bool
is_new_parent t g = lacks_parent g.1.parent (parent_in (find order_rev g.0 t))

-- a new revision, or one that gains its parent
unfoldable pub is_addition : Tree → Revision × Node → Bool
is_addition t g = maybe true (λ n. lacks_parent g.1.parent n.parent) (find order_rev g.0 t)

-- "the revisions and parents that the path gives and the replica lacks": how many of each
unfoldable pub count_new : Tree → List (Revision × Node) → ℕ
count_new t gs = how_many (is_new t) gs

unfoldable pub count_parents : Tree → List (Revision × Node) → ℕ
count_parents t gs = how_many (is_new_parent t) gs

-- "Where nothing was added the answer is unchanged": something is where either is above 0
unfoldable pub adds : Replica → Write → Bool
adds r w = ltb 0 (count_new (tree_of r w.id) (gives w)) || ltb 0 (count_parents (tree_of r w.id) (gives w))

-- ---- the refusals

-- 1: "id empty or over 32 bytes"
unfoldable pub bad_id : Id → Bool
bad_id i = eqb (length i) 0 || ltb id_most (length i)

-- 2: "path bytes not a multiple of 16, or not 1 to 512 hashes"
unfoldable pub bad_path : Write → Bool
bad_path w =
    not (eqb (length w.path % hash_size) 0) || (eqb (length (hashes w)) 0 || ltb hashes_most (length (hashes w)))

-- 3: "number smaller than the count of hashes"
unfoldable pub low_number : Write → Bool
low_number w = ltb w.number.0 (length (hashes w))

-- two that are both there and differ
abbrev pub differ : {A : Type 0} → (A → A → Bool) → Option A → Option A → Bool
differ same None b = false
differ same (Some a) None = false
differ same (Some a) (Some b) = not (same a b)

-- 4: "a revision of the path has a known parent other than the one the path gives it (the oldest is
-- given none, so never counts)"
unfoldable pub other_parent : Tree → Revision × Node → Bool
other_parent t g = maybe false (λ n. differ same_rev n.parent g.1.parent) (find order_rev g.0 t)

-- whether two contents agree
abbrev pub agree : Content → Content → Bool
agree (Live a) (Live b) = eqb a b
agree (Live a) Deleted = false
agree Deleted (Live b) = false
agree Deleted Deleted = true

-- 5: "the newest is a known leaf with another content" (only the newest is given a content)
unfoldable pub other_content : Tree → Revision × Node → Bool
other_content t g = maybe false (λ n. differ agree n.content g.1.content) (find order_rev g.0 t)

-- 6: "document absent and 32 documents held"
unfoldable pub documents_full : Replica → Id → Bool
documents_full r i = is_none (document_of r i) && leb documents_most (length r.documents)

-- 7: "revisions held plus new ones exceed 512"
unfoldable pub revisions_full : Replica → Write → Bool
revisions_full r w = ltb revisions_most (revisions_held r.documents + count_new (tree_of r w.id) (gives w))

-- 8: "something would be added and the sequence is 4,294,967,295"
unfoldable pub sequence_spent : Replica → Write → Bool
sequence_spent r w = adds r w && eqb r.seq.0 seq_most

-- "A write is well-formed if 1 to 3 below don't refuse it."
abbrev pub form_refusals : Write → List (Bool × Refusal)
form_refusals w = (bad_id w.id, BadId) ∷ (bad_path w, BadPath) ∷ (low_number w, LowNumber) ∷ []

unfoldable pub room_refusals : Replica → Write → List (Bool × Refusal)
room_refusals r w =
    (documents_full r w.id, DocumentsFull) ∷ (revisions_full r w, RevisionsFull) ∷ (sequence_spent r w, SequenceSpent) ∷ []

-- "A path write checks 1 to 8 in that order."
unfoldable pub write_refusals : Replica → Write → List (Bool × Refusal)
write_refusals r w =
    form_refusals w
    ++ ((any (other_parent (tree_of r w.id)) (gives w), OtherParent)
    ∷ (any (other_content (tree_of r w.id)) (gives w), OtherContent)
    ∷ room_refusals r w)

-- ---- the write

-- the answer, and the replica that is left
abbrev pub settle : {A : Type 0} → (Refusal → A) → Replica → A × Replica → Option Refusal → A × Replica
settle refused r accepted None = accepted
settle refused r accepted (Some n) = (refused n, r)

unfoldable pub write : Replica → Write → Result Outcome Refusal × Replica
write r w =
    settle Err r (pick (adds r w) (Ok Changed, added r w) (Ok Unchanged, r)) (first_that (write_refusals r w))
