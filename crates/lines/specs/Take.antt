-- "Take these in as path writes": the refusals 40 to 43, and the write that a line is.
use Rattle.std.specs.Prelude.{Bool, true, false, not, ◌&&◌, ◌||◌, List, [], ◌∷◌, ◌≡◌, ℕ, pred, eqb, leb}
use Rattle.rules.specs.declared.Outcome.{Outcome}
use Rattle.std.specs.Prelude.{Result, Err}
use Rattle.std.specs.Prelude.{Option, None, Some}
use Rattle.rules.specs.declared.Content.{Content}
use Rattle.rules.specs.declared.Content.TheVariants.{Live, Deleted}
use Rattle.rules.specs.declared.Refusal.{Refusal}
use Rattle.rules.specs.declared.Refusal.TheVariants.{NotJson, BadMember, OtherRevisions, UnwritableId}
use Rattle.rules.specs.declared.Revision.{Revision}
use Rattle.rules.specs.Bytes.{join}
use Rattle.rules.specs.Choice.{pick, maybe, any, first_that}
use Rattle.rules.specs.Order.{order_bytes, is_equal}
use Rattle.rules.specs.Read.{first_of}
use Rattle.rules.specs.Replica.{Id, Hash, Replica}
use Rattle.rules.specs.Report.{text}
use Rattle.rules.specs.Room.{number_most, labels}
use Rattle.rules.specs.Write.{Write, is_none, settle, write}
use Rattle.json_text.specs.Rfc.{line}
use Rattle.json_text.specs.Members.{Form, plain, object, array, Json, line_of}
use Rattle.lines.specs.Said.{both, each, once, of_string, of_plain, named, read_number, read_hash, read_rev}

-- the members of a line, as written
abbrev pub Members : Type 0
Members = List (List ℕ × Json 15)

-- ---- 40: "not one UTF-8 JSON object (RFC 8259) or too deep"

-- what a text holds: the members of a line, or none where it is no line (a text is a line exactly if it
-- holds members, `values:ReadingLaws.rfc_reads`, and it holds one thing, `lines:TakesLaws.holds_one`)
abbrev pub Holds : List ℕ → Option Members → Type 0
Holds s None = line s [] → ⊥
Holds s (Some ms) = line_of ms s

-- ---- 41: "member absent, repeated or of the wrong form"

-- "`_revisions` with `start` and `ids`"
pub record Revisions : Type 0 where
  pub start : ℕ
  pub ids : List Hash

unfoldable pub read_ids : {A : Type 0} → Form (Form A) → Option (List Hash)
read_ids (plain t) = None
read_ids (object ms) = None
read_ids (array vs) = each (of_string read_hash) vs

unfoldable pub read_revisions : {A : Type 0} → Form (Form (Form A)) → Option Revisions
read_revisions (plain t) = None
read_revisions (array vs) = None
read_revisions (object ms) =
    both (λ n hs. record { start = n; ids = hs })
    (maybe None (of_plain (read_number number_most)) (once (named "start" ms)))
    (maybe None read_ids (once (named "ids" ms)))

-- none where it is absent, and what f makes of it where it stands once
unfoldable pub optional : {A B : Type 0} → (A → Option B) → List A → Option (Option B)
optional f [] = Some None
optional f (a ∷ []) = maybe None (λ b. Some (Some b)) (f a)
optional f (a ∷ b ∷ more) = None

-- "`_deleted`, always true"
unfoldable pub read_true : List ℕ → Option Content
read_true t = pick (is_equal (order_bytes (text "true") t)) (Some Deleted) None

-- "our member `label`, a JSON number"
unfoldable pub read_label : List ℕ → Option Content
read_label t = maybe None (λ n. Some (Live n)) (read_number (pred labels) t)

-- "Every line has `_deleted`, always true, or `label`; both is wrong form."
unfoldable pub read_content : {A : Type 0} → List (Form A) → List (Form A) → Option Content
read_content [] [] = None
read_content [] (l ∷ ls) = maybe None (of_plain read_label) (once (l ∷ ls))
read_content (d ∷ ds) [] = maybe None (of_plain read_true) (once (d ∷ ds))
read_content (d ∷ ds) (l ∷ ls) = None

-- what a line says; its id as written, without its quotation marks
pub record Line : Type 0 where
  pub id : Id
  pub rev : Revision
  pub revisions : Option Revisions
  pub content : Content

-- all four, or none
abbrev pub all_said : Option Id → Option Revision → Option (Option Revisions) → Option Content → Option Line
all_said None v rs c = None
all_said (Some i) None rs c = None
all_said (Some i) (Some v) None c = None
all_said (Some i) (Some v) (Some rs) None = None
all_said (Some i) (Some v) (Some rs) (Some c) = Some (record { id = i; rev = v; revisions = rs; content = c })

unfoldable pub read_line : Members → Option Line
read_line ms =
    all_said
    (maybe None (of_string Some) (once (named "_id" ms)))
    (maybe None (of_string read_rev) (once (named "_rev" ms)))
    (optional read_revisions (named "_revisions" ms))
    (read_content (named "_deleted" ms) (named "label" ms))

-- ---- 42: "`_rev` and `_revisions` differ or no ids"

unfoldable pub other_revisions : Revision → Revisions → Bool
other_revisions v rs =
    not (eqb rs.start v.number.0) || maybe true (λ h. not (is_equal (order_bytes h v.hash))) (first_of rs.ids)

-- ---- 43: "id can't be written"

-- "bytes 20 to 7e hex with no quote or backslash"
unfoldable pub is_writable : ℕ → Bool
is_writable c = not (eqb c 34) && (not (eqb c 92) && (leb 32 c && leb c 126))

unfoldable pub unwritable : Id → Bool
unwritable i = any (λ c. not (is_writable c)) i

-- ---- taking in

-- "Without `_revisions` the path is the one revision of `_rev`."
abbrev pub path_said : Line → List Hash
path_said l = maybe (l.rev.hash ∷ []) (λ rs. rs.ids) l.revisions

unfoldable pub as_write : Line → Write
as_write l = record { id = l.id; number = l.rev.number; path = join (path_said l); content = l.content }

-- 40 to 43, "checked in that order", of what a text holds and what its members say
unfoldable pub line_refusals : Option Members → Option Line → List (Bool × Refusal)
line_refusals ms l =
    (is_none ms, NotJson)
    ∷ (is_none l, BadMember)
    ∷ (maybe false (λ x. maybe false (other_revisions x.rev) x.revisions) l, OtherRevisions)
    ∷ (maybe false (λ x. unwritable x.id) l, UnwritableId)
    ∷ []

-- "before 1 to 8": the answer and the replica that is left (a line that says nothing is always refused)
unfoldable pub take_in : Replica → Option Members → Result Outcome Refusal × Replica
take_in r ms =
    let l = maybe None read_line ms in
    settle Err r (maybe (Err BadMember, r) (λ x. write r (as_write x)) l) (first_that (line_refusals ms l))

-- what taking the text s into r gives
pub record TakesIn (r : Replica) (s : List ℕ) (o : Result Outcome Refusal × Replica) : Type 0 where
  pub members : Option Members
  pub holds : Holds s members
  pub is : o ≡ take_in r members
