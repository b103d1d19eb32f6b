-- The C interface: one convention for every call, the house refusals, and what each call answers and
-- leaves in the buffers lent to it.
use Rattle.std.specs.Prelude.{◌≡◌, Bool, true, false, not, ◌&&◌, ◌||◌, List, [], ◌∷◌, ◌++◌, ℕ, zero, suc, ◌+◌, ◌*◌, ◌<◌, ◌≤◌, eqb, ltb, length}
use Rattle.rules.specs.declared.Fault.{Fault}
use Rattle.std.specs.Prelude.{Result, Ok, Err}
use Rattle.std.specs.Prelude.{Option, None, Some}
use Rattle.rules.specs.declared.Change.{Change}
use Rattle.rules.specs.declared.Content.{Content}
use Rattle.rules.specs.declared.Content.TheVariants.{Live, Deleted}
use Rattle.rules.specs.declared.Counts.{Counts}
use Rattle.rules.specs.declared.Held.{Held}
use Rattle.rules.specs.declared.Revision.{Revision}
use Rattle.rules.specs.Answer.{Numbered, accepted, refused, written_number, edited_number, answered_number, changes_number, loaded_number}
use Rattle.rules.specs.Bytes.{be}
use Rattle.rules.specs.Choice.{pick, maybe, first_that}
use Rattle.rules.specs.Edit.{Edit, edit}
use Rattle.rules.specs.Faults.{faults}
use Rattle.rules.specs.Image.{save}
use Rattle.rules.specs.Layout.{head_of}
use Rattle.rules.specs.Pull.{pull}
use Rattle.rules.specs.Read.{read_winner, read_leaves, read_path, read_missing, read_changes, held_in, front}
use Rattle.rules.specs.Refusal.{refusal_number}
use Rattle.rules.specs.declared.Refusal.{Refusal}
use Rattle.rules.specs.declared.Refusal.TheVariants.{ShortBuffer}
use Rattle.rules.specs.Replica.{Id, fresh, revision}
use Rattle.rules.specs.Report.{read_report}
use Rattle.rules.specs.Room.{hash_size}
use Rattle.rules.specs.Write.{Write, write}
use Rattle.lines.specs.Put.{put_out, put_out_size}
use Rattle.lines.specs.Take.{Members, Holds, take_in}
use Rattle.codec.specs.Codec.{load_bytes}
use Rattle.store.specs.Storage.{store_size, stored, replica_of, IsStored}

-- ---- one number for each outcome

-- 2^63: a result from here on is a refusal
abbrev pub refused_from : ℕ
refused_from = 9223372036854775808

-- an accepted call's answer; of a refused one 2^63, the refusal's number times 2^32, and the place
abbrev pub result_of : ℕ → ℕ → ℕ
result_of zero v = v
result_of (suc n) v = refused_from + suc n * 4294967296 + v

abbrev pub result_number : Numbered → ℕ
result_number n = result_of n.refusal n.value

-- n is the number of a refusal, the greatest of which is 43
pub record RefusalOf (r : Refusal) (n : ℕ) : Type 0 where
  pub is : n ≡ refusal_number r
  pub least : 1 ≤ n
  pub most : n ≤ 43

-- a place that the lower half holds
abbrev pub SmallPlace : Result (Unit {0}) (Fault × ℕ) → Type 0
SmallPlace (Ok u) = Unit {0}
SmallPlace (Err (f, place)) = place < 4294967296

-- ---- the house refusals: what the boundary can get and the rules have no number for

-- 100: a replica's buffer of another size
unfoldable pub bad_replica : List ℕ → Bool × ℕ
bad_replica s = (not (eqb (length s) store_size), 100)

-- 106: a buffer that does not begin as a replica's does: with 0 where an image has its edition
unfoldable pub bad_start : List ℕ → Bool × ℕ
bad_start s = (not (eqb (head_of s).edition 0), 106)

-- of a buffer that is lent as a replica: what every such call tries first
unfoldable pub lent_house : List ℕ → List (Bool × ℕ)
lent_house s = bad_replica s ∷ bad_start s ∷ []

-- 101: a kind of content other than live (1) and deleted (2)
unfoldable pub bad_kind : ℕ → Bool × ℕ
bad_kind k = (not (eqb k 1 || eqb k 2), 101)

-- 102: a deletion with a label
unfoldable pub bad_label : ℕ → ℕ → Bool × ℕ
bad_label k label = (eqb k 2 && not (eqb label 0), 102)

-- 103: a flag other than 0 and 1
unfoldable pub bad_flag : ℕ → Bool × ℕ
bad_flag f = (not (eqb f 0 || eqb f 1), 103)

-- 104: a hash that is not 16 bytes
unfoldable pub bad_hash : List ℕ → Bool × ℕ
bad_hash h = (not (eqb (length h) hash_size), 104)

-- 105, where no parent is named: a parent number or hash is given
unfoldable pub bad_no_parent : ℕ → List ℕ → Bool × ℕ
bad_no_parent n h = (not (eqb n 0 && eqb (length h) 0), 105)

-- ---- a call

-- what a call is asked: the house refusals that it tries, what is lent to it to be changed, and what it
-- says and leaves past them
pub record CCall (L : Type 0) : Type 0 where
  pub house : List (Bool × ℕ)
  pub lent : L
  pub does : Numbered × L

-- a house refusal comes first and leaves what was lent
unfoldable pub outcome : {L : Type 0} → CCall L → Numbered × L
outcome c = maybe c.does (λ n. (refused n, c.lent)) (first_that c.house)

-- a call that answers r, and leaves what was lent to be changed, as its outcome says
pub record Calls {L : Type 0} (c : CCall L) (r : ℕ) (buffer : L) : Type 0 where
  pub answers : r ≡ result_number (outcome c).0
  pub left : buffer ≡ (outcome c).1

-- such a call of what is lent a replica's buffer: where it accepts, it leaves a replica there
pub record Keeps {L : Type 0} (c : CCall L) (r : ℕ) (buffer : L) (replica : List ℕ) : Type 0 where
  pub calls : Calls c r buffer
  pub stands : r < refused_from → IsStored replica

-- what a call requires of a replica's buffer: if it has the size of one and begins as one, it is one
abbrev pub Lent : List ℕ → Type 0
Lent s = length s ≡ store_size → (head_of s).edition ≡ 0 → IsStored s

-- 14, of an answer buffer
unfoldable pub short_answer : Numbered
short_answer = refused (refusal_number ShortBuffer)

-- numbers of four bytes each
unfoldable pub numbers : List ℕ → List ℕ
numbers [] = []
numbers (n ∷ ns) = be 4 n ++ numbers ns

-- with room for these bytes in an answer buffer it is done, else 14
abbrev pub answering : {L : Type 0} → List ℕ → List ℕ → L → Numbered × L → Numbered × L
answering bytes answer lent done = pick (ltb (length answer) (length bytes)) (short_answer, lent) done

-- a call that is lent a replica in s
abbrev pub lent_call : {L : Type 0} → List ℕ → List (Bool × ℕ) → L → Numbered × L → CCall L
lent_call s house lent does = record { house = lent_house s ++ house; lent = lent; does = does }

-- one that reads it, with a buffer for what is read
abbrev pub read_call : List ℕ → List (Bool × ℕ) → List ℕ → Result ℕ Refusal × List ℕ → CCall (List ℕ)
read_call s house out o = lent_call s house out (answered_number o.0, o.1)

-- ---- the calls

unfoldable pub fresh_call : List ℕ → CCall (List ℕ)
fresh_call s = record { house = bad_replica s ∷ []; lent = s; does = (accepted 0, stored fresh) }

unfoldable pub load_call : List ℕ → List ℕ → CCall (List ℕ)
load_call s image =
    let o = load_bytes s image (first_that (faults image)) in
    record { house = bad_replica s ∷ []; lent = s; does = (loaded_number o.0, o.1) }

unfoldable pub save_call : List ℕ → List ℕ → CCall (List ℕ)
save_call s out = read_call s [] out (save (replica_of s) out)

abbrev pub content_from : ℕ → ℕ → Content
content_from k label = pick (eqb k 1) (Live label) Deleted

unfoldable pub write_call : List ℕ → Id → ℕ → List ℕ → ℕ → ℕ → CCall (List ℕ)
write_call s i number path kind label =
    let w : Write = record { id = i; number = record { 0 = number }; path = path; content = content_from kind label } in
    let o = write (replica_of s) w in
    lent_call s (bad_kind kind ∷ bad_label kind label ∷ []) s (written_number o.0, stored o.1)

-- of what the line's text holds
unfoldable pub take_in_call : List ℕ → Option Members → CCall (List ℕ)
take_in_call s ms =
    let o = take_in (replica_of s) ms in lent_call s [] s (written_number o.0, stored o.1)

-- a call that takes the text of a line in: past the house refusals the members are those that the text holds
pub record TakesCall (s line : List ℕ) (r : ℕ) (left : List ℕ) : Type 0 where
  pub members : Option Members
  pub holds : first_that (lent_house s) ≡ None → Holds line members
  pub keeps : Keeps (take_in_call s members) r left left

-- 104 of a parent that is named, else 105
unfoldable pub parent_house : ℕ → ℕ → List ℕ → Bool × ℕ
parent_house named number parent = pick (eqb named 1) (bad_hash parent) (bad_no_parent number parent)

-- 101 to 105, in the order in which an edit tries them
unfoldable pub edit_house : List ℕ → ℕ → ℕ → ℕ → ℕ → List ℕ → List (Bool × ℕ)
edit_house hash kind label named number parent =
    bad_kind kind
    ∷ bad_label kind label
    ∷ bad_flag named
    ∷ bad_hash hash
    ∷ parent_house named number parent
    ∷ []

-- the parent, if one is named
abbrev pub parent_from : ℕ → Revision → Option Revision
parent_from named parent = pick (eqb named 1) (Some parent) None

unfoldable pub edit_call : List ℕ → Id → List ℕ → ℕ → ℕ → ℕ → ℕ → List ℕ → CCall (List ℕ)
edit_call s i hash kind label named number parent =
    let e : Edit = record {
      id = i;
      hash = hash;
      content = content_from kind label;
      parent = parent_from named (revision number parent);
    } in
    let o = edit (replica_of s) e in
    lent_call s (edit_house hash kind label named number parent) s (edited_number o.0, stored o.1)

unfoldable pub winner_call : List ℕ → Id → List ℕ → CCall (List ℕ)
winner_call s i out = read_call s [] out (read_winner (replica_of s) i out)

unfoldable pub leaves_call : List ℕ → Id → List ℕ → CCall (List ℕ)
leaves_call s i out = read_call s [] out (read_leaves (replica_of s) i out)

unfoldable pub path_call : List ℕ → Id → ℕ → List ℕ → List ℕ → CCall (List ℕ)
path_call s i number hash out = read_call s (bad_hash hash ∷ []) out (read_path (replica_of s) i (revision number hash) out)

unfoldable pub missing_call : List ℕ → Id → List ℕ → List ℕ → CCall (List ℕ)
missing_call s i asked out = read_call s [] out (read_missing (replica_of s) i asked out)

unfoldable pub put_out_call : List ℕ → Id → List ℕ → CCall (List ℕ)
put_out_call s i out = read_call s [] out (put_out (replica_of s) i out)

-- it is lent nothing to be changed
unfoldable pub put_out_size_call : List ℕ → Id → CCall (Unit {0})
put_out_size_call s i = lent_call s [] tt (answered_number (put_out_size (replica_of s) i), tt)

abbrev pub flag_number : Bool → ℕ
flag_number false = 0
flag_number true = 1

-- "its id length, that sequence, its leaf count and whether its winner is a deletion"
unfoldable pub change_bytes : Change → List ℕ
change_bytes c = numbers (c.id_len ∷ c.seq.0 ∷ c.leaves ∷ flag_number c.deleted ∷ [])

-- both buffers as they are left: the one of the id and the one of the answer
abbrev pub changes_as : List ℕ → List ℕ → Result (Option Change) Refusal × List ℕ → Numbered × (List ℕ × List ℕ)
changes_as out answer (Ok (Some c), left) =
    answering (change_bytes c) answer (out, answer) (changes_number (Ok (Some c)), (left, front (change_bytes c) answer))
changes_as out answer (Ok None, left) = (changes_number (Ok None), (out, answer))
changes_as out answer (Err n, left) = (changes_number (Err n), (out, answer))

unfoldable pub changes_call : List ℕ → ℕ → List ℕ → List ℕ → CCall (List ℕ × List ℕ)
changes_call s after out answer =
    lent_call s [] (out, answer) (changes_as out answer (read_changes (replica_of s) (record { 0 = after }) out))

unfoldable pub count_bytes : Counts → List ℕ
count_bytes c = numbers (c.changed ∷ c.unchanged ∷ c.refused ∷ [])

-- the target and the answer buffer as they are left
unfoldable pub pull_call : List ℕ → List ℕ → ℕ → List ℕ → CCall (List ℕ × List ℕ)
pull_call target source after answer =
    let o = pull (record { 0 = after }) (replica_of source) (replica_of target) in
    lent_call target (lent_house source) (target, answer)
    (answering (count_bytes o.0) answer (target, answer) (accepted 0, (stored o.1, front (count_bytes o.0) answer)))

unfoldable pub sequence_call : List ℕ → CCall (Unit {0})
sequence_call s = lent_call s [] tt (accepted (replica_of s).seq.0, tt)

unfoldable pub held_bytes : Held → List ℕ
held_bytes h = numbers (h.documents ∷ h.revisions ∷ [])

unfoldable pub counts_call : List ℕ → List ℕ → CCall (List ℕ)
counts_call s answer =
    let bytes = held_bytes (held_in (replica_of s)) in
    lent_call s [] answer (answering bytes answer answer (accepted 0, front bytes answer))

-- any bytes are an image to report on, so that it has no house refusal
unfoldable pub report_call : List ℕ → List ℕ → CCall (List ℕ)
report_call image out = let o = read_report image out in record { house = []; lent = out; does = (answered_number o.0, o.1) }

-- ---- the calls that ask

-- 1 exactly if it is so, else 0
pub record Says (so : Type 0) (r : ℕ) : Type 0 where
  pub yes : r ≡ 1 → so
  pub always : so → r ≡ 1
  pub most : r ≤ 1

-- a version as one number: three digits for the minor part, three for the patch
abbrev pub version_of : ℕ → ℕ → ℕ → ℕ
version_of major minor patch = major * 1000000 + minor * 1000 + patch

-- 0.3.0
abbrev pub version : ℕ
version = version_of 0 3 0
