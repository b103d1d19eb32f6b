-- What a read across the C boundary answers and leaves. Assumes nothing.
use mathlib.Core.Path.{◌≡◌, refl, sym, ap, ◌∙◌}
use Rattle.std.specs.Prelude.{Result, Ok, Err}
use mathlib.Core.Bool.{Bool, true, false}
use mathlib.Core.List.{List, [], ◌∷◌}
use Rattle.std.specs.Prelude.{Option, None, Some}
use Prim.Native.Nat.{ℕ, ◌≤◌, ◌<◌}
use native.Mathlib.Omega.{arith}
use borrow.Author.Tests.{eq-eqb, ne_eqb}
use lib.Dec.{ltb}
use mir.Val.{bool_byte}
use lib.ListN.{length}
use lib.Seq.{take_all}
use Rattle.rules.specs.declared.Change.{Change}
use Rattle.rules.specs.declared.Held.{Held}
use Rattle.rules.specs.declared.Refusal.{Refusal}
use Rattle.rules.specs.declared.Refusal.TheVariants.{ShortBuffer}
use Rattle.rules.specs.declared.Seq.{Seq}
use Rattle.rules.specs.Answer.{accepted, refused, answered_number}
use Rattle.rules.specs.Bytes.{part}
use Rattle.rules.specs.Choice.{pick, maybe, first_that}
use Rattle.rules.specs.Image.{save}
use Rattle.rules.specs.Outcome.{Does}
use Rattle.rules.specs.Read.{front, short_buffer, lend, first_of, documents_after, change_of, read_winner, read_leaves, read_path, read_missing, read_changes, held_in}
use Rattle.rules.specs.Refusal.{refusal_number}
use Rattle.rules.specs.Replica.{Id, Document, revision}
use Rattle.rules.specs.Report.{read_report}
use Rattle.rules.specs.Room.{hash_size}
use Rattle.octets.specs.Octets.{IsHash}
use Rattle.store.specs.Documents.{documents_of}
use Rattle.store.specs.Storage.{replica_of}
use Rattle.reads.specs.Next.{IsNext}
use Rattle.reads.proofs.AnswerLaws.{first_past}
use Rattle.refile.specs.declared.number.HouseRefusal.{HouseRefusal}
use Rattle.refile.specs.House.{house_number, House}
use Rattle.refile.specs.Boundary.{result_number, CCall, outcome, Calls, read_call, lent_house, save_call, winner_call, leaves_call, missing_call}
use Rattle.refile.specs.Boundary.{bad_hash, short_answer, numbers, flag_number, change_bytes, changes_as, held_bytes, path_call, changes_call, counts_call, report_call}
use Rattle.refile.proofs.CallLaws.{none_first, no_house, passes, made, refuses, does, lent_refuses, lent_does}
use Rattle.refile.proofs.AnswerLaws.{short_answer_lem, room_answer}

-- past the house refusals a read answers and leaves what it reads
pub reads_on : (s : List ℕ) (us : List (Bool × ℕ)) {out : List ℕ} (o : Result ℕ Refusal × List ℕ) {a : Result ℕ Refusal} {left : List ℕ} {r : ℕ}
    → first_that (lent_house s) ≡ None → first_that us ≡ None → Does o a left → r ≡ result_number (answered_number a) → Calls (read_call s us out o) r left
reads_on s us o p q d e = lent_does s us p q refl (e ∙ ap (λ (x : Result ℕ Refusal). result_number (answered_number x)) d.answers) d.left

-- a call that reads what o says, with no house refusal but those of a lent replica
pub record Reads (s out : List ℕ) (o : Result ℕ Refusal × List ℕ) (call : CCall (List ℕ)) : Type 0 where
  pub is : call ≡ read_call s [] out o

module _ (s out : List ℕ) where
  pub winner_reads : (i : Id) → Reads s out (read_winner (replica_of s) i out) (winner_call s i out)
  unfolding winner_call
  winner_reads i = record { is = refl }

  pub leaves_reads : (i : Id) → Reads s out (read_leaves (replica_of s) i out) (leaves_call s i out)
  unfolding leaves_call
  leaves_reads i = record { is = refl }

  pub missing_reads : (i : Id) (asked : List ℕ) → Reads s out (read_missing (replica_of s) i asked out) (missing_call s i asked out)
  unfolding missing_call
  missing_reads i asked = record { is = refl }

  pub save_reads : Reads s out (save (replica_of s) out) (save_call s out)
  unfolding save_call
  save_reads = record { is = refl }

module _ {s out : List ℕ} {o : Result ℕ Refusal × List ℕ} {call : CCall (List ℕ)} (k : Reads s out o call) {q : Result (Unit {0}) HouseRefusal} {r : ℕ} (h : House (lent_house s) q) where
  pub read_refuses : {x : HouseRefusal} → q ≡ Err x → r ≡ result_number (refused (house_number x)) → Calls call r out
  read_refuses e f = rw k.is (lent_refuses s [] h e f)

  pub read_answers : q ≡ Ok tt → {a : Result ℕ Refusal} {left : List ℕ} → Does o a left → r ≡ result_number (answered_number a) → Calls call r left
  read_answers z d e = rw k.is (reads_on s [] o (none_first (lent_house s) h z) no_house d e)

-- ---- path: 104 after 100 and 106

module _ (s : List ℕ) (i : Id) (number : ℕ) (hash out : List ℕ) (fine : first_that (lent_house s) ≡ None) where
  pub path_bad_hash : (r : ℕ) → (length hash ≡ hash_size → ⊥) → r ≡ result_number (refused 104) → Calls (path_call s i number hash out) r out
  unfolding path_call bad_hash first_that
  path_bad_hash r ne e = refuses 104 (first_past (lent_house s) _ fine ∙ rw (ne_eqb (length hash) hash_size ne)) e refl

  pub path_answers : (h : List ℕ) (a : Result ℕ Refusal) (left : List ℕ) (r : ℕ) → length hash ≡ hash_size → IsHash hash 0 h
      → Does (read_path (replica_of s) i (revision number h) out) a left → r ≡ result_number (answered_number a) → Calls (path_call s i number hash out) r left
  unfolding path_call bad_hash part first_that
  path_answers h a left r e k d q =
      let same : h ≡ hash = k.is ∙ take_all 16 hash (omega arith) in
      reads_on s (bad_hash hash ∷ []) (read_path (replica_of s) i (revision number hash) out) fine (rw (eq-eqb (length hash) hash_size e)) (rw same at d) q

-- ---- counts

module _ (s answer : List ℕ) (fine : first_that (lent_house s) ≡ None) where
  pub counts_short : (r : ℕ) → length answer < 8 → r ≡ result_number (refused 14) → Calls (counts_call s answer) r answer
  unfolding counts_call held_bytes short_answer
  counts_short r h q = lent_does s _ fine no_house (short_answer_lem _ _ _ answer h) q refl

  pub counts_answer : (h : Held) (left : List ℕ) → 8 ≤ length answer → h ≡ held_in (replica_of s) → left ≡ front (held_bytes h) answer → Calls (counts_call s answer) 0 left
  unfolding counts_call held_bytes
  counts_answer h left k e w = lent_does s _ fine no_house (room_answer _ _ _ answer k) refl (w ∙ ap (λ (x : Held). front (held_bytes x) answer) e)

-- ---- changes

pub byte_flag : (b : Bool) → bool_byte b ≡ flag_number b
byte_flag false = refl
byte_flag true = refl

pub change_put : (c : Change) (gone : ℕ) (before after : List ℕ) → gone ≡ flag_number c.deleted
    → after ≡ front (numbers (c.id_len ∷ c.seq.0 ∷ c.leaves ∷ gone ∷ [])) before → after ≡ front (change_bytes c) before
unfolding change_bytes
change_put c gone before after e w = w ∙ ap (λ (n : ℕ). front (numbers (c.id_len ∷ c.seq.0 ∷ c.leaves ∷ n ∷ [])) before) e

pair : {A : Type 0} {o : A × List ℕ} {a : A} {left : List ℕ} → Does o a left → o ≡ (a, left)
pair d = let e = d.answers in let f = d.left in sym (λ i. (e i, f i))

-- what is read of the first document after, or of none
abbrev read_of : List ℕ → Option (Id × Document) → Result (Option Change) Refusal × List ℕ
read_of out f =
    maybe (Ok None, out)
    (λ d. lend Err out (Ok (Some (change_of d))) d.0 (first_that (short_buffer d.0 out ∷ [])))
    f

-- the answer without a buffer for it
module _ (s : List ℕ) (after : Seq) (n : Option (ℕ × Seq)) (is : IsNext after 0 (documents_of s) n) where
  pub short_none : n ≡ None → 0 ≡ result_number (maybe (accepted 0) (λ d. short_answer) (first_of (documents_after after (documents_of s))))
  short_none e =
      let z : IsNext after 0 (documents_of s) None = rw e at is in
      rw z refl

  pub short_next : (d : ℕ) (q : Seq) (r : ℕ) → n ≡ Some (d, q) → r ≡ result_number (refused 14)
      → r ≡ result_number (maybe (accepted 0) (λ x. short_answer) (first_of (documents_after after (documents_of s))))
  unfolding short_answer
  short_next d q r e g =
      let z : IsNext after 0 (documents_of s) (Some (d, q)) = rw e at is in
      rw z.1 g

-- nothing is written where nothing is answered
untouched : (out : List ℕ) (f : Option (Id × Document)) (a : Result (Option Change) Refusal) → a ≡ (read_of out f).0 → ((c : Change) → a ≡ Ok (Some c) → ⊥) → (read_of out f).1 ≡ out
unfolding first_that short_buffer
untouched out None a e ne = refl
untouched out (Some d) a e ne = go (ltb (length out) (length d.0)) e
  where
    go : (b : Bool) → a ≡ (lend Err out (Ok (Some (change_of d))) d.0 (pick b (Some ShortBuffer) None)).0
        → (lend Err out (Ok (Some (change_of d))) d.0 (pick b (Some ShortBuffer) None)).1 ≡ out
    go true q = refl
    go false q = absurd (ne (change_of d) q)

module _ (s : List ℕ) (after : ℕ) (out answer : List ℕ) (fine : first_that (lent_house s) ≡ None) where
  abbrev next : Option (Id × Document)
  next = first_of (documents_after (record { 0 = after }) (documents_of s))

  -- an answer buffer that is too short
  short_of : length answer < 16 → (f : Option (Id × Document)) → changes_as out answer (read_of out f) ≡ (maybe (accepted 0) (λ d. short_answer) f, (out, answer))
  unfolding first_that short_buffer short_answer change_bytes
  short_of h None = refl
  short_of h (Some d) = go (ltb (length out) (length d.0))
    where
      go : (b : Bool) → changes_as out answer (lend Err out (Ok (Some (change_of d))) d.0 (pick b (Some ShortBuffer) None)) ≡ (short_answer, (out, answer))
      go true = refl
      go false = short_answer_lem _ _ _ answer h

  pub changes_short : (r : ℕ) → length answer < 16 → r ≡ result_number (maybe (accepted 0) (λ d. short_answer) next) → Calls (changes_call s after out answer) r (out, answer)
  unfolding changes_call read_changes
  changes_short r h e = lent_does s _ fine no_house (short_of h next) e refl

  -- what was read, with its answer
  answers_as : (a : Result (Option Change) Refusal) (left : List ℕ) → Does (read_changes (replica_of s) (record { 0 = after }) out) a left
      → outcome (changes_call s after out answer) ≡ changes_as out answer (a, left)
  unfolding changes_call
  answers_as a left d = passes _ (first_past (lent_house s) [] fine ∙ no_house) ∙ rw (pair d) refl

  pub changes_next : (a : Result (Option Change) Refusal) (c : Change) (left after-answer : List ℕ) → 16 ≤ length answer → a ≡ Ok (Some c)
      → Does (read_changes (replica_of s) (record { 0 = after }) out) a left → after-answer ≡ front (change_bytes c) answer
      → Calls (changes_call s after out answer) 1 (left, after-answer)
  unfolding change_bytes
  changes_next a c left after-answer h e d w =
      let z = answers_as (Ok (Some c)) left (rw e at d) in
      made (z ∙ room_answer _ _ _ answer h) refl (ap (λ (l : List ℕ). (left, l)) w)

  left_alone : (a : Result (Option Change) Refusal) (left : List ℕ) → Does (read_changes (replica_of s) (record { 0 = after }) out) a left → ((c : Change) → a ≡ Ok (Some c) → ⊥) → left ≡ out
  unfolding read_changes
  left_alone a left d ne = d.left ∙ untouched out next a d.answers ne

  pub changes_none : (a : Result (Option Change) Refusal) (left : List ℕ) → a ≡ Ok None → Does (read_changes (replica_of s) (record { 0 = after }) out) a left
      → Calls (changes_call s after out answer) 0 (left, answer)
  changes_none a left e d =
      made (answers_as a left d ∙ ap (λ (x : Result (Option Change) Refusal). changes_as out answer (x, left)) e) refl
      (ap (λ (l : List ℕ). (l, answer)) (left_alone a left d (λ c f. let z : ◌≡◌ {A = ℕ} 0 1 = cc in omega arith)))

  pub changes_refused : (a : Result (Option Change) Refusal) (n : Refusal) (left : List ℕ) (k r : ℕ) → a ≡ Err n
      → Does (read_changes (replica_of s) (record { 0 = after }) out) a left → k ≡ refusal_number n → r ≡ result_number (refused k)
      → Calls (changes_call s after out answer) r (left, answer)
  changes_refused a n left k r e d f q =
      made (answers_as a left d ∙ ap (λ (x : Result (Option Change) Refusal). changes_as out answer (x, left)) e) (q ∙ ap (λ (m : ℕ). result_number (refused m)) f)
      (ap (λ (l : List ℕ). (l, answer)) (left_alone a left d (λ c g. let z : ◌≡◌ {A = ℕ} 0 1 = cc in omega arith)))

-- ---- report

pub report_answers : (image out : List ℕ) (a : Result ℕ Refusal) (left : List ℕ) (r : ℕ) → Does (read_report image out) a left → r ≡ result_number (answered_number a)
    → Calls (report_call image out) r left
unfolding report_call
report_answers image out a left r d q = does no_house refl (q ∙ ap (λ (x : Result ℕ Refusal). result_number (answered_number x)) d.answers) d.left
