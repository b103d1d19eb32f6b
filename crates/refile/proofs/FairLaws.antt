-- Every call says something that its result holds, and where it refuses it leaves what was lent. Assumes nothing.
use mathlib.Core.Path.{◌≡◌, refl, sym, ap, ◌∙◌}
use Rattle.rules.specs.declared.Change.{Change}
use Rattle.std.specs.Prelude.{Result, Ok, Err}
use mathlib.Core.Bool.{Bool, true, false}
use mathlib.Core.List.{List, [], ◌∷◌, ◌++◌, map}
use Rattle.std.specs.Prelude.{Option, None, Some}
use Prim.Native.Nat.{ℕ, zero, suc, ◌+◌, ◌*◌, ◌<◌, ◌≤◌}
use native.Mathlib.Omega.{arith}
use borrow.Author.Tests.{le-leb, lt-leb, ltb-false}
use lib.Dec.{eqb, ltb}
use lib.ListN.{length, length-append}
use Rattle.rules.specs.declared.Fault.{Fault}
use Rattle.rules.specs.declared.Refusal.{Refusal}
use Rattle.rules.specs.declared.Refusal.TheVariants.{ShortBuffer}
use Rattle.rules.specs.declared.Revision.{Revision}
use Rattle.rules.specs.declared.Outcome.TheVariants.{Changed, Unchanged}
use Rattle.rules.specs.Answer.{Numbered, accepted, refused, written_number, edited_number, answered_number, loaded_number}
use Rattle.rules.specs.Bytes.{join}
use Rattle.rules.specs.Choice.{pick, maybe, first_that}
use Rattle.rules.specs.Edit.{Edit, deleted_winner, parent_of, new_number, as_write, edit_refusals, edit}
use Rattle.rules.specs.Faults.{faults}
use Rattle.rules.specs.Pull.{pull}
use Rattle.rules.specs.Map.{find}
use Rattle.rules.specs.Order.{order_rev}
use Rattle.rules.specs.Read.{LeafOf, leaves, leaf_bytes, ancestry, path_of, short_buffer, reads, lend, highest, winner, is_deletion, read_path, read_changes, held_in}
use Rattle.rules.specs.Refusal.{refusal_number, fault_number}
use Rattle.rules.specs.Replica.{Id, Tree, Document, Replica, IsReplica, document_of, tree_of, tree_in, revision, fresh}
use Rattle.rules.specs.Report.{read_report}
use Rattle.rules.specs.Room.{number_most}
use Rattle.rules.specs.Write.{Write, adds, added, settle, write_refusals, write, parent_in}
use Rattle.edits.specs.Edit.{edit_of}
use Rattle.writes.specs.Path.{write_of}
use Rattle.rules.proofs.ByteLaws.{length-be}
use Rattle.union.proofs.Winners.{winner_top}
use Rattle.report.proofs.FaultLaws.{place_most}
use Rattle.store.specs.Storage.{stored, replica_of, IsStored}
use Rattle.codec.specs.Codec.{load_bytes}
use Rattle.reads.proofs.AnswerLaws.{first_past, first_some}
use Rattle.refile.specs.Boundary.{refused_from, result_number, result_of, CCall, outcome, Calls, read_call, answering, Lent, bad_replica, bad_start, lent_house}
use Rattle.refile.specs.Boundary.{bad_kind, bad_label, bad_flag, bad_hash, bad_no_parent, parent_house, edit_house, content_from, parent_from, short_answer, changes_as, change_bytes, count_bytes}
use Rattle.refile.specs.Boundary.{held_bytes, fresh_call, load_call, write_call, edit_call, path_call, changes_call, pull_call, sequence_call, counts_call, report_call}
use Rattle.refile.specs.Decode.{refusal_in, value_in, decode, RangeOf, InRange, Told}
use Rattle.refile.proofs.CallLaws.{first_both, passes, lent_stands}
use Rattle.refile.proofs.NumberLaws.{refusal_small, fault_small}

-- what a result says is what was said
decode_of : (f v : ℕ) → RangeOf f v → decode (result_of f v) ≡ record { refusal = f; value = v }
decode_of zero v h = rw (lt-leb refused_from v h)
decode_of (suc n) v h =
    let t = le-leb refused_from (refused_from + suc n * 4294967296 + v) (omega arith) in
    let p : refusal_in (refused_from + suc n * 4294967296 + v) ≡ suc n = rw t (omega arith) in
    let q : value_in (refused_from + suc n * 4294967296 + v) ≡ v = rw t (omega arith) in
    λ i. record { refusal = p i; value = q i }

pub decode_number : (n : Numbered) → InRange n → decode (result_number n) ≡ n
decode_number n h = decode_of n.refusal n.value h

-- ---- the general law

-- what is said is in range, and a refusal leaves what was lent
pub record Fair {L : Type 0} (lent : L) (o : Numbered × L) : Type 0 where
  pub range : InRange o.0
  pub left : (o.0.refusal ≡ 0 → ⊥) → o.1 ≡ lent

-- the numbers of house refusals
abbrev pub HouseNumbers : List (Bool × ℕ) → Type 0
HouseNumbers [] = Unit {0}
HouseNumbers (t ∷ ts) = ((1 ≤ t.1) × (t.1 ≤ 106)) × HouseNumbers ts

-- so of what a call does past its house refusals
pub record FairCall {L : Type 0} (c : CCall L) : Type 0 where
  pub house : HouseNumbers c.house
  pub does : first_that c.house ≡ None → Fair c.lent c.does

some_same : (a b : ℕ) → Some a ≡ Some b → a ≡ b
some_same a b e = cc

house_number : (house : List (Bool × ℕ)) → HouseNumbers house → (n : ℕ) → first_that house ≡ Some n → (1 ≤ n) × (n ≤ 106)
unfolding first_that
house_number [] h n e = absurd (let z : ◌≡◌ {A = ℕ} 0 1 = cc in omega arith)
house_number (t ∷ ts) h n e = go t.0 (house_number ts h.1 n) e
  where
    go : (b : Bool) → (first_that ts ≡ Some n → (1 ≤ n) × (n ≤ 106)) → pick b (Some t.1) (first_that ts) ≡ Some n → (1 ≤ n) × (n ≤ 106)
    go true ih q = let same : t.1 ≡ n = some_same t.1 n q in let k = h.0 in (omega arith, omega arith)
    go false ih q = ih q

refused_range : (n : ℕ) → 1 ≤ n → n ≤ 106 → InRange (refused n)
refused_range zero h k = absurd (omega arith)
refused_range (suc n) h k = (k, omega arith)

-- a result at or above 2^63 is a refusal
high_refuses : (f v : ℕ) → RangeOf f v → refused_from ≤ result_of f v → f ≡ 0 → ⊥
high_refuses zero v h k e = omega arith
high_refuses (suc n) v h k e = omega arith

module _ {L : Type 0} {c : CCall L} (f : FairCall c) where
  outcome_fair : Fair c.lent (outcome c)
  unfolding outcome
  outcome_fair = go (first_that c.house) refl
    where
      go : (x : Option ℕ) → first_that c.house ≡ x → Fair c.lent (maybe c.does (λ n. (refused n, c.lent)) x)
      go None e = f.does e
      go (Some n) e = let k = house_number c.house f.house n e in record { range = refused_range n k.0 k.1; left = λ z. refl }

  -- what is accepted met no house refusal
  outcome_past : (outcome c).0.refusal ≡ 0 → first_that c.house ≡ None
  unfolding outcome
  outcome_past = go (first_that c.house) refl
    where
      go : (x : Option ℕ) → first_that c.house ≡ x → (maybe c.does (λ n. (refused n, c.lent)) x).0.refusal ≡ 0 → x ≡ None
      go None e z = refl
      go (Some n) e z = let k = house_number c.house f.house n e in absurd (omega arith)

  -- every call that keeps its promise tells what it did
  pub tells : {r : ℕ} {buffer : L} → Calls c r buffer → Told c r buffer
  tells {r} k =
      let o = outcome_fair in
      let d : decode r ≡ (outcome c).0 = ap (λ (x : ℕ). decode x) k.answers ∙ decode_number (outcome c).0 o.range in
      record {
        calls = k;
        decodes = d;
        refused = λ h. k.left ∙ o.left (high_refuses (outcome c).0.refusal (outcome c).0.value o.range (let e = k.answers in omega arith));
        past = λ a. outcome_past (sym (ap (λ (n : Numbered). n.refusal) d) ∙ a);
      }

-- past the house refusals it is what the call does
pub told_does : {L : Type 0} {c : CCall L} {r : ℕ} {buffer : L} → Told c r buffer → first_that c.house ≡ None → (decode r ≡ c.does.0) × (buffer ≡ c.does.1)
told_does {L} {c} t e = (t.decodes ∙ ap (λ (o : Numbered × L). o.0) (passes c e), t.calls.left ∙ ap (λ (o : Numbered × L). o.1) (passes c e))

-- ---- the house refusals of a call that is lent a replica

pub lent_numbers : (s : List ℕ) (house : List (Bool × ℕ)) → HouseNumbers house → HouseNumbers (lent_house s ++ house)
unfolding lent_house bad_replica bad_start
lent_numbers s house h = ((omega arith, omega arith), ((omega arith, omega arith), h))

lent_alone : (s : List ℕ) → HouseNumbers (lent_house s)
unfolding lent_house bad_replica bad_start
lent_alone s = ((omega arith, omega arith), ((omega arith, omega arith), tt))

-- ---- the rules' refusals

fault_range : (n place : ℕ) → 1 ≤ n → n ≤ 106 → place < 4294967296 → RangeOf n place
fault_range zero place h k l = absurd (omega arith)
fault_range (suc n) place h k l = (k, l)

-- what the rules refuse, leaving what was lent
pub rules_fair : {L : Type 0} (lent left : L) (x : Refusal) → left ≡ lent → Fair lent (refused (refusal_number x), left)
rules_fair lent left x e = record { range = refused_range (refusal_number x) (refusal_small x).0 (refusal_small x).1; left = λ n. e }

-- what is accepted, with an answer below 2^63
pub accepted_fair : {L : Type 0} (lent left : L) (v : ℕ) → v < refused_from → Fair lent (accepted v, left)
accepted_fair lent left v h = record { range = h; left = λ n. absurd (n refl) }

-- an answer buffer that is too short, or not
answering_fair : {L : Type 0} (bytes answer : List ℕ) (lent left : L) (v : ℕ) → v < refused_from → Fair lent (answering bytes answer lent (accepted v, left))
unfolding short_answer
answering_fair {L} bytes answer lent left v h = go (ltb (length answer) (length bytes))
  where
    go : (b : Bool) → Fair lent (pick {A = Numbered × L} b (short_answer, lent) (accepted v, left))
    go true = rules_fair lent lent ShortBuffer refl
    go false = accepted_fair lent left v h

-- ---- the reads: an accepted one fits into its buffer

fits_first : (ts : List (Bool × Refusal)) (bytes out : List ℕ) → first_that (ts ++ (short_buffer bytes out ∷ [])) ≡ None → length bytes ≤ length out
unfolding first_that short_buffer
fits_first ts bytes out e = go (first_that ts) refl
  where
    last_one : (b : Bool) → pick b (Some ShortBuffer) None ≡ None → b ≡ false
    last_one true q = absurd (let z : ◌≡◌ {A = ℕ} 0 1 = cc in omega arith)
    last_one false q = refl

    go : (x : Option Refusal) → first_that ts ≡ x → length bytes ≤ length out
    go None q = ltb-false (length out) (length bytes) (last_one (ltb (length out) (length bytes)) (sym (first_past ts (short_buffer bytes out ∷ []) q) ∙ e))
    go (Some x) q = let p = first_some ts (short_buffer bytes out ∷ []) x q in absurd (let z : ◌≡◌ {A = ℕ} 0 1 = cc in omega arith)

module _ (ts : List (Bool × Refusal)) (n : ℕ) (bytes out : List ℕ) where
  reads_fair : (length bytes ≤ length out → n < refused_from) → Fair out (answered_number (reads ts n bytes out).0, (reads ts n bytes out).1)
  unfolding reads
  reads_fair h = go (first_that (ts ++ (short_buffer bytes out ∷ []))) refl
    where
      go : (x : Option Refusal) → first_that (ts ++ (short_buffer bytes out ∷ [])) ≡ x
          → Fair out (answered_number (lend Err out (Ok n) bytes x).0, (lend Err out (Ok n) bytes x).1)
      go None e = accepted_fair out _ n (h (fits_first ts bytes out e))
      go (Some x) e = rules_fair out out x refl

-- leaves are no more than the bytes that they take
pub leaves_bytes : (ls : List LeafOf) → length ls ≤ length (join (map leaf_bytes ls))
unfolding join leaf_bytes
leaves_bytes [] = omega arith
leaves_bytes (a ∷ ls) = let h = leaves_bytes ls in simp (length-append, length-be) (omega arith)

-- a path is no longer than its revision's number
path_number : (n : ℕ) (t : Tree) (v : Revision) → length (ancestry n t v) ≤ n
unfolding ancestry
path_number zero t v = omega arith
path_number (suc n) t v = go (parent_in (find order_rev v t)) (path_number n t)
  where
    go : (p : Option Revision) → ((u : Revision) → length (ancestry n t u) ≤ n) → length (v.hash ∷ maybe [] (ancestry n t) p) ≤ suc n
    go None ih = omega arith
    go (Some u) ih = let h = ih u in omega arith

-- a read of a replica
pub read_fair : (s : List ℕ) (us : List (Bool × ℕ)) (ts : List (Bool × Refusal)) (n : ℕ) (bytes out : List ℕ) → HouseNumbers us → (length bytes ≤ length out → n < refused_from)
    → FairCall (read_call s us out (reads ts n bytes out))
read_fair s us ts n bytes out h f = record { house = lent_numbers s us h; does = λ e. reads_fair ts n bytes out f }

pub path_fair : (s : List ℕ) (i : Id) (number : ℕ) (hash out : List ℕ) → number < 4294967296 → FairCall (path_call s i number hash out)
unfolding path_call read_path path_of bad_hash
path_fair s i number hash out low =
    read_fair s (bad_hash hash ∷ []) _ _ _ out ((omega arith, omega arith), tt)
    (λ h. let k = path_number number (tree_of (replica_of s) i) (revision number hash) in omega arith)

pub report_fair : (image out : List ℕ) → length out < refused_from → FairCall (report_call image out)
unfolding report_call read_report
report_fair image out small = record { house = tt; does = λ e. reads_fair [] _ _ out (λ h. omega arith) }

-- ---- changes, counts and the update sequence

module _ (s : List ℕ) (after : ℕ) (out answer : List ℕ) where
  changes_as_lem : (o : Result (Option Change) Refusal × List ℕ) → Fair (out, answer) (changes_as out answer o)
  changes_as_lem (Ok (Some c), left) = answering_fair (change_bytes c) answer (out, answer) _ 1 (omega arith)
  changes_as_lem (Ok None, left) = accepted_fair (out, answer) _ 0 (omega arith)
  changes_as_lem (Err n, left) = rules_fair (out, answer) _ n refl

  pub changes_fair : FairCall (changes_call s after out answer)
  unfolding changes_call
  changes_fair = record { house = lent_numbers s [] tt; does = λ e. changes_as_lem (read_changes (replica_of s) (record { 0 = after }) out) }

pub counts_fair : (s answer : List ℕ) → FairCall (counts_call s answer)
unfolding counts_call
counts_fair s answer = record { house = lent_numbers s [] tt; does = λ e. answering_fair (held_bytes (held_in (replica_of s))) answer answer _ 0 (omega arith) }

pub sequence_fair : (s : List ℕ) → Lent s → FairCall (sequence_call s)
unfolding sequence_call
sequence_fair s l = record {
  house = lent_numbers s [] tt;
  does = λ e. accepted_fair {L = Unit {0}} tt tt (replica_of s).seq.0 (let m = (lent_stands s (first_both (lent_house s) [] e).0 l).replica.seq_at_most in omega arith);
}

-- ---- fresh and load

pub fresh_fair : (s : List ℕ) → FairCall (fresh_call s)
unfolding fresh_call bad_replica
fresh_fair s = record { house = ((omega arith, omega arith), tt); does = λ e. accepted_fair s (stored fresh) 0 (omega arith) }

module _ (s image : List ℕ) where
  load_as_lem : Fair s (loaded_number (load_bytes s image (first_that (faults image))).0, (load_bytes s image (first_that (faults image))).1)
  load_as_lem = go (first_that (faults image)) refl
    where
      go : (x : Option (Fault × ℕ)) → first_that (faults image) ≡ x → Fair s (loaded_number (load_bytes s image x).0, (load_bytes s image x).1)
      go None e = accepted_fair s _ 0 (omega arith)
      go (Some f) e =
          let n = fault_small f.0 in
          record { range = fault_range (fault_number f.0) f.1 n.0 n.1 (let m = place_most image f e in omega arith); left = λ z. refl }

  pub load_fair : FairCall (load_call s image)
  unfolding load_call bad_replica
  load_fair = record { house = ((omega arith, omega arith), tt); does = λ e. load_as_lem }

-- ---- write

module _ (s : List ℕ) (w : Write) where
  pub write_as : IsStored s → Fair s (written_number (write (replica_of s) w).0, stored (write (replica_of s) w).1)
  unfolding write
  write_as is = go (first_that (write_refusals (replica_of s) w)) (adds (replica_of s) w)
    where
      go : (x : Option Refusal) (b : Bool)
          → Fair s (
            written_number (settle Err (replica_of s) (pick b (Ok Changed, added (replica_of s) w) (Ok Unchanged, replica_of s)) x).0,
            stored (settle Err (replica_of s) (pick b (Ok Changed, added (replica_of s) w) (Ok Unchanged, replica_of s)) x).1,
          )
      go None true = accepted_fair s _ 1 (omega arith)
      go None false = accepted_fair s _ 0 (omega arith)
      go (Some x) b = rules_fair s _ x (sym is.same)

pub write_fair : (s i : List ℕ) (number : ℕ) (path : List ℕ) (kind label : ℕ) → Lent s → FairCall (write_call s i number path kind label)
unfolding write_call bad_kind bad_label
write_fair s i number path kind label l = record {
  house = lent_numbers s _ ((omega arith, omega arith), ((omega arith, omega arith), tt));
  does = λ e. write_as s (write_of i (record { 0 = number }) path (content_from kind label)) (lent_stands s (first_both (lent_house s) _ e).0 l);
}

-- ---- edit: the new number is one above that of a revision

no_winner : (a : LeafOf) → winner [] ≡ Some a → ⊥
unfolding winner leaves highest
no_winner a e = let z : ◌≡◌ {A = ℕ} 0 1 = cc in omega arith

-- of a winner
winner_number : (r : Replica) → IsReplica r → (i : Id) (a : LeafOf) → winner (tree_of r i) ≡ Some a → a.rev.number.0 ≤ number_most
unfolding tree_of
winner_number r is i a = go (document_of r i) refl
  where
    go : (d : Option Document) → document_of r i ≡ d → winner (tree_in d) ≡ Some a → a.rev.number.0 ≤ number_most
    go None q e = absurd (no_winner a e)
    go (Some d) q e =
        let t = (is.documents i d q).tree in
        let c = ((winner_top d.tree t.ascending a).0 e).0 in
        (t.revisions a.rev (c.0, c.1)).most

module _ (s : List ℕ) (e : Edit) where
  parent_low : IsStored s → ((v : Revision) → e.parent ≡ Some v → v.number.0 < 4294967296) → maybe 0 (λ v. v.number.0) (parent_of (replica_of s) e) < 4294967296
  unfolding parent_of deleted_winner
  parent_low is given = go e.parent given
    where
      deleted : (a : LeafOf) (b : Bool) → winner (tree_of (replica_of s) e.id) ≡ Some a → maybe 0 (λ v. v.number.0) (pick b (Some a.rev) None) < 4294967296
      deleted a true q = let m = winner_number (replica_of s) is.replica e.id a q in omega arith
      deleted a false q = omega arith

      by : (x : Option LeafOf) → winner (tree_of (replica_of s) e.id) ≡ x → maybe 0 (λ v. v.number.0) (maybe None (λ w. pick (is_deletion w.content) (Some w.rev) None) x) < 4294967296
      by None q = omega arith
      by (Some a) q = deleted a (is_deletion a.content) q

      go : (p : Option Revision) → ((v : Revision) → p ≡ Some v → v.number.0 < 4294967296) → maybe 0 (λ v. v.number.0) (maybe (deleted_winner (tree_of (replica_of s) e.id)) Some p) < 4294967296
      go None h = by (winner (tree_of (replica_of s) e.id)) refl
      go (Some v) h = h v refl

  edit_as : IsStored s → ((v : Revision) → e.parent ≡ Some v → v.number.0 < 4294967296) → Fair s (edited_number (edit (replica_of s) e).0, stored (edit (replica_of s) e).1)
  unfolding edit new_number
  edit_as is given = go (first_that (edit_refusals (replica_of s) e))
    where
      go : (x : Option Refusal)
          → Fair s (
            edited_number (settle Err (replica_of s) (Ok (new_number (replica_of s) e), added (replica_of s) (as_write (replica_of s) e)) x).0,
            stored (settle Err (replica_of s) (Ok (new_number (replica_of s) e), added (replica_of s) (as_write (replica_of s) e)) x).1,
          )
      go None = accepted_fair s _ _ (let m = parent_low is given in omega arith)
      go (Some x) = rules_fair s _ x (sym is.same)

named_low : (number : ℕ) (parent : List ℕ) (b : Bool) → number < 4294967296 → (v : Revision) → pick b (Some (revision number parent)) None ≡ Some v → v.number.0 < 4294967296
named_low number parent true low v q = let n : number ≡ v.number.0 = ap (λ (o : Option Revision). maybe 0 (λ u. u.number.0) o) q in omega arith
named_low number parent false low v q = absurd (let z : ◌≡◌ {A = ℕ} 0 1 = cc in omega arith)

parent_number_lem : (named number : ℕ) (parent : List ℕ) → (1 ≤ (parent_house named number parent).1) × ((parent_house named number parent).1 ≤ 106)
unfolding parent_house bad_hash bad_no_parent
parent_number_lem named number parent = go (eqb named 1)
  where
    go : (b : Bool) → (1 ≤ (pick b (bad_hash parent) (bad_no_parent number parent)).1) × ((pick b (bad_hash parent) (bad_no_parent number parent)).1 ≤ 106)
    go true = (omega arith, omega arith)
    go false = (omega arith, omega arith)

pub edit_fair : (s i hash : List ℕ) (kind label named number : ℕ) (parent : List ℕ) → Lent s → number < 4294967296
    → FairCall (edit_call s i hash kind label named number parent)
unfolding edit_call edit_house bad_kind bad_label bad_flag bad_hash
edit_fair s i hash kind label named number parent l low = record {
  house = lent_numbers s _ ((omega arith, omega arith), ((omega arith, omega arith), ((omega arith, omega arith), ((omega arith, omega arith), (parent_number_lem named number parent, tt)))));
  does = λ e.
      edit_as s (edit_of i hash (content_from kind label) (parent_from named (revision number parent))) (lent_stands s (first_both (lent_house s) _ e).0 l)
      (named_low number parent (eqb named 1) low);
}

-- ---- pull

pub pull_fair : (t s : List ℕ) (after : ℕ) (answer : List ℕ) → FairCall (pull_call t s after answer)
unfolding pull_call
pull_fair t s after answer = record {
  house = lent_numbers t (lent_house s) (lent_alone s);
  does = λ e. answering_fair (count_bytes (pull (record { 0 = after }) (replica_of s) (replica_of t)).0) answer (t, answer) _ 0 (omega arith);
}
