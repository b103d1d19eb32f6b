-- Lines that the C calls take in and put out. Assumes nothing.
use mathlib.Core.Path.{◌≡◌, refl, sym, ap, ◌∙◌, subst}
use Rattle.rules.specs.declared.Outcome.{Outcome}
use Rattle.std.specs.Prelude.{Result, Ok, Err}
use mathlib.Core.Bool.{Bool, true, false}
use mathlib.Core.List.{List, [], ◌∷◌, ◌++◌}
use mathlib.Core.Logic.{◌↔◌, inl, inr}
use Rattle.std.specs.Prelude.{Option, None, Some}
use Prim.Native.Nat.{ℕ, ◌≤◌}
use native.Mathlib.Omega.{arith}
use borrow.Author.Tests.{ltb-true}
use lib.Dec.{ltb}
use lib.ListN.{length, take}
use lib.Seq.{take_at}
use Rattle.rules.specs.declared.Refusal.{Refusal}
use Rattle.rules.specs.declared.Refusal.TheVariants.{BadId, BadPath, LowNumber, OtherParent, OtherContent, DocumentsFull, RevisionsFull, SequenceSpent}
use Rattle.rules.specs.declared.Refusal.TheVariants.{NotAParent, AlreadyKnown, LastNumber, NoDocument, NoRevision, ShortBuffer, BadAsked}
use Rattle.rules.specs.declared.Refusal.TheVariants.{NotJson, BadMember, OtherRevisions, UnwritableId}
use Rattle.rules.specs.Answer.{Numbered, accepted, written_number, answered_number}
use Rattle.rules.specs.Choice.{maybe, first_that}
use Rattle.rules.specs.Pull.{offer}
use Rattle.rules.specs.Read.{LeafOf, leaves, front, short_buffer, reads, lend}
use Rattle.rules.specs.Refusal.{refusal_number}
use Rattle.rules.specs.Replica.{Id, Tree, Replica, IsTree, tree_of}
use Rattle.rules.specs.Union.{In, held, IsUnion, SameButSeq}
use Rattle.rules.specs.Union as union
use Rattle.rules.specs.Write.{write}
use Rattle.json_text.specs.Members.{line_of}
use Rattle.json_text.specs.Rfc.{line}
use Rattle.lines.specs.Put.{leaf_line, lines_text, put_refusals, put_out, put_out_size}
use Rattle.lines.specs.Take.{Members, unwritable, take_in, TakesIn}
use Rattle.lines.specs.Unknown.{ours}
use Rattle.lines.specs.Whole.{lines_in, AllWritable, TakesAll}
use Rattle.lines.proofs.RoundTrip as trip
use Rattle.lines.proofs.TakesLaws.{take-keeps}
use Rattle.lines.proofs.Unknown as unknown
use Rattle.lines.proofs.Whole as whole
use Rattle.reads.proofs.AnswerLaws.{first_past}
use Rattle.store.specs.Storage.{stored, replica_of, IsStored}
use Rattle.refile.specs.Boundary.{take_in_call, put_out_call, put_out_size_call}
use Rattle.refile.specs.Decode.{refusal_in, value_in, decode}
use Rattle.refile.proofs.FairLaws.{told_does}
use Rattle.refile.proofs.Keeps.{replica_past}
use Rattle.refile.proofs.NumberLaws.{no_refusal}
use Rattle.demands.specs.Calls as C
use Rattle.demands.specs.Calls.{IsAccepted, Called}
use Rattle.demands.specs.Runs.{TakeCalls, EachResult}
use Rattle.demands.proofs.CallLaws.{Holding, holding, fresh_does, lent_one}
use Rattle.demands.proofs.Results.{take_in_tells, take_in_holds, put_out_tells, put_out_lent, put_out_size_tells, put_out_size_lent}

-- ---- one line taken in

only_forty : (x : Refusal) → refusal_number x ≡ 40 → x ≡ NotJson
only_forty x = elim x as (λ (k : Refusal). refusal_number k ≡ 40 → k ≡ NotJson) [
  | BadId ↦ λ e. absurd (omega arith)
  | BadPath ↦ λ e. absurd (omega arith)
  | LowNumber ↦ λ e. absurd (omega arith)
  | OtherParent ↦ λ e. absurd (omega arith)
  | OtherContent ↦ λ e. absurd (omega arith)
  | DocumentsFull ↦ λ e. absurd (omega arith)
  | RevisionsFull ↦ λ e. absurd (omega arith)
  | SequenceSpent ↦ λ e. absurd (omega arith)
  | NotAParent ↦ λ e. absurd (omega arith)
  | AlreadyKnown ↦ λ e. absurd (omega arith)
  | LastNumber ↦ λ e. absurd (omega arith)
  | NoDocument ↦ λ e. absurd (omega arith)
  | NoRevision ↦ λ e. absurd (omega arith)
  | ShortBuffer ↦ λ e. absurd (omega arith)
  | BadAsked ↦ λ e. absurd (omega arith)
  | NotJson ↦ λ e. refl
  | BadMember ↦ λ e. absurd (omega arith)
  | OtherRevisions ↦ λ e. absurd (omega arith)
  | UnwritableId ↦ λ e. absurd (omega arith)
]

-- the answer whose number is 40
forty_is : (o : Result Outcome Refusal) → (written_number o).refusal ≡ 40 → o ≡ Err NotJson
forty_is (Ok o) e = absurd (omega arith)
forty_is (Err x) e = ap Err (only_forty x e)

module _ {s l : List ℕ} {ms : Option Members} {r : ℕ} {left : List ℕ} (k : Called C.take_in (s, l, ms) r left) (i : IsStored s) where
  -- lent a replica, it answers and leaves what taking in does of what the line holds
  pub take_in_does : (decode r ≡ written_number (take_in (replica_of s) ms).0) × Holding (take_in (replica_of s) ms).1 left
  unfolding take_in_call first_that
  take_in_does =
      let d = told_does (take_in_tells.told k) (replica_past s [] i refl) in
      (d.0, holding (take_in (replica_of s) ms).1 left (take-keeps (replica_of s) ms i.replica) d.1)

  pub take_in_takes : TakesIn (replica_of s) l (take_in (replica_of s) ms)
  take_in_takes = record { members = ms; holds = take_in_holds k i; is = refl }

  -- 40 exactly if the bytes are no such text
  pub forty_exactly : (refusal_in r ≡ 40) ↔ (line l [] → ⊥)
  forty_exactly =
      let f = unknown.forty_exactly (replica_of s) l (take_in (replica_of s) ms) take_in_takes in
      let e : refusal_in r ≡ (written_number (take_in (replica_of s) ms).0).refusal = ap (λ (n : Numbered). n.refusal) take_in_does.0 in (
        λ q. f.0 (forty_is (take_in (replica_of s) ms).0 (sym e ∙ q)),
        λ n. e ∙ ap (λ (o : Result Outcome Refusal). (written_number o).refusal) (f.1 n),
      )

  -- "What we put out comes back as the same write": the line of a leaf of any replica's tree t, taken into s
  pub comes_back : (d : Id) (t : Tree) → IsTree t → (a : LeafOf) → In a (leaves t) → unwritable d ≡ false → l ≡ leaf_line d t a
      → (decode r ≡ written_number (write (replica_of s) (offer d t a)).0) × Holding (write (replica_of s) (offer d t a)).1 left
  comes_back d t h a m w e =
      let o : take_in (replica_of s) ms ≡ write (replica_of s) (offer d t a)
      = trip.put_comes_back d t h a m w (replica_of s) (take_in (replica_of s) ms) (subst (λ (x : List ℕ). TakesIn (replica_of s) x (take_in (replica_of s) ms)) e take_in_takes) in
      subst (λ (x : Result Outcome Refusal × Replica). (decode r ≡ written_number x.0) × Holding x.1 left) o take_in_does

-- texts that hold the same members but for spaces and unknown members are the same write: calls with them,
-- lent the same replica, say the same and leave the same bytes
pub unknown_passed : {s l l' : List ℕ} {ms ns : Option Members} {r r' : ℕ} {left left' : List ℕ} → Called C.take_in (s, l, ms) r left → Called C.take_in (s, l', ns) r' left'
    → IsStored s → (a b : Members) → line_of a l → line_of b l' → ours a ≡ ours b → (decode r ≡ decode r') × (left ≡ left')
unknown_passed {s} {l} {l'} k k' i a b h h' e =
    let o = unknown.unknown_passed (replica_of s) l l' a b h h' e _ _ (take_in_takes k i) (take_in_takes k' i) in
    let d = take_in_does k i in
    let d' = take_in_does k' i in
    (d.0 ∙ (ap (λ (x : Result Outcome Refusal × Replica). written_number x.0) o ∙ sym d'.0), d.1.bytes ∙ (ap (λ (x : Result Outcome Refusal × Replica). stored x.1) o ∙ sym d'.1.bytes))

-- ---- lines taken in one after the other

record Does (ls : List (List ℕ)) (s left : List ℕ) (calls : TakeCalls ls s left) : Type 1 where
  answers : List (Result Outcome Refusal)
  takes : TakesAll (replica_of s) ls answers (replica_of left)
  is : IsStored left
  each : (P : ℕ → Type 0) → ((x : Result Outcome Refusal) (r : ℕ) → In x answers → decode r ≡ written_number x → P r) → EachResult P ls s left calls

all_does : (ls : List (List ℕ)) (s left : List ℕ) → IsStored s → (calls : TakeCalls ls s left) → Does ls s left calls
all_does [] s left i calls = record { answers = []; takes = ap replica_of (sym calls); is = subst IsStored calls i; each = λ P f. tt }
all_does (l ∷ ls) s left i calls =
    let d = take_in_does calls.3 i in
    let o = take_in (replica_of s) calls.0 in
    let rest = all_does ls calls.2 left d.1.is calls.4 in
    record {
      answers = o.0 ∷ rest.answers;
      takes = (o.1, take_in_takes calls.3 i, subst (λ (x : Replica). TakesAll x ls rest.answers (replica_of left)) d.1.means rest.takes);
      is = rest.is;
      each = λ P f. (f o.0 calls.1 (inl refl) d.0, rest.each P (λ x r m e. f x r (inr m) e));
    }

accepted_result : (x : Result Outcome Refusal) (r : ℕ) → union.IsAccepted x → decode r ≡ written_number x → IsAccepted r
accepted_result (Ok o) r h e = ap (λ (n : Numbered). n.refusal) e
accepted_result (Err n) r h e = absurd h

module _ {s : List ℕ} (i : IsStored s) (w : AllWritable (replica_of s)) (ls : List (List ℕ)) where
  -- all lines of a replica, in any order and with any repeats, taken into a fresh one: none is refused, and it
  -- holds exactly what the replica holds, sequences aside
  pub whole_copied : ((l : List ℕ) → In l ls ↔ In l (lines_in (replica_of s).documents))
      → {buffer made : List ℕ} {n : ℕ} → Called C.fresh buffer n made → IsAccepted n → (left : List ℕ) (calls : TakeCalls ls made left)
      → EachResult IsAccepted ls made left calls × IsUnion (replica_of left) (held (replica_of s)) × SameButSeq (replica_of left) (replica_of s)
  whole_copied h {buffer} {made} k a left calls =
      let f = fresh_does k a in
      let d = all_does ls made left f.is calls in
      let c = whole.whole_copied (replica_of s) i.replica w ls h d.answers (replica_of left)
      (subst (λ (x : Replica). TakesAll x ls d.answers (replica_of left)) f.means d.takes) in
      (d.each IsAccepted (λ x r m e. accepted_result x r (c.accepted x m) e), c.union, c.same)

  -- taken into the replica itself, each changes nothing
  pub whole_stays : ((l : List ℕ) → In l ls → In l (lines_in (replica_of s).documents))
      → (left : List ℕ) (calls : TakeCalls ls s left) → EachResult (λ r. decode r ≡ accepted 0) ls s left calls × (left ≡ s)
  whole_stays h left calls =
      let d = all_does ls s left i calls in
      let c = whole.whole_stays (replica_of s) i.replica w ls h d.answers (replica_of left) d.takes in (
        d.each (λ r. decode r ≡ accepted 0) (λ x r m e. e ∙ ap (λ (y : Result Outcome Refusal). written_number y) (c.unchanged x m)),
        d.is.same ∙ (ap stored c.same ∙ sym i.same),
      )

-- ---- lines put out

module _ {s out : List ℕ} {d : Id} {r : ℕ} {left : List ℕ} (k : Called C.put_out (s, d, out) r left) where
  pub put_out_from : IsAccepted r → IsStored s
  unfolding put_out_call
  put_out_from a = lent_one s [] (put_out_tells.told k) (put_out_lent k) a

  pub put_out_does : IsStored s → (decode r ≡ answered_number (put_out (replica_of s) d out).0) × (left ≡ (put_out (replica_of s) d out).1)
  unfolding put_out_call first_that
  put_out_does i = told_does (put_out_tells.told k) (replica_past s [] i refl)

  abbrev lines : List ℕ
  lines = lines_text d (tree_of (replica_of s) d)

  -- accepted, it wrote the lines of the document's leaves at the front of its buffer, and counts their bytes
  pub put_out_lines : IsAccepted r → (value_in r ≡ length lines) × (left ≡ front lines out) × (take (value_in r) left ≡ lines)
  unfolding put_out reads front
  put_out_lines a = let o = put_out_does (put_out_from a) in go (first_that (put_refusals (replica_of s) d ++ (short_buffer lines out ∷ []))) o.0 o.1
    where
      lent : Option Refusal → Result ℕ Refusal × List ℕ
      lent x = lend Err out (Ok (length lines)) lines x

      go : (x : Option Refusal) → decode r ≡ answered_number (lent x).0 → left ≡ (lent x).1
          → (value_in r ≡ length lines) × (left ≡ front lines out) × (take (value_in r) left ≡ lines)
      go None e f = let v : value_in r ≡ length lines = ap (λ (n : Numbered). n.value) e in (v, f, ap (take (value_in r)) f ∙ take_at lines _ (value_in r) (sym v))
      go (Some x) e f = absurd (no_refusal x (sym (ap (λ (n : Numbered). n.refusal) e) ∙ a))

-- a buffer of as many bytes as refile_put_out_size answers is never too short, and all of them are written
module _ {s : List ℕ} {d : Id} {n : ℕ} (k : Called C.put_out_size (s, d) n tt) (a : IsAccepted n) {out : List ℕ} {r : ℕ} {left : List ℕ} (c : Called C.put_out (s, d, out) r left) where
  size_from : IsStored s
  unfolding put_out_size_call
  size_from = lent_one s [] (put_out_size_tells.told k) (put_out_size_lent k) a

  size_says : decode n ≡ answered_number (put_out_size (replica_of s) d)
  unfolding put_out_size_call first_that
  size_says = (told_does (put_out_size_tells.told k) (replica_past s [] size_from refl)).0

  pub size_suffices : value_in n ≤ length out → IsAccepted r × (value_in r ≡ value_in n)
  unfolding put_out_size put_out reads short_buffer first_that
  size_suffices h = go (first_that (put_refusals (replica_of s) d)) refl size_says
    where
      bytes : List ℕ
      bytes = lines_text d (tree_of (replica_of s) d)

      room : (b : Bool) → ltb (length out) (length bytes) ≡ b → length bytes ≤ length out → b ≡ false
      room true e m = absurd (let l = ltb-true (length out) (length bytes) e in omega arith)
      room false e m = refl

      go : (x : Option Refusal) → first_that (put_refusals (replica_of s) d) ≡ x → decode n ≡ answered_number (maybe (Ok (length bytes)) Err x) → IsAccepted r × (value_in r ≡ value_in n)
      go None e z =
          let v : value_in n ≡ length bytes = ap (λ (m : Numbered). m.value) z in
          let f : ltb (length out) (length bytes) ≡ false = room (ltb (length out) (length bytes)) refl (omega arith) in
          let p : first_that (put_refusals (replica_of s) d ++ (short_buffer bytes out ∷ [])) ≡ None = first_past (put_refusals (replica_of s) d) (short_buffer bytes out ∷ []) e ∙ rw f refl in
          let q : decode r ≡ accepted (length bytes) = (put_out_does c size_from).0 ∙ rw p refl in
          (ap (λ (m : Numbered). m.refusal) q, ap (λ (m : Numbered). m.value) q ∙ sym v)
      go (Some x) e z = absurd (no_refusal x (sym (ap (λ (m : Numbered). m.refusal) z) ∙ a))
