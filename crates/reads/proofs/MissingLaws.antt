-- Missing revisions: the bytes one by one, and the call's outcomes. Assumes nothing.
use mathlib.Core.Path.{◌≡◌, refl, sym, ap, ◌∙◌}
use Rattle.std.specs.Prelude.{Ok, Err}
use mathlib.Core.Bool.{Bool, true, false, not}
use mathlib.Core.List.{List, [], ◌∷◌, ◌++◌, map}
use Rattle.std.specs.Prelude.{None}
use Prim.Native.Nat.{ℕ, ◌+◌, ◌*◌, ◌/◌, ◌%◌, ◌≤◌, ◌<◌}
use native.Mathlib.Nat.{zero-add}
use native.Mathlib.Omega.{arith}
use borrow.Author.Tests.{eq-eqb, ne_eqb}
use lib.Dec.{eqb}
use lib.ListN.{length, set, drop, length-drop}
use lib.Seq.{take_all}
use Rattle.rules.specs.declared.Refusal.{Refusal}
use Rattle.rules.specs.declared.Refusal.TheVariants.{BadId, BadAsked, ShortBuffer}
use Rattle.rules.specs.declared.Revision.{Revision}
use Rattle.rules.specs.Bytes.{value, part, pieces}
use Rattle.rules.specs.Choice.{first_that}
use Rattle.rules.specs.Layout.{hash_in}
use Rattle.rules.specs.Outcome.{Does}
use Rattle.rules.specs.Read.{asked_size, asked_rev, missing_byte, missing, read_missing}
use Rattle.rules.specs.Replica.{Id, Tree, Replica, revision, tree_of}
use Rattle.rules.specs.Room.{hash_size}
use Rattle.rules.specs.Write.{bad_id}
use Rattle.rules.proofs.ByteLaws.{pieces_add, length-pieces}
use Rattle.rules.proofs.OrderLaws.{rev_path}
use Rattle.octets.specs.Splice.{splice}
use Rattle.octets.proofs.SpliceLaws.{splice_none, splice_behind}
use Rattle.store.proofs.StoredLaws.{length-map, map-append}
use Rattle.reads.specs.Reads.{missing_of}
use Rattle.reads.proofs.AnswerLaws.{reads_past, reads_refused, reads_short, reads_answers}

-- ---- one asked revision

pub asked_fields : (s : List ℕ) (n : ℕ) (h : List ℕ) → length s ≡ asked_size → n ≡ value (part 0 hash_in s) → h ≡ part hash_in hash_size s
    → revision n h ≡ asked_rev s
unfolding asked_rev part
asked_fields s n h l e f = rev_path _ _ e (f ∙ take_all hash_size (drop hash_in s) (simp length-drop (omega arith)))

-- ---- the bytes of the first i

abbrev pub bytes_to : Tree → List ℕ → ℕ → List ℕ
bytes_to t asked i = map (missing_byte t) (pieces i asked_size asked)

length_to : (t : Tree) (asked : List ℕ) (i : ℕ) → length (bytes_to t asked i) ≡ i
length_to t asked i = length-map (missing_byte t) (pieces i asked_size asked) ∙ length-pieces i asked_size asked

bytes_next : (t : Tree) (asked : List ℕ) (i : ℕ) → bytes_to t asked (i + 1) ≡ bytes_to t asked i ++ (missing_byte t (part (i * asked_size) asked_size asked) ∷ [])
unfolding pieces part
bytes_next t asked i =
    ap (map (missing_byte t)) (pieces_add i 1 asked_size asked)
    ∙ map-append (missing_byte t) (pieces i asked_size asked) (pieces 1 asked_size (drop (i * asked_size) asked))

pub missing_none : (t : Tree) (asked out : List ℕ) → out ≡ splice out 0 (bytes_to t asked 0)
unfolding pieces
missing_none t asked out = sym (splice_none out 0)

pub missing_more : (t : Tree) (asked before out : List ℕ) (i v : ℕ) (r : Revision) → i < length before → out ≡ splice before 0 (bytes_to t asked i)
    → r ≡ asked_rev (part (i * asked_size) asked_size asked) → v ≡ missing_of t r → set out i v ≡ splice before 0 (bytes_to t asked (i + 1))
unfolding missing_byte
missing_more t asked before out i v r h e f g =
    let l : i ≡ 0 + length (bytes_to t asked i) = sym (zero-add (length (bytes_to t asked i)) ∙ length_to t asked i) in
    let b : v ≡ missing_byte t (part (i * asked_size) asked_size asked) = rw (sym f) g in
    rw (e, bytes_next t asked i, sym b) (splice_behind before 0 i v (bytes_to t asked i) l h)

pub missing_all : (t : Tree) (asked before out : List ℕ) (i : ℕ) → i ≡ length asked / asked_size → out ≡ splice before 0 (bytes_to t asked i) → out ≡ splice before 0 (missing t asked)
unfolding missing
missing_all t asked before out i e f = rw e at f

pub length-missing : (t : Tree) (asked : List ℕ) → length (missing t asked) ≡ length asked / asked_size
unfolding missing
length-missing t asked = length_to t asked (length asked / asked_size)

-- ---- the call: "missing revisions 1, 15, 14"

module _ (r : Replica) (i : Id) (asked out : List ℕ) where
  abbrev refusals : List (Bool × Refusal)
  refusals = (bad_id i, BadId) ∷ (not (eqb (length asked % asked_size) 0), BadAsked) ∷ []

  abbrev t : Tree
  t = tree_of r i

  none_holds : bad_id i ≡ false → length asked % asked_size ≡ 0 → first_that refusals ≡ None
  unfolding first_that
  none_holds e h = rw (e, eq-eqb _ _ h) refl

  pub missing_bad_id : bad_id i ≡ true → Does (read_missing r i asked out) (Err BadId) out
  unfolding read_missing first_that
  missing_bad_id e = reads_refused refusals [] (length (missing t asked)) (missing t asked) out BadId (rw e refl)

  pub missing_bad_asked : bad_id i ≡ false → (length asked % asked_size ≡ 0 → ⊥) → Does (read_missing r i asked out) (Err BadAsked) out
  unfolding read_missing first_that
  missing_bad_asked e h = reads_refused refusals [] (length (missing t asked)) (missing t asked) out BadAsked (rw (e, ne_eqb _ _ h) refl)

  pub missing_short : bad_id i ≡ false → length asked % asked_size ≡ 0 → length out < length asked / asked_size → Does (read_missing r i asked out) (Err ShortBuffer) out
  unfolding read_missing
  missing_short e h l =
      rw (reads_past refusals [] (length (missing t asked)) (missing t asked) out (none_holds e h))
      (reads_short (length (missing t asked)) (missing t asked) out (rw (length-missing t asked) l))

  pub missing_answers : {n : ℕ} {u : Tree} {after : List ℕ} → bad_id i ≡ false → length asked % asked_size ≡ 0 → n ≡ length asked / asked_size → n ≤ length out
      → u ≡ t → after ≡ splice out 0 (missing u asked) → Does (read_missing r i asked out) (Ok n) after
  unfolding read_missing
  missing_answers {n} {u} {after} e h q l same w =
      let z = length-missing t asked in
      rw (reads_past refusals [] (length (missing t asked)) (missing t asked) out (none_holds e h))
      (reads_answers (length (missing t asked)) (missing t asked) out n after (omega arith) (q ∙ sym z) (w ∙ ap (λ (x : Tree). splice out 0 (missing x asked)) same))
