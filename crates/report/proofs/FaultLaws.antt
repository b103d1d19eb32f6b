-- The place of a fault is small, and what lies past the longest image changes nothing. Assumes nothing.
use mathlib.Core.Path.{◌≡◌, refl, sym, ap, ◌∙◌, subst}
use mathlib.Core.Bool.{Bool, true, false, not}
use mathlib.Core.List.{List, [], ◌∷◌}
use Rattle.std.specs.Prelude.{Option, None, Some}
use Prim.Native.Nat.{ℕ, suc, ◌+◌, ◌*◌, ◌≤◌}
use native.Mathlib.Omega.{arith}
use lib.Dec.{eqb, ltb, leb}
use lib.ListN.{length, take, drop, length-append, length-take, length-drop, length-map}
use lib.Seq.{take_all, take-take}
use borrow.Author.Tests.{ltb-false, le-ltb, leb-true, leb-false, eqb-true, not-false}
use Rattle.rules.specs.declared.Fault.{Fault}
use Rattle.rules.specs.declared.Fault.TheVariants.{TooShort, BadEdition, BadHead, BadContents, BadSequence, BadRow, BadParent}
use Rattle.rules.specs.declared.Revision.{Revision}
use Rattle.rules.specs.Bytes.{part, pieces}
use Rattle.rules.specs.Choice.{pick, or_else, first_that}
use Rattle.rules.specs.Faults.{sum_rows, first_true, bad_head, bad_entries, bad_contents, bad_seqs, largest, bad_sequence, bad_rows, in_each, bad_link, bad_links, at, faults}
use Rattle.rules.specs.Image.{entries_of, rows_of, deal, edition, total_length}
use Rattle.rules.specs.Layout.{Head, Entry, Row, head_size, entry_size, row_size, head_of, entry_of, row_of}
use Rattle.rules.specs.Replica.{Id}
use Rattle.rules.specs.Report.{refused_text, report, input_most, printed}
use Rattle.rules.specs.Room.{documents_most, revisions_most}
use Rattle.rules.proofs.ByteLaws.{length-pieces}
use Rattle.rules.proofs.MapLaws.{none≢some, some_inj}
use Rattle.images.proofs.Lists.{Each}
use Rattle.images.proofs.Tests.{none5}

-- what is so of a head without a fault
record Headed (s : List ℕ) : Type 0 where
  documents : (head_of s).documents ≤ documents_most
  revisions : (head_of s).revisions ≤ revisions_most
  size : length s ≡ total_length (head_of s).documents (head_of s).revisions

headed : (s : List ℕ) → bad_head s ≡ false → Headed s
unfolding bad_head
headed s e =
    let h : Head = head_of s in
    let total : ℕ = total_length h.documents h.revisions in
    let n = none5 (not (eqb h.zero 0)) (ltb documents_most h.documents) (ltb revisions_most h.revisions) (not (eqb h.total total)) (not (eqb h.total (length s))) e in
    record {
      documents = ltb-false documents_most h.documents n.1;
      revisions = ltb-false revisions_most h.revisions n.2;
      size = sym (eqb-true h.total (length s) (not-false _ n.4)) ∙ eqb-true h.total total (not-false _ n.3);
    }

-- ---- the place of a fault

-- a place that is given is at most n
abbrev Most : ℕ → Option ℕ → Type 0
Most n None = Unit {0}
Most n (Some p) = p ≤ n

first_most : (k n : ℕ) (bs : List Bool) → k + length bs ≤ n → Most n (first_true k bs)
unfolding first_true
first_most k n [] h = tt
first_most k n (b ∷ bs) h = go b (first_most (suc k) n bs (omega arith))
  where
    go : (b : Bool) → Most n (first_true (suc k) bs) → Most n (pick b (Some k) (first_true (suc k) bs))
    go true i = omega arith
    go false i = i

-- or else one that is d
or_most : (n d : ℕ) (o : Option ℕ) (b : Bool) → Most n o → d ≤ n → Most n (or_else o (pick b None (Some d)))
or_most n d None true m h = tt
or_most n d None false m h = h
or_most n d (Some p) b m h = m

length-bad_entries : (place : ℕ) (before : Option Id) (es : List Entry) → length (bad_entries place before es) ≡ length es
unfolding bad_entries
length-bad_entries place before [] = refl
length-bad_entries place before (e ∷ es) = ap suc (length-bad_entries (place + row_size * e.rows) (Some e.id) es)

length-bad_seqs : (before : List ℕ) (es : List Entry) → length (bad_seqs before es) ≡ length es
unfolding bad_seqs
length-bad_seqs before [] = refl
length-bad_seqs before (e ∷ es) = ap suc (length-bad_seqs (e.seq ∷ before) es)

length-bad_rows : (before : Option Revision) (ws : List Row) → length (bad_rows before ws) ≡ length ws
unfolding bad_rows
length-bad_rows before [] = refl
length-bad_rows before (w ∷ ws) = ap suc (length-bad_rows (Some w.rev) ws)

length-bad_links : (ws : List Row) → length (bad_links ws) ≡ length ws
unfolding bad_links
length-bad_links ws = length-map ws (bad_link ws)

-- a test for each row that an entry has
length-in_each : (f : List Row → List Bool) → ((ws : List Row) → length (f ws) ≡ length ws) → (es : List Entry) (ws : List Row)
    → length (in_each f (deal es ws)) ≤ length ws
unfolding in_each deal
length-in_each f h [] ws = omega arith
length-in_each f h (e ∷ es) ws =
    let n = length-append (f (take e.rows ws)) (in_each f (deal es (drop e.rows ws))) in
    let a = h (take e.rows ws) ∙ length-take e.rows ws in
    let b = length-in_each f h es (drop e.rows ws) in
    let d = length-drop e.rows ws in
    omega arith

module _ (s : List ℕ) (d : (head_of s).documents ≤ documents_most) (r : (head_of s).revisions ≤ revisions_most) where
  entries_most : length (entries_of s) ≤ revisions_most
  unfolding entries_of
  entries_most =
      omega (arith, length-map (pieces (head_of s).documents entry_size (drop head_size s)) entry_of, length-pieces (head_of s).documents entry_size (drop head_size s))

  rows_most : length (rows_of s) ≤ revisions_most
  unfolding rows_of
  rows_most =
      let from : List ℕ = drop (head_size + entry_size * (head_of s).documents) s in
      omega (arith, length-map (pieces (head_of s).revisions row_size from) row_of, length-pieces (head_of s).revisions row_size from)

  contents_most : Most revisions_most (bad_contents s)
  unfolding bad_contents
  contents_most =
      let bs : List Bool = bad_entries (head_size + entry_size * (head_of s).documents) None (entries_of s) in
      let n : 0 + length bs ≤ revisions_most =
      omega (arith, entries_most, length-bad_entries (head_size + entry_size * (head_of s).documents) None (entries_of s)) in
      or_most revisions_most (head_of s).documents (first_true 0 bs) (eqb (sum_rows (entries_of s)) (head_of s).revisions) (first_most 0 revisions_most bs n) (omega arith)

  sequence_most : Most revisions_most (bad_sequence s)
  unfolding bad_sequence
  sequence_most =
      let bs : List Bool = bad_seqs [] (entries_of s) in
      let n : 0 + length bs ≤ revisions_most = omega (arith, entries_most, length-bad_seqs [] (entries_of s)) in
      or_most revisions_most (head_of s).documents (first_true 0 bs) (eqb (head_of s).seq (largest (entries_of s))) (first_most 0 revisions_most bs n) (omega arith)

  rows_bad_most : (f : List Row → List Bool) → ((ws : List Row) → length (f ws) ≡ length ws)
      → Most revisions_most (first_true 0 (in_each f (deal (entries_of s) (rows_of s))))
  rows_bad_most f h = first_most 0 revisions_most _ (omega (arith, rows_most, length-in_each f h (entries_of s) (rows_of s)))

at_most : (f : Fault) (o : Option ℕ) → Most revisions_most o → (at f o).1.1 ≤ revisions_most
at_most f None m = omega arith
at_most f (Some p) m = m

-- what is so of each is so of the first that holds
first_each : {A : Type 0} (P : A → Type 0) (ts : List (Bool × A)) → Each (λ t. P t.1) ts → (a : A) → first_that ts ≡ Some a → P a
unfolding first_that
first_each P [] h a e = absurd (none≢some e)
first_each P (t ∷ ts) h a e = go t.0 e (λ k. first_each P ts h.1 a k)
  where
    go : (b : Bool) → pick b (Some t.1) (first_that ts) ≡ Some a → (first_that ts ≡ Some a → P a) → P a
    go true k f = subst P (some_inj k) h.0
    go false k f = f k

-- the first three conditions give place 0
first_three : (a b : Bool) (x y z : Fault) (f : Fault × ℕ) → pick a (Some (x, 0)) (pick b (Some (y, 0)) (Some (z, 0))) ≡ Some f → f.1 ≤ revisions_most
first_three true b x y z f e = let p : 0 ≡ f.1 = ap (λ (g : Fault × ℕ). g.1) (some_inj e) in omega arith
first_three false true x y z f e = let p : 0 ≡ f.1 = ap (λ (g : Fault × ℕ). g.1) (some_inj e) in omega arith
first_three false false x y z f e = let p : 0 ≡ f.1 = ap (λ (g : Fault × ℕ). g.1) (some_inj e) in omega arith

-- no place is above the most revisions
pub place_most : (s : List ℕ) (f : Fault × ℕ) → first_that (faults s) ≡ Some f → f.1 ≤ revisions_most
place_most s f e = go (bad_head s) refl
  where
    head : bad_head s ≡ true → f.1 ≤ revisions_most
    head b = unfold faults first_that in first_three (ltb (length s) head_size) (not (eqb (head_of s).edition edition)) TooShort BadEdition BadHead f (rw b at e)

    rest : Headed s → f.1 ≤ revisions_most
    rest k =
        let z : 0 ≤ revisions_most = omega arith in
        let d = k.documents in
        let r = k.revisions in
        first_each (λ (g : Fault × ℕ). g.1 ≤ revisions_most) (faults s)
        (unfold faults in (
          z,
          (
            z,
            (
              z,
              (
                at_most BadContents (bad_contents s) (contents_most s d r),
                (
                  at_most BadSequence (bad_sequence s) (sequence_most s d r),
                  (
                    at_most BadRow (first_true 0 (in_each (bad_rows None) (deal (entries_of s) (rows_of s)))) (rows_bad_most s d r (bad_rows None) (length-bad_rows None)),
                    (
                      at_most BadParent (first_true 0 (in_each bad_links (deal (entries_of s) (rows_of s)))) (rows_bad_most s d r bad_links length-bad_links),
                      tt,
                    ),
                  ),
                ),
              ),
            ),
          ),
        ))
        f e

    go : (b : Bool) → bad_head s ≡ b → f.1 ≤ revisions_most
    go true b = head b
    go false b = rest (headed s b)

-- ---- bytes past the longest image

-- a head can't give a length above the longest
bad_long : (s : List ℕ) → input_most ≤ length s → bad_head s ≡ true
bad_long s h = go (bad_head s) refl
  where
    go : (b : Bool) → bad_head s ≡ b → b ≡ true
    go true e = refl
    go false e = let k = headed s e in absurd (omega (arith, k.documents, k.revisions, k.size))

long_fault : List ℕ → Fault × ℕ
long_fault s = pick (not (eqb (head_of s).edition 1)) (BadEdition, 0) (BadHead, 0)

pick_some : {A : Type 0} (b : Bool) (x y : A) → pick b (Some x) (Some y) ≡ Some (pick b x y)
pick_some true x y = refl
pick_some false x y = refl

long_fault_lem : (s : List ℕ) → input_most ≤ length s → first_that (faults s) ≡ Some (long_fault s)
unfolding faults first_that long_fault
long_fault_lem s h =
    let l : head_size ≤ length s = omega arith in
    rw (le-ltb (length s) head_size l, bad_long s h) (pick_some (not (eqb (head_of s).edition 1)) (BadEdition, 0) (BadHead, 0))

pub report_refused : (s : List ℕ) (f : Fault × ℕ) → first_that (faults s) ≡ Some f → report s ≡ refused_text f
unfolding report
report_refused s f e = rw e refl

edition_take : (s : List ℕ) → (head_of (take input_most s)).edition ≡ (head_of s).edition
unfolding head_of part
edition_take s = rw (take-take 2 input_most s (omega arith)) refl

-- "Input past 26,001 bytes is not read", and what is printed is the report of the whole input all the same
pub printed_report : (s : List ℕ) → printed s ≡ report s
unfolding printed long_fault
printed_report s = go (leb (length s) input_most) refl
  where
    go : (b : Bool) → leb (length s) input_most ≡ b → report (take input_most s) ≡ report s
    go true e = ap report (take_all input_most s (leb-true (length s) input_most e))
    go false e =
        let l : input_most ≤ length s = omega (arith, leb-false (length s) input_most e) in
        let m : input_most ≤ length (take input_most s) = omega (arith, length-take input_most s) in
        report_refused (take input_most s) (long_fault (take input_most s)) (long_fault_lem (take input_most s) m)
        ∙ (ap (λ (n : ℕ). refused_text (pick (not (eqb n 1)) (BadEdition, 0) (BadHead, 0))) (edition_take s)
        ∙ sym (report_refused s (long_fault s) (long_fault_lem s l)))
