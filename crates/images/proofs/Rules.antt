-- The faults of an image: none is found exactly if every rule is met, and the one found is the first. Assumes nothing.
use mathlib.Core.Path.{◌≡◌, refl, sym, ap, ap₂, ◌∙◌}
use mathlib.Core.Bool.{Bool, true, false, not}
use mathlib.Core.List.{List, [], ◌∷◌, ◌++◌}
use Rattle.std.specs.Prelude.{Option, None, Some}
use Prim.Native.Nat.{ℕ, suc, ◌+◌, ◌*◌, ◌≤◌}
use native.Mathlib.Omega.{arith}
use lib.Dec.{eqb, ltb}
use lib.ListN.{length}
use borrow.Author.Tests.{ltb-false, eqb-true, not-false, le-ltb, eq-eqb}
use Rattle.rules.specs.declared.Fault.{Fault}
use Rattle.rules.specs.declared.Fault.TheVariants.{BadContents, BadSequence, BadRow, BadParent}
use Rattle.rules.specs.Choice.{pick, or_else, first_that}
use Rattle.rules.specs.Faults.{sum_rows, largest, first_true, bad_head, bad_entries, bad_contents, bad_seqs, bad_sequence, bad_rows, bad_links, in_each, at, faults}
use Rattle.rules.specs.Image.{entries_of, rows_of, deal, total_length}
use Rattle.rules.specs.Layout.{Head, Entry, Row, head_of, entry_size, head_size}
use Rattle.rules.specs.Room.{documents_most, revisions_most}
use Rattle.rules.proofs.MapLaws.{none≢some, some_inj}
use Rattle.rules.proofs.ChoiceLaws.{none_holds, holds_none}
use Rattle.images.proofs.Tests.{true≢false, none5, all5, AllFalse}

-- ---- the place of the first that is true

pub true_none : (k : ℕ) (bs : List Bool) → first_true k bs ≡ None → AllFalse bs
unfolding first_true
true_none k [] e = tt
true_none k (b ∷ bs) e = go b refl (λ q. true_none (suc k) bs q)
  where
    go : (c : Bool) → b ≡ c → (first_true (suc k) bs ≡ None → AllFalse bs) → AllFalse (b ∷ bs)
    go true p ih = absurd (none≢some (sym e ∙ ap (λ (c : Bool). pick c (Some k) (first_true (suc k) bs)) p))
    go false p ih = (p, ih (sym (ap (λ (c : Bool). pick c (Some k) (first_true (suc k) bs)) p) ∙ e))

pub none_true : (k : ℕ) (bs : List Bool) → AllFalse bs → first_true k bs ≡ None
unfolding first_true
none_true k [] h = refl
none_true k (b ∷ bs) h = ap (λ (c : Bool). pick c (Some k) (first_true (suc k) bs)) h.0 ∙ none_true (suc k) bs h.1

-- p is the place of the first that is true, counted from k
pub record IsPlace (k : ℕ) (bs : List Bool) (p : ℕ) : Type 0 where
  pub before : List Bool
  pub after : List Bool
  pub split : bs ≡ before ++ (true ∷ after)
  pub earlier : AllFalse before
  pub place : k + length before ≡ p

pub place_is : (k : ℕ) (bs : List Bool) (p : ℕ) → first_true k bs ≡ Some p → IsPlace k bs p
unfolding first_true
place_is k [] p e = absurd (none≢some e)
place_is k (b ∷ bs) p e = go b refl (λ q. place_is (suc k) bs p q)
  where
    go : (c : Bool) → b ≡ c → (first_true (suc k) bs ≡ Some p → IsPlace (suc k) bs p) → IsPlace k (b ∷ bs) p
    go true q ih =
        let r : k ≡ p = some_inj (sym (ap (λ (c : Bool). pick c (Some k) (first_true (suc k) bs)) q) ∙ e) in
        record { before = []; after = bs; split = ap {B = List Bool} (λ x. x ∷ bs) q; earlier = tt; place = omega arith }
    go false q ih =
        let f = ih (sym (ap (λ (c : Bool). pick c (Some k) (first_true (suc k) bs)) q) ∙ e) in
        record {
          before = b ∷ f.before;
          after = f.after;
          split = ap {B = List Bool} (λ l. b ∷ l) f.split;
          earlier = (q, f.earlier);
          place = let z = f.place in omega arith;
        }

-- ---- one fault

at_none : (f : Fault) (o : Option ℕ) → (at f o).0 ≡ false → o ≡ None
at_none f None e = refl
at_none f (Some p) e = absurd (true≢false e)

none_at : (f : Fault) (o : Option ℕ) → o ≡ None → (at f o).0 ≡ false
none_at f o e = ap (λ (x : Option ℕ). (at f x).0) e

-- neither of two, the second a test
else_none : (a : Option ℕ) (b : Bool) (p : ℕ) → or_else a (pick b None (Some p)) ≡ None → (a ≡ None) × (b ≡ true)
else_none None true p e = (refl, refl)
else_none None false p e = absurd (none≢some (sym e))
else_none (Some x) b p e = absurd (none≢some (sym e))

none_else : (a : Option ℕ) (b : Bool) (p : ℕ) → a ≡ None → b ≡ true → or_else a (pick b None (Some p)) ≡ None
none_else a b p e q = ap₂ (λ (x : Option ℕ) (y : Bool). or_else x (pick y None (Some p))) e q

-- ---- the rules, as one statement

-- what an image of n bytes with these fields meets
pub record Meets (n : ℕ) (h : Head) (es : List Entry) (ws : List Row) : Type 0 where
  pub long : head_size ≤ n
  pub edition : h.edition ≡ 1
  pub zero : h.zero ≡ 0
  pub documents : h.documents ≤ documents_most
  pub revisions : h.revisions ≤ revisions_most
  pub total : h.total ≡ total_length h.documents h.revisions
  pub given : h.total ≡ n
  pub entries : AllFalse (bad_entries (head_size + entry_size * h.documents) None es)
  pub sum : sum_rows es ≡ h.revisions
  pub seqs : AllFalse (bad_seqs [] es)
  pub largest : h.seq ≡ largest es
  pub rows : AllFalse (in_each (bad_rows None) (deal es ws))
  pub links : AllFalse (in_each bad_links (deal es ws))

module _ (s : List ℕ) where
  pub faults_meets : first_that (faults s) ≡ None → Meets (length s) (head_of s) (entries_of s) (rows_of s)
  unfolding faults bad_head bad_contents bad_sequence
  faults_meets e =
      let h : Head = head_of s in
      let es : List Entry = entries_of s in
      let f = none_holds (faults s) e in
      let head =
      none5 (not (eqb h.zero 0)) (ltb documents_most h.documents) (ltb revisions_most h.revisions)
      (not (eqb h.total (total_length h.documents h.revisions))) (not (eqb h.total (length s))) f.1.1.0 in
      let contents =
      else_none (first_true 0 (bad_entries (head_size + entry_size * h.documents) None es)) (eqb (sum_rows es) h.revisions) h.documents
      (at_none BadContents (bad_contents s) f.1.1.1.0) in
      let sequence =
      else_none (first_true 0 (bad_seqs [] es)) (eqb h.seq (largest es)) h.documents
      (at_none BadSequence (bad_sequence s) f.1.1.1.1.0) in
      record {
        long = ltb-false (length s) head_size f.0;
        edition = eqb-true h.edition 1 (not-false (eqb h.edition 1) f.1.0);
        zero = eqb-true h.zero 0 (not-false (eqb h.zero 0) head.0);
        documents = ltb-false documents_most h.documents head.1;
        revisions = ltb-false revisions_most h.revisions head.2;
        total = eqb-true h.total (total_length h.documents h.revisions) (not-false (eqb h.total (total_length h.documents h.revisions)) head.3);
        given = eqb-true h.total (length s) (not-false (eqb h.total (length s)) head.4);
        entries = true_none 0 (bad_entries (head_size + entry_size * h.documents) None es) contents.0;
        sum = eqb-true (sum_rows es) h.revisions contents.1;
        seqs = true_none 0 (bad_seqs [] es) sequence.0;
        largest = eqb-true h.seq (largest es) sequence.1;
        rows = true_none 0 (in_each (bad_rows None) (deal es (rows_of s))) (at_none BadRow (first_true 0 (in_each (bad_rows None) (deal es (rows_of s)))) f.1.1.1.1.1.0);
        links = true_none 0 (in_each bad_links (deal es (rows_of s))) (at_none BadParent (first_true 0 (in_each bad_links (deal es (rows_of s)))) f.1.1.1.1.1.1.0);
      }

  pub meets_faults : Meets (length s) (head_of s) (entries_of s) (rows_of s) → first_that (faults s) ≡ None
  unfolding faults bad_head bad_contents bad_sequence
  meets_faults m =
      let h : Head = head_of s in
      let es : List Entry = entries_of s in
      holds_none (faults s) (
        le-ltb (length s) head_size m.long,
        (
          ap not (eq-eqb h.edition 1 m.edition),
          (
            all5 (not (eqb h.zero 0)) (ltb documents_most h.documents) (ltb revisions_most h.revisions)
                (not (eqb h.total (total_length h.documents h.revisions))) (not (eqb h.total (length s))) (
                  ap not (eq-eqb h.zero 0 m.zero),
                  le-ltb documents_most h.documents m.documents,
                  le-ltb revisions_most h.revisions m.revisions,
                  ap not (eq-eqb h.total (total_length h.documents h.revisions) m.total),
                  ap not (eq-eqb h.total (length s) m.given),
                ),
            (
              none_at BadContents (bad_contents s)
                  (none_else (first_true 0 (bad_entries (head_size + entry_size * h.documents) None es)) (eqb (sum_rows es) h.revisions) h.documents
                  (none_true 0 (bad_entries (head_size + entry_size * h.documents) None es) m.entries) (eq-eqb (sum_rows es) h.revisions m.sum)),
              (
                none_at BadSequence (bad_sequence s)
                    (none_else (first_true 0 (bad_seqs [] es)) (eqb h.seq (largest es)) h.documents
                    (none_true 0 (bad_seqs [] es) m.seqs) (eq-eqb h.seq (largest es) m.largest)),
                (
                  none_at BadRow (first_true 0 (in_each (bad_rows None) (deal es (rows_of s)))) (none_true 0 (in_each (bad_rows None) (deal es (rows_of s))) m.rows),
                  (none_at BadParent (first_true 0 (in_each bad_links (deal es (rows_of s)))) (none_true 0 (in_each bad_links (deal es (rows_of s))) m.links), tt),
                ),
              ),
            ),
          ),
        ),
      )
