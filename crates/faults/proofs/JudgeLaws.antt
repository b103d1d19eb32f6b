-- What makes a head or an entry bad, as the code asks it: one test after the other. Assumes nothing.
use mathlib.Core.Path.{◌≡◌, refl, sym, ap, ◌∙◌}
use mathlib.Core.Bool.{Bool, true, false, not}
use mathlib.Core.List.{List, [], ◌∷◌}
use Rattle.std.specs.Prelude.{Option, None, Some, Result, Ok, Err, option_map}
use Rattle.rules.specs.declared.Fault.{Fault}
use Prim.Native.Nat.{ℕ, ◌≤◌, ◌<◌}
use lib.Dec.{eqb, ltb}
use lib.ListN.{length}
use borrow.Author.Tests.{ltb-false, eqb-true, not-false, lt-ltb, le-ltb, eq-eqb, ne_eqb}
use Rattle.rules.specs.Faults.{bad_head, sum_rows, first_true, bad_entries, bad_contents, bad_sequence, faults, at}
use Rattle.rules.specs.Image.{total_length, entries_of}
use Rattle.rules.specs.Layout.{head_of, head_size}
use Rattle.rules.specs.declared.Fault.TheVariants.{TooShort, BadEdition, BadHead, BadContents, BadSequence, BadRow, BadParent}
use Rattle.rules.specs.Choice.{pick, or_else, first_that}
use Rattle.rules.specs.Room.{documents_most, revisions_most}
use Rattle.rules.proofs.MapLaws.{none≢some}
use Rattle.images.proofs.Tests.{none5}
use Rattle.layout.specs.Fields.{entry_place}
use Rattle.faults.specs.Each.{Rows, Links}
use Rattle.faults.specs.Judged.{judged, body_fault}
use Rattle.faults.specs.Places.{Headed}
use Rattle.faults.specs.Each.{rule_fault}

-- ---- 22

-- "zero field not zero, d over 32, r over 512, total not by the formula or not the given length"
pub record HeadRules (s : List ℕ) : Type 0 where
  pub zero : (head_of s).zero ≡ 0
  pub documents : (head_of s).documents ≤ documents_most
  pub revisions : (head_of s).revisions ≤ revisions_most
  pub total : (head_of s).total ≡ total_length (head_of s).documents (head_of s).revisions
  pub given : (head_of s).total ≡ length s

module _ (s : List ℕ) where
  pub head_rules : bad_head s ≡ false → HeadRules s
  unfolding bad_head
  head_rules e =
      let h = head_of s in
      let n =
      none5 (not (eqb h.zero 0)) (ltb documents_most h.documents) (ltb revisions_most h.revisions)
      (not (eqb h.total (total_length h.documents h.revisions))) (not (eqb h.total (length s))) e in
      record {
        zero = eqb-true h.zero 0 (not-false (eqb h.zero 0) n.0);
        documents = ltb-false documents_most h.documents n.1;
        revisions = ltb-false revisions_most h.revisions n.2;
        total = eqb-true h.total (total_length h.documents h.revisions) (not-false (eqb h.total (total_length h.documents h.revisions)) n.3);
        given = eqb-true h.total (length s) (not-false (eqb h.total (length s)) n.4);
      }

  -- what is left where 22 finds nothing
  pub headed : bad_head s ≡ false → Headed s
  headed e = let r = head_rules e in record { documents = r.documents; revisions = r.revisions; size = sym r.given ∙ r.total }

  -- past the other rules, whether the total is the given length is what is left to ask
  pub head_given : (b : Bool) → (head_of s).zero ≡ 0 → (head_of s).documents ≤ documents_most → (head_of s).revisions ≤ revisions_most
      → (head_of s).total ≡ total_length (head_of s).documents (head_of s).revisions
      → (b ≡ false → (head_of s).total ≡ length s) → (b ≡ true → (head_of s).total ≡ length s → ⊥) → b ≡ bad_head s
  unfolding bad_head
  head_given true z d r t f g =
      let h = head_of s in
      rw (eq-eqb h.zero 0 z, le-ltb documents_most h.documents d, le-ltb revisions_most h.revisions r, eq-eqb h.total (total_length h.documents h.revisions) t, ne_eqb h.total (length s) (g refl))
  head_given false z d r t f g =
      let h = head_of s in
      rw (eq-eqb h.zero 0 z, le-ltb documents_most h.documents d, le-ltb revisions_most h.revisions r, eq-eqb h.total (total_length h.documents h.revisions) t, eq-eqb h.total (length s) (f refl))

-- ---- 23

-- ---- the whole image

first_left : (a : Option ℕ) (b : Bool) (p : ℕ) → or_else a (pick b None (Some p)) ≡ None → b ≡ true
first_left None true p e = refl
first_left None false p e = absurd (none≢some (sym e))
first_left (Some x) b p e = absurd (none≢some (sym e))

-- where 23 finds nothing, the entries' rows are all rows
pub rows_sum : (s : List ℕ) → bad_contents s ≡ None → sum_rows (entries_of s) ≡ (head_of s).revisions
unfolding bad_contents
rows_sum s e =
    eqb-true (sum_rows (entries_of s)) (head_of s).revisions
    (first_left (first_true 0 (bad_entries (entry_place (head_of s).documents) None (entries_of s))) (eqb (sum_rows (entries_of s)) (head_of s).revisions) (head_of s).documents e)

-- what is said of a fault that was sought
abbrev pub Says : Fault → Option ℕ → Result (Unit {0}) (Fault × ℕ) → Type 0
Says f o r = judged r ≡ option_map (λ p. (f, p)) o

pub not_found : (f : Fault) (o : Option ℕ) (r : Result (Unit {0}) (Fault × ℕ)) → Says f o r → r ≡ Ok tt → o ≡ None
not_found f None r j e = refl
not_found f (Some p) r j e = absurd (none≢some (sym (ap judged e) ∙ j))

first_here : (f : Fault) (o : Option ℕ) (ts : List (Bool × (Fault × ℕ))) (r : Result (Unit {0}) (Fault × ℕ)) (e : Fault × ℕ) → Says f o r → r ≡ Err e
    → judged (Err e) ≡ first_that (at f o ∷ ts)
unfolding first_that
first_here f None ts r e j q = absurd (none≢some (sym j ∙ ap judged q))
first_here f (Some p) ts r e j q = sym (ap judged q) ∙ j

first_past : (f : Fault) (o : Option ℕ) (ts : List (Bool × (Fault × ℕ))) → o ≡ None → first_that (at f o ∷ ts) ≡ first_that ts
unfolding first_that
first_past f o ts e = rw e

first_last : (f : Fault) (o : Option ℕ) (r : Result (Unit {0}) (Fault × ℕ)) → Says f o r → judged r ≡ first_that (at f o ∷ [])
unfolding first_that
first_last f None r j = j
first_last f (Some p) r j = j

-- 23 to 26, one after the other
module _ (s : List ℕ) (r : Result (Unit {0}) (Fault × ℕ)) where
  pub body_contents : (e : Fault × ℕ) → Says BadContents (bad_contents s) r → r ≡ Err e → judged (Err e) ≡ body_fault s
  unfolding body_fault
  body_contents e = first_here BadContents (bad_contents s) _ r e

  pub body_sequence : (e : Fault × ℕ) → bad_contents s ≡ None → Says BadSequence (bad_sequence s) r → r ≡ Err e → judged (Err e) ≡ body_fault s
  unfolding body_fault
  body_sequence e a j q = first_here BadSequence (bad_sequence s) _ r e j q ∙ sym (first_past BadContents (bad_contents s) _ a)

  pub body_rows : (e : Fault × ℕ) → bad_contents s ≡ None → bad_sequence s ≡ None → Says BadRow (rule_fault Rows s) r → r ≡ Err e → judged (Err e) ≡ body_fault s
  unfolding body_fault
  body_rows e a b j q =
      first_here BadRow (rule_fault Rows s) _ r e j q
      ∙ sym (first_past BadContents (bad_contents s) _ a ∙ first_past BadSequence (bad_sequence s) _ b)

  pub body_links : bad_contents s ≡ None → bad_sequence s ≡ None → rule_fault Rows s ≡ None → Says BadParent (rule_fault Links s) r → judged r ≡ body_fault s
  unfolding body_fault
  body_links a b c j =
      first_last BadParent (rule_fault Links s) r j
      ∙ sym (first_past BadContents (bad_contents s) _ a ∙ (first_past BadSequence (bad_sequence s) _ b ∙ first_past BadRow (rule_fault Rows s) _ c))

module _ (s : List ℕ) where
  -- 20 to 22 before them
  pub fault_short : length s < head_size → first_that (faults s) ≡ Some (TooShort, 0)
  unfolding faults first_that
  fault_short h = rw (lt-ltb (length s) head_size h)

  pub fault_edition : head_size ≤ length s → ((head_of s).edition ≡ 1 → ⊥) → first_that (faults s) ≡ Some (BadEdition, 0)
  unfolding faults first_that
  fault_edition h e = rw (le-ltb (length s) head_size h, ne_eqb (head_of s).edition 1 e)

  pub fault_head : head_size ≤ length s → (head_of s).edition ≡ 1 → bad_head s ≡ true → first_that (faults s) ≡ Some (BadHead, 0)
  unfolding faults first_that
  fault_head h e b = rw (le-ltb (length s) head_size h, eq-eqb (head_of s).edition 1 e, b)

  pub fault_body : head_size ≤ length s → (head_of s).edition ≡ 1 → bad_head s ≡ false → first_that (faults s) ≡ body_fault s
  unfolding faults first_that body_fault rule_fault
  fault_body h e b = rw (le-ltb (length s) head_size h, eq-eqb (head_of s).edition 1 e, b)
