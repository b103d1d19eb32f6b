-- The number of an outcome. Assumes nothing.
use mathlib.Core.Path.{◌≡◌, refl, sym, ap, ◌∙◌}
use Rattle.std.specs.Prelude.{Result, Err}
use mathlib.Core.Bool.{false, ◌||◌}
use Prim.Native.Nat.{ℕ, zero, suc, ◌+◌, ◌*◌, ◌≤◌, ◌<◌}
use native.Mathlib.Omega.{arith}
use borrow.Author.Tests.{ltb-false}
use lib.Dec.{ltb}
use Rattle.rules.specs.declared.Fault.{Fault}
use Rattle.rules.specs.declared.Fault.TheVariants.{TooShort, BadEdition, BadHead, BadContents, BadSequence, BadRow, BadParent}
use Rattle.rules.specs.declared.Refusal.{Refusal}
use Rattle.rules.specs.declared.Refusal.TheVariants.{BadId, BadPath, LowNumber, OtherParent, OtherContent, DocumentsFull, RevisionsFull, SequenceSpent}
use Rattle.rules.specs.declared.Refusal.TheVariants.{NotAParent, AlreadyKnown, LastNumber, NoDocument, NoRevision, ShortBuffer, BadAsked}
use Rattle.rules.specs.declared.Refusal.TheVariants.{NotJson, BadMember, OtherRevisions, UnwritableId}
use Rattle.rules.specs.Answer.{Numbered, refused, loaded_number}
use Rattle.rules.specs.Refusal.{refusal_number, fault_number}
use Rattle.rules.proofs.ChoiceLaws.{neither}
use Rattle.refile.specs.Boundary.{refused_from, result_number, SmallPlace}

-- ---- no refusal has the number 0, nor one above the house's

abbrev pub Small : ℕ → Type 0
Small n = (1 ≤ n) × (n ≤ 106)

small_if : (n : ℕ) → (ltb n 1 || ltb 106 n) ≡ false → Small n
small_if n e = let t = neither (ltb n 1) (ltb 106 n) e in (ltb-false n 1 t.0, ltb-false 106 n t.1)

pub refusal_small : (x : Refusal) → Small (refusal_number x)
refusal_small x =
    small_if (refusal_number x) (elim x as (λ (k : Refusal). (ltb (refusal_number k) 1 || ltb 106 (refusal_number k)) ≡ false) [
      | BadId ↦ refl
      | BadPath ↦ refl
      | LowNumber ↦ refl
      | OtherParent ↦ refl
      | OtherContent ↦ refl
      | DocumentsFull ↦ refl
      | RevisionsFull ↦ refl
      | SequenceSpent ↦ refl
      | NotAParent ↦ refl
      | AlreadyKnown ↦ refl
      | LastNumber ↦ refl
      | NoDocument ↦ refl
      | NoRevision ↦ refl
      | ShortBuffer ↦ refl
      | BadAsked ↦ refl
      | NotJson ↦ refl
      | BadMember ↦ refl
      | OtherRevisions ↦ refl
      | UnwritableId ↦ refl
    ])

pub fault_small : (f : Fault) → Small (fault_number f)
fault_small f =
    small_if (fault_number f) (elim f as (λ (k : Fault). (ltb (fault_number k) 1 || ltb 106 (fault_number k)) ≡ false) [ TooShort ↦ refl | BadEdition ↦ refl | BadHead ↦ refl | BadContents ↦ refl | BadSequence ↦ refl | BadRow ↦ refl | BadParent ↦ refl ])

none_at_zero : (n : ℕ) → Small n → n ≡ 0 → ⊥
none_at_zero n h e = omega arith

pub no_refusal : (x : Refusal) → refusal_number x ≡ 0 → ⊥
no_refusal x = none_at_zero (refusal_number x) (refusal_small x)

pub no_fault : (f : Fault) → fault_number f ≡ 0 → ⊥
no_fault f = none_at_zero (fault_number f) (fault_small f)

-- ---- the result of a refusal

result_place : (n p : ℕ) → 1 ≤ n → refused_from + n * 4294967296 + p ≡ result_number (record { refusal = n; value = p })
result_place zero p h = absurd (omega arith)
result_place (suc n) p h = refl

pub result_refused : (n : ℕ) → 1 ≤ n → refused_from + n * 4294967296 ≡ result_number (refused n)
result_refused n h = (let e : refused_from + n * 4294967296 ≡ refused_from + n * 4294967296 + 0 = omega arith in e) ∙ result_place n 0 h

-- the refused case of any answer: its number is that of the refusal
pub refused_case : {A : Type 0} (number : A → Numbered) (a b : A) (n : Refusal) (k r : ℕ) → a ≡ b → number b ≡ refused (refusal_number n)
    → k ≡ refusal_number n → r ≡ result_number (refused k) → r ≡ result_number (number a)
refused_case number a b n k r e f p q = q ∙ (ap (λ (m : ℕ). result_number (refused m)) p ∙ (ap (λ (m : Numbered). result_number m) (sym f) ∙ ap (λ x. result_number (number x)) (sym e)))

pub place_small : (a : Result (Unit {0}) (Fault × ℕ)) (f : Fault) (p : ℕ) → a ≡ Err (f, p) → SmallPlace a → p < 4294967296
place_small a f p e h = rw e at h

pub loaded_case : (a : Result (Unit {0}) (Fault × ℕ)) (f : Fault) (k p r : ℕ) → a ≡ Err (f, p) → k ≡ fault_number f → 20 ≤ k → r ≡ result_number (refused k) → r + p ≡ result_number (loaded_number a)
loaded_case a f k p r e g h q =
    let m : r ≡ refused_from + k * 4294967296 = q ∙ sym (result_refused k (omega arith)) in
    let s : r + p ≡ refused_from + k * 4294967296 + p = omega arith in
    s ∙ (result_place k p (omega arith) ∙ rw (g, e) refl)
