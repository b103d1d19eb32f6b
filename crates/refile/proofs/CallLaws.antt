-- A call's house refusals come first; and what a call that asks says. Assumes nothing.
use mathlib.Core.Path.{◌≡◌, refl, sym, ap, ◌∙◌}
use mathlib.Core.Bool.{Bool, true, false, not}
use mathlib.Core.List.{List, [], ◌∷◌, ◌++◌}
use Rattle.std.specs.Prelude.{Option, None, Some, Result, Ok, Err}
use Prim.Native.Nat.{ℕ, zero, suc, ◌<◌}
use lib.ListN.{length}
use borrow.Author.Tests.{eqb-true, eq-eqb, ne_eqb}
use lib.Dec.{eqb}
use native.Mathlib.Omega.{arith}
use Rattle.rules.specs.Answer.{Numbered, refused}
use Rattle.rules.specs.Choice.{pick, first_that}
use Rattle.rules.specs.Layout.{head_of}
use Rattle.rules.proofs.OutcomeLaws.{fixed}
use Rattle.store.specs.Storage.{store_size, IsStored}
use Rattle.codec.specs.Codec.{Tells}
use Rattle.reads.proofs.AnswerLaws.{first_past, first_some}
use Rattle.refile.specs.declared.number.HouseRefusal.{HouseRefusal}
use Rattle.refile.specs.declared.number.HouseRefusal.TheVariants.{BadReplica, BadKind, BadLabel, BadFlag, BadHash, BadNoParent, BadStart}
use Rattle.refile.specs.House.{house_number, first_house, House}
use Rattle.refile.specs.Boundary.{refused_from, result_number, CCall, outcome, Calls, Keeps, lent_call, Lent, Says, bad_replica, bad_start, lent_house}

-- ---- the first house refusal that holds

module _ (house : List (Bool × ℕ)) {q : Result (Unit {0}) HouseRefusal} (h : House house q) where
  pub none_first : q ≡ Ok tt → first_that house ≡ None
  none_first e = h.first ∙ ap first_house e

  pub house_first : {x : HouseRefusal} → q ≡ Err x → first_that house ≡ Some (house_number x)
  house_first e = h.first ∙ ap first_house e

-- none has the number 0
pub house_some : (x : HouseRefusal) → house_number x ≡ 0 → ⊥
house_some x = elim x as (λ (k : HouseRefusal). house_number k ≡ 0 → ⊥) [
  | BadReplica ↦ λ e. omega arith
  | BadKind ↦ λ e. omega arith
  | BadLabel ↦ λ e. omega arith
  | BadFlag ↦ λ e. omega arith
  | BadHash ↦ λ e. omega arith
  | BadNoParent ↦ λ e. omega arith
  | BadStart ↦ λ e. omega arith
]

-- of no house refusal
pub no_house : first_that {A = ℕ} [] ≡ None
unfolding first_that
no_house = refl

pub clear : (t : Bool × ℕ) (ts : List (Bool × ℕ)) → first_that (t ∷ ts) ≡ None → (t.0 ≡ false) × (first_that ts ≡ None)
unfolding first_that
clear t ts = go t.0
  where
    go : (b : Bool) → pick b (Some t.1) (first_that ts) ≡ None → (b ≡ false) × (first_that ts ≡ None)
    go true e = let z : ◌≡◌ {A = ℕ} 0 1 = cc in absurd (omega arith)
    go false e = (refl, e)

-- of two lists, both
pub first_both : (ts us : List (Bool × ℕ)) → first_that (ts ++ us) ≡ None → (first_that ts ≡ None) × (first_that us ≡ None)
first_both ts us e = go (first_that ts) refl
  where
    go : (o : Option ℕ) → first_that ts ≡ o → (first_that ts ≡ None) × (first_that us ≡ None)
    go None q = (q, sym (first_past ts us q) ∙ e)
    go (Some n) q = let p = first_some ts us n q in absurd (let z : ◌≡◌ {A = ℕ} 0 1 = cc in omega arith)

-- past those that do not hold, and with one that does
module _ (ts us : List (Bool × ℕ)) {q : Result (Unit {0}) HouseRefusal} (h : House ts q) where
  pub past : q ≡ Ok tt → first_that (ts ++ us) ≡ first_that us
  past e = first_past ts us (none_first ts h e)

  pub stop : {x : HouseRefusal} → q ≡ Err x → first_that (ts ++ us) ≡ Some (house_number x)
  stop {x} e = first_some ts us (house_number x) (house_first ts h e)

-- ---- what a call's outcome is

module _ {L : Type 0} (c : CCall L) where
  -- the first house refusal that holds, and what was lent is left
  pub stops : (n : ℕ) → first_that c.house ≡ Some n → outcome c ≡ (refused n, c.lent)
  unfolding outcome
  stops n e = rw e

  -- past all of them, what it does
  pub passes : first_that c.house ≡ None → outcome c ≡ c.does
  unfolding outcome
  passes e = rw e

module _ {L : Type 0} {c : CCall L} {r : ℕ} {buffer : L} where
  -- a call from its outcome
  pub made : {n : Numbered} {left : L} → outcome c ≡ (n, left) → r ≡ result_number n → buffer ≡ left → Calls c r buffer
  made e f g = record { answers = f ∙ sym (ap (λ p. result_number p.0) e); left = g ∙ sym (ap (λ p. p.1) e) }

  -- that its house refuses, and that does what it is there for
  pub refuses : (n : ℕ) → first_that c.house ≡ Some n → r ≡ result_number (refused n) → buffer ≡ c.lent → Calls c r buffer
  refuses n e f g = made (stops c n e) f g

  pub does : first_that c.house ≡ None → {n : Numbered} {left : L} → c.does ≡ (n, left) → r ≡ result_number n → buffer ≡ left → Calls c r buffer
  does e d f g = made (passes c e ∙ d) f g

-- a refusal's result is at or above 2^63
refused_high : (n r : ℕ) → (n ≡ 0 → ⊥) → r ≡ result_number (refused n) → r < refused_from → ⊥
refused_high zero r ne e h = ne refl
refused_high (suc n) r ne e h = omega arith

-- so a refused call has no replica to leave
pub keeps : {L : Type 0} {c : CCall L} (n : ℕ) {r : ℕ} {buffer : L} {replica : List ℕ} → (n ≡ 0 → ⊥) → r ≡ result_number (refused n) → Calls c r buffer → Keeps c r buffer replica
keeps n {r} ne e k = record { calls = k; stands = λ h. absurd (refused_high n r ne e h) }

pub unfit_keeps : {L : Type 0} {c : CCall L} (x : HouseRefusal) {r : ℕ} {buffer : L} {replica : List ℕ} → r ≡ result_number (refused (house_number x)) → Calls c r buffer
    → Keeps c r buffer replica
unfit_keeps x e k = keeps (house_number x) (house_some x) e k

-- and one that accepts leaves one
pub accepts : {L : Type 0} {c : CCall L} {r : ℕ} {buffer : L} {replica : List ℕ} → Calls c r buffer → IsStored replica → Keeps c r buffer replica
accepts c is = record { calls = c; stands = λ h. is }

-- a call has one outcome
pub calls_one : {L : Type 0} {c : CCall L} {x y : ℕ} {s t : L} → Calls c x s → Calls c y t → (x ≡ y) × (s ≡ t)
calls_one p q = (fixed p.answers q.answers, fixed p.left q.left)

pub keeps_one : {L : Type 0} {c : CCall L} {x y : ℕ} {s t : L} {a b : List ℕ} → Keeps c x s a → Keeps c y t b → (x ≡ y) × (s ≡ t)
keeps_one p q = calls_one p.calls q.calls

-- ---- 100 alone

module _ (s : List ℕ) where
  pub bad_size : (length s ≡ store_size → ⊥) → first_that (bad_replica s ∷ []) ≡ Some 100
  unfolding bad_replica first_that
  bad_size ne = rw (ne_eqb (length s) store_size ne)

  pub sized : length s ≡ store_size → first_that (bad_replica s ∷ []) ≡ None
  unfolding bad_replica first_that
  sized e = rw (eq-eqb (length s) store_size e)

-- ---- a buffer that is lent as a replica: 100, then 106

pub not-false : (b : Bool) → not b ≡ false → b ≡ true
not-false true e = refl
not-false false e = let z : ◌≡◌ {A = ℕ} 0 1 = cc in absurd (omega arith)

module _ (s : List ℕ) where
  pub lent_size : (length s ≡ store_size → ⊥) → House (lent_house s) (Err BadReplica)
  unfolding lent_house bad_replica first_that
  lent_size ne = record { first = rw (ne_eqb (length s) store_size ne) }

  pub lent_start : length s ≡ store_size → ((head_of s).edition ≡ 0 → ⊥) → House (lent_house s) (Err BadStart)
  unfolding lent_house bad_replica bad_start first_that
  lent_start e ne = record { first = rw (eq-eqb (length s) store_size e, ne_eqb (head_of s).edition 0 ne) }

  pub lent_fine : length s ≡ store_size → (head_of s).edition ≡ 0 → House (lent_house s) (Ok tt)
  unfolding lent_house bad_replica bad_start first_that
  lent_fine e f = record { first = rw (eq-eqb (length s) store_size e, eq-eqb (head_of s).edition 0 f) }

  -- past both it is a replica
  pub lent_stands : first_that (lent_house s) ≡ None → Lent s → IsStored s
  unfolding lent_house bad_replica bad_start
  lent_stands e l =
      let a = clear (bad_replica s) _ e in
      let b = clear (bad_start s) _ a.1 in
      l (eqb-true (length s) store_size (not-false (eqb (length s) store_size) a.0)) (eqb-true (head_of s).edition 0 (not-false (eqb (head_of s).edition 0) b.0))

-- a call that is lent one, and has the house refusals us besides
module _ {L : Type 0} (s : List ℕ) (us : List (Bool × ℕ)) {lent : L} {o : Numbered × L} {r : ℕ} where
  -- refused by 100 or 106
  pub lent_refuses : {q : Result (Unit {0}) HouseRefusal} {x : HouseRefusal} → House (lent_house s) q → q ≡ Err x → r ≡ result_number (refused (house_number x))
      → Calls (lent_call s us lent o) r lent
  lent_refuses {x = x} h e f = refuses (house_number x) (stop (lent_house s) us h e) f refl

  -- by another
  pub more_refuses : {q : Result (Unit {0}) HouseRefusal} {x : HouseRefusal} → first_that (lent_house s) ≡ None → House us q → q ≡ Err x → r ≡ result_number (refused (house_number x))
      → Calls (lent_call s us lent o) r lent
  more_refuses {x = x} p h e f = refuses (house_number x) (first_past (lent_house s) us p ∙ house_first us h e) f refl

  -- and past all
  pub lent_does : {buffer : L} → first_that (lent_house s) ≡ None → first_that us ≡ None → {n : Numbered} {left : L} → o ≡ (n, left) → r ≡ result_number n → buffer ≡ left
      → Calls (lent_call s us lent o) r buffer
  lent_does p q d e f = does (first_past (lent_house s) us p ∙ q) d e f

-- ---- the calls that ask

pub says_yes : {so : Type 0} {a : Bool} → Tells so a → a ≡ true → Says so 1
says_yes t e = record { yes = λ q. t.yes e; always = λ i. refl; most = omega arith }

pub says_no : {so : Type 0} {a : Bool} → Tells so a → a ≡ false → Says so 0
says_no {so} {a} t e = record { yes = λ q. absurd (omega arith); always = λ i. absurd (never (t.always i)); most = omega arith }
  where
    never : a ≡ true → ⊥
    never q = let z : ◌≡◌ {A = ℕ} 0 1 = cc in omega arith

pub says_one : {so : Type 0} (x y : ℕ) → Says so x → Says so y → x ≡ y
says_one zero zero p q = refl
says_one zero (suc zero) p q = p.always (q.yes refl)
says_one (suc zero) zero p q = sym (q.always (p.yes refl))
says_one (suc zero) (suc zero) p q = refl
says_one zero (suc (suc y)) p q = absurd (omega (arith, q.most))
says_one (suc zero) (suc (suc y)) p q = absurd (omega (arith, q.most))
says_one (suc (suc x)) y p q = absurd (omega (arith, p.most))
