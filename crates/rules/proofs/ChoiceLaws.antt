-- Tests put together, and the first of several conditions that holds. Assumes nothing.
use mathlib.Core.Path.{◌≡◌, refl, sym, ap, ◌∙◌}
use mathlib.Core.Bool.{Bool, true, false, ◌||◌, true≢false}
use mathlib.Core.List.{List, [], ◌∷◌, ◌++◌}
use mathlib.Core.Logic.{inl, inr}
use Rattle.std.specs.Prelude.{None, Some}
use Rattle.rules.specs.Choice.{pick, first_that}
use Rattle.rules.specs.Union.{In}
use Rattle.rules.proofs.MapLaws.{none≢some, some_inj}

-- ---- tests put together

pub or_left : (a b : Bool) → (a || b) ≡ false → a ≡ false
or_left true b e = absurd (true≢false e)
or_left false b e = refl

pub or_right : (a b : Bool) → (a || b) ≡ false → b ≡ false
or_right true b e = absurd (true≢false e)
or_right false b e = e

pub neither : (a b : Bool) → (a || b) ≡ false → (a ≡ false) × (b ≡ false)
neither a b e = (or_left a b e, or_right a b e)

-- ---- the first condition that holds

module _ {A : Type 0} where
  -- no condition holds
  abbrev pub NoneHolds : List (Bool × A) → Type 0
  NoneHolds [] = Unit {0}
  NoneHolds (t ∷ ts) = (t.0 ≡ false) × NoneHolds ts

  pub none_holds : (ts : List (Bool × A)) → first_that ts ≡ None → NoneHolds ts
  unfolding first_that
  none_holds [] e = tt
  none_holds (t ∷ ts) e = go t.0 refl (λ q. none_holds ts q)
    where
      go : (b : Bool) → t.0 ≡ b → (first_that ts ≡ None → NoneHolds ts) → NoneHolds (t ∷ ts)
      go true p ih = absurd (none≢some (sym e ∙ ap (λ (b : Bool). pick b (Some t.1) (first_that ts)) p))
      go false p ih = (p, ih (sym (ap (λ (b : Bool). pick b (Some t.1) (first_that ts)) p) ∙ e))

  pub holds_none : (ts : List (Bool × A)) → NoneHolds ts → first_that ts ≡ None
  unfolding first_that
  holds_none [] h = refl
  holds_none (t ∷ ts) h = ap (λ (b : Bool). pick b (Some t.1) (first_that ts)) h.0 ∙ holds_none ts h.1

  -- a is what the first condition that holds gives
  pub record IsFirst (ts : List (Bool × A)) (a : A) : Type 0 where
    pub before : List (Bool × A)
    pub after : List (Bool × A)
    pub split : ts ≡ before ++ ((true, a) ∷ after)
    pub earlier : NoneHolds before

  pub first_is : (ts : List (Bool × A)) (a : A) → first_that ts ≡ Some a → IsFirst ts a
  unfolding first_that
  first_is [] a e = absurd (none≢some e)
  first_is (t ∷ ts) a e = go t.0 refl (λ q. first_is ts a q)
    where
      go : (b : Bool) → t.0 ≡ b → (first_that ts ≡ Some a → IsFirst ts a) → IsFirst (t ∷ ts) a
      go true p ih =
          let q : t.1 ≡ a = some_inj (sym (ap (λ (b : Bool). pick b (Some t.1) (first_that ts)) p) ∙ e) in
          record { before = []; after = ts; split = ap {B = List (Bool × A)} (λ x. x ∷ ts) (λ i. (p i, q i)); earlier = tt }
      go false p ih =
          let f = ih (sym (ap (λ (b : Bool). pick b (Some t.1) (first_that ts)) p) ∙ e) in
          record { before = t ∷ f.before; after = f.after; split = ap {B = List (Bool × A)} (λ l. t ∷ l) f.split; earlier = (p, f.earlier) }

  pub is_first : (ts : List (Bool × A)) (a : A) → IsFirst ts a → first_that ts ≡ Some a
  unfolding first_that
  is_first ts a f = ap first_that f.split ∙ go f.before f.earlier
    where
      go : (xs : List (Bool × A)) → NoneHolds xs → first_that (xs ++ ((true, a) ∷ f.after)) ≡ Some a
      go [] h = refl
      go (x ∷ xs) h =
          ap (λ (b : Bool). pick b (Some x.1) (first_that (xs ++ ((true, a) ∷ f.after)))) h.0 ∙ go xs h.1

  -- what is first of them holds
  pub first_holds : (ts : List (Bool × A)) (a : A) → first_that ts ≡ Some a → In (true, a) ts
  unfolding first_that
  first_holds [] a e = absurd (none≢some e)
  first_holds (t ∷ ts) a e = go t.0 refl e (λ q. first_holds ts a q)
    where
      go : (b : Bool) → t.0 ≡ b → pick b (Some t.1) (first_that ts) ≡ Some a → (first_that ts ≡ Some a → In (true, a) ts) → In (true, a) (t ∷ ts)
      go true q e ih = inl (λ i. (sym q i, sym (some_inj e) i))
      go false q e ih = inr (ih e)
