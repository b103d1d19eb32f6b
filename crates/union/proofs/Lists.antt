-- Membership in lists put together, and a test over a list. Assumes nothing.
use mathlib.Core.Path.{◌≡◌, refl, sym, ap, ◌∙◌}
use mathlib.Core.Bool.{Bool, true, false, true≢false}
use mathlib.Core.List.{List, [], ◌∷◌, ◌++◌, map}
use mathlib.Core.Logic.{◌⊎◌, inl, inr}
use Rattle.rules.specs.Choice.{any}
use Rattle.rules.specs.Union.{In}

pub in_left : {A : Type 0} (x : A) (xs ys : List A) → In x xs → In x (xs ++ ys)
in_left x [] ys m = absurd m
in_left x (y ∷ xs) ys (inl q) = inl q
in_left x (y ∷ xs) ys (inr m) = inr (in_left x xs ys m)

pub in_right : {A : Type 0} (x : A) (xs ys : List A) → In x ys → In x (xs ++ ys)
in_right x [] ys m = m
in_right x (y ∷ xs) ys m = inr (in_right x xs ys m)

pub in_cases : {A : Type 0} (x : A) (xs ys : List A) → In x (xs ++ ys) → In x xs ⊎ In x ys
in_cases x [] ys m = inr m
in_cases x (y ∷ xs) ys (inl q) = inl (inl q)
in_cases x (y ∷ xs) ys (inr m) = elim (in_cases x xs ys m) [ inl a ↦ inl (inr a) | inr b ↦ inr b ]

pub in_map : {A B : Type 0} (f : A → B) (x : A) (xs : List A) → In x xs → In (f x) (map f xs)
in_map f x [] m = absurd m
in_map f x (y ∷ xs) (inl q) = inl (ap f q)
in_map f x (y ∷ xs) (inr m) = inr (in_map f x xs m)

pub map_in : {A B : Type 0} (f : A → B) (y : B) (xs : List A) → In y (map f xs) → (x : A) × In x xs × (y ≡ f x)
map_in f y [] m = absurd m
map_in f y (x ∷ xs) (inl q) = (x, inl refl, q)
map_in f y (x ∷ xs) (inr m) = let t = map_in f y xs m in (t.0, inr t.1, t.2)

-- ---- a test over a list

pub any_out : {A : Type 0} (p : A → Bool) (xs : List A) (x : A) → any p xs ≡ false → In x xs → p x ≡ false
unfolding any
any_out p [] x e m = absurd m
any_out {A} p (y ∷ ys) x e m = go (p y) refl m (λ t. any_out p ys x t)
  where
    go : (b : Bool) → p y ≡ b → In x (y ∷ ys) → (any p ys ≡ false → In x ys → p x ≡ false) → p x ≡ false
    go true q m ih = absurd (true≢false (sym (rw q refl) ∙ e))
    go false q (inl s) ih = ap p s ∙ q
    go false q (inr s) ih = ih (sym (rw q refl) ∙ e) s

pub any_none : {A : Type 0} (p : A → Bool) (xs : List A) → ((x : A) → In x xs → p x ≡ false) → any p xs ≡ false
unfolding any
any_none p [] h = refl
any_none p (y ∷ ys) h = rw (h y (inl refl)) (any_none p ys (λ x m. h x (inr m)))
