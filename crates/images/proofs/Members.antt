-- A map whose keys ascend: what `find` answers of it is what its list has. Assumes nothing.
use mathlib.Core.Path.{◌≡◌, refl, sym, ap, ap₂, ◌∙◌, subst}
use Rattle.std.specs.declared.cmp.Ordering.TheVariants.{Less, Equal, Greater}
use Rattle.std.specs.declared.cmp.Ordering.{Ordering}
use mathlib.Core.Bool.{Bool, true, false, ◌||◌}
use mathlib.Core.List.{List, [], ◌∷◌, map}
use Rattle.std.specs.Prelude.{Some}
use Rattle.rules.specs.Choice.{any}
use Rattle.rules.specs.Map.{Map, find, Below, Ascending}
use Rattle.rules.proofs.OrderLaws.{TotalOrder, turn_less}
use Rattle.rules.proofs.MapLaws.{none≢some, some_inj, find_lt, find_eq, find_gt, find_below}
use Rattle.images.proofs.Lists.{Each}
use Rattle.images.proofs.Tests.{true≢false}

pub any_map : {A B : Type 0} (f : A → B) (p : B → Bool) (xs : List A) → any p (map f xs) ≡ any (λ x. p (f x)) xs
unfolding any
any_map f p [] = refl
any_map f p (x ∷ xs) = ap (λ (b : Bool). p (f x) || b) (any_map f p xs)

pub any_same : {A : Type 0} (p q : A → Bool) (xs : List A) → Each (λ x. p x ≡ q x) xs → any p xs ≡ any q xs
unfolding any
any_same p q [] h = refl
any_same p q (x ∷ xs) h = ap₂ (λ (a b : Bool). a || b) h.0 (any_same p q xs h.1)

module _ {K A : Type 0} (O : TotalOrder K) where
  -- k is at the head, or in the tail
  pub data Place (k : K) (a : A) (x : K × A) (xs : Map K A) : Type 0 where
    here : k ≡ x.0 → x.1 ≡ a → Place k a x xs
    there : find O.cmp k xs ≡ Some a → Place k a x xs

  pub place : (k : K) (a : A) (x : K × A) (xs : Map K A) → find O.cmp k (x ∷ xs) ≡ Some a → Place k a x xs
  place k a x xs e = go (O.cmp k x.0) refl
    where
      go : (o : Ordering) → O.cmp k x.0 ≡ o → Place k a x xs
      go Less p = absurd (none≢some (sym (find_lt O k x xs p) ∙ e))
      go Equal p = here (O.same k x.0 p) (some_inj (sym (find_eq O k x xs p) ∙ e))
      go Greater p = there (sym (find_gt O k x xs p) ∙ e)

  below_trans : (j k : K) (xs : Map K A) → O.cmp j k ≡ Less → Below O.cmp k xs → Below O.cmp j xs
  below_trans j k [] e b = tt
  below_trans j k (x ∷ xs) e b = O.trans j k x.0 e b

  pub find_head : (x : K × A) (xs : Map K A) → find O.cmp x.0 (x ∷ xs) ≡ Some x.1
  find_head x xs = find_eq O x.0 x xs (O.self x.0)

  -- what the tail has lies above the head
  pub find_later : (k : K) (a : A) (x : K × A) (xs : Map K A) → Ascending O.cmp (x ∷ xs) → find O.cmp k xs ≡ Some a → O.cmp x.0 k ≡ Less
  find_later k a x xs s e = go (O.cmp k x.0) refl
    where
      go : (o : Ordering) → O.cmp k x.0 ≡ o → O.cmp x.0 k ≡ Less
      go Less p = absurd (none≢some (sym (find_below O k xs (below_trans k x.0 xs p s.0)) ∙ e))
      go Equal p = absurd (none≢some (sym (find_below O k xs (rw (O.same k x.0 p) s.0)) ∙ e))
      go Greater p = O.turn k x.0 p

  pub find_tail : (k : K) (a : A) (x : K × A) (xs : Map K A) → Ascending O.cmp (x ∷ xs) → find O.cmp k xs ≡ Some a → find O.cmp k (x ∷ xs) ≡ Some a
  find_tail k a x xs s e = find_gt O k x xs (turn_less O x.0 k (find_later k a x xs s e)) ∙ e

  pub each_find : (P : K × A → Type 0) (xs : Map K A) → Each P xs → (k : K) (a : A) → find O.cmp k xs ≡ Some a → P (k, a)
  unfolding find
  each_find P [] h k a e = absurd (none≢some e)
  each_find P (x ∷ xs) h k a e = go (place k a x xs e) (λ t. each_find P xs h.1 k a t)
    where
      go : Place k a x xs → (find O.cmp k xs ≡ Some a → P (k, a)) → P (k, a)
      go (here p q) f = subst (λ (j : K). P (j, a)) (sym p) (subst (λ (b : A). P (x.0, b)) q h.0)
      go (there t) f = f t

  pub find_each : (P : K × A → Type 0) (xs : Map K A) → Ascending O.cmp xs → ((k : K) (a : A) → find O.cmp k xs ≡ Some a → P (k, a)) → Each P xs
  find_each P [] s f = tt
  find_each P (x ∷ xs) s f =
      (f x.0 x.1 (find_head x xs), find_each P xs s.1 (λ k a e. f k a (find_tail k a x xs s e)))

  -- some entry passes a test
  abbrev pub Somewhere : (K × A → Bool) → Map K A → Type 0
  Somewhere t xs = (k : K) × (a : A) × (find O.cmp k xs ≡ Some a) × (t (k, a) ≡ true)

  pub any_find : (t : K × A → Bool) (xs : Map K A) → Ascending O.cmp xs → any t xs ≡ true → Somewhere t xs
  unfolding any
  any_find t [] s e = absurd (true≢false (sym e))
  any_find t (x ∷ xs) s e = go (t x) refl (λ q. any_find t xs s.1 q)
    where
      later : Somewhere t xs → Somewhere t (x ∷ xs)
      later f = (f.0, f.1, find_tail f.0 f.1 x xs s f.2, f.3)

      go : (b : Bool) → t x ≡ b → (any t xs ≡ true → Somewhere t xs) → Somewhere t (x ∷ xs)
      go true p ih = (x.0, x.1, find_head x xs, p)
      go false p ih = later (ih (sym (ap (λ (b : Bool). b || any t xs) p) ∙ e))

  pub find_any : (t : K × A → Bool) (xs : Map K A) (k : K) (a : A) → find O.cmp k xs ≡ Some a → t (k, a) ≡ true → any t xs ≡ true
  unfolding any find
  find_any t [] k a e p = absurd (none≢some e)
  find_any t (x ∷ xs) k a e p = go (place k a x xs e) (λ q. find_any t xs k a q p)
    where
      go : Place k a x xs → (find O.cmp k xs ≡ Some a → any t xs ≡ true) → (t x || any t xs) ≡ true
      go (here q r) ih =
          let h : t x ≡ true = ap₂ (λ (j : K) (b : A). t (j, b)) (sym q) r ∙ p in
          rw h refl
      go (there q) ih = or-true (t x) (any t xs) (ih q)
        where
          or-true : (b c : Bool) → c ≡ true → (b || c) ≡ true
          or-true true c m = refl
          or-true false c m = m
