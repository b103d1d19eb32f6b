-- What the spots of a line's members say, and what the members do. Assumes nothing.
use mathlib.Core.Bool.{Bool, true, false}
use Rattle.rules.specs.declared.Content.{Content}
use mathlib.Core.List.{List, [], ◌∷◌}
use mathlib.Core.Logic.{◌⊎◌, inl, inr}
use Rattle.std.specs.Prelude.{Option, None, Some, Result, Ok, Err}
use native.Mathlib.Omega.{arith}
use Rattle.std.specs.Option.{ok_or}
use Rattle.std.specs.Result.{result_ok}
use mathlib.Core.Path.{◌≡◌, refl, sym, ap, ◌∙◌}
use Prim.Native.Nat.{ℕ, suc, ◌+◌, ◌-◌}
use borrow.Author.Tests.{eq-eqb, ne_eqb, eqb-true, eqb-false}
use lib.Dec.{eqb}
use lib.ListN.{take, drop, get_or}
use Rattle.rules.specs.declared.Content.TheVariants.{Live, Deleted}
use Rattle.rules.specs.Choice.{pick, maybe}
use Rattle.rules.specs.Order.{order_bytes, order_n, is_equal}
use Rattle.rules.specs.Report.{text}
use Rattle.json_text.specs.Members.{Json}
use Rattle.lines.specs.Said.{once, of_string, of_plain, read_number, all, is_digit}
use Rattle.lines.specs.Take.{read_true, read_label, read_content}
use Rattle.takes.specs.declared.Spot.{Spot}
use Rattle.takes.specs.declared.Spot.TheVariants.{Absent, Once, Repeated}
use Rattle.takes.specs.Spots.{ValueAt, SpotIs, Spots, spot, SpotsAre, Fits, AllFit, string_in, plain_in, part_text, content_in}
use Rattle.takes.proofs.ValueLaws.{is_string, string_said, no_string, plain_said}

-- ---- one spot

module _ (d : ℕ) (s : List ℕ) (vs : List (Json (suc d))) where
  pub spot_fits : (p : Spot) → SpotIs (suc d) s vs p → Fits s p
  spot_fits Absent h = tt
  spot_fits (Once v e) h = (h.2.from, h.2.within, λ q. (is_string h.0 h.2 q).quotes.wide)
  spot_fits Repeated h = tt

  pub said_string : {B : Type 0} (f : List ℕ → Option B) (p : Spot) → SpotIs (suc d) s vs p
      → maybe None (of_string f) (once vs) ≡ maybe None f (part_text s (string_in s p))
  said_string f Absent h = rw h
  said_string {B} f (Once v e) h = ap (λ (l : List (Json (suc d))). maybe {B = Option B} None (of_string f) (once l)) h.1 ∙ go (eqb (get_or s v 0) 34) refl
    where
      go : (b : Bool) → eqb (get_or s v 0) 34 ≡ b → of_string f h.0 ≡ maybe None f (part_text s (pick b (Some (v + 1, e - 1)) None))
      go true q = string_said f h.0 h.2 (eqb-true (get_or s v 0) 34 q)
      go false q = no_string f h.0 h.2 (eqb-false (get_or s v 0) 34 q)
  said_string {B} f Repeated h = ap (λ (l : List (Json (suc d))). maybe {B = Option B} None (of_string f) (once l)) h.3

  pub said_plain : {B : Type 0} (f : List ℕ → Option B) → f [] ≡ None → ((t : List ℕ) → f (123 ∷ t) ≡ None) → ((t : List ℕ) → f (91 ∷ t) ≡ None)
      → (p : Spot) → SpotIs (suc d) s vs p → maybe None (of_plain f) (once vs) ≡ maybe None f (part_text s (plain_in p))
  said_plain f x y z Absent h = rw h
  said_plain {B} f x y z (Once v e) h = ap (λ (l : List (Json (suc d))). maybe {B = Option B} None (of_plain f) (once l)) h.1 ∙ plain_said f x y z h.0 h.2
  said_plain {B} f x y z Repeated h = ap (λ (l : List (Json (suc d))). maybe {B = Option B} None (of_plain f) (once l)) h.3

-- ---- numbers and `true`

pub number_brace : (most : ℕ) (t : List ℕ) → read_number most (123 ∷ t) ≡ None
unfolding read_number all is_digit
number_brace most t = refl

pub number_bracket : (most : ℕ) (t : List ℕ) → read_number most (91 ∷ t) ≡ None
unfolding read_number all is_digit
number_bracket most t = refl

pub number_none : (most : ℕ) → read_number most [] ≡ None
unfolding read_number
number_none most = refl

module _ {d : ℕ} {s : List ℕ} {v e : ℕ} {j : Json (suc d)} (a : ValueAt (suc d) j s v e) where
  label_said : of_plain read_label j ≡ read_label (take (e - v) (drop v s))
  unfolding read_label read_number all is_digit
  label_said = plain_said read_label refl (λ t. refl) (λ t. refl) j a

  true_said : of_plain read_true j ≡ read_true (take (e - v) (drop v s))
  unfolding read_true order_bytes order_n text
  true_said = plain_said read_true refl (λ t. refl) (λ t. refl) j a

module _ (d : ℕ) (s : List ℕ) (ds ls : List (Json (suc d))) where
  pub content_said_lem : (p q : Spot) → SpotIs (suc d) s ds p → SpotIs (suc d) s ls q → read_content ds ls ≡ content_in s p q
  unfolding read_content
  content_said_lem Absent Absent h g = rw (h, g)
  content_said_lem Absent (Once v e) h g = rw (h, g.1) (label_said g.2)
  content_said_lem Absent Repeated h g = rw (h, g.3)
  content_said_lem (Once x y) Absent h g = rw (h.1, g) (true_said h.2)
  content_said_lem (Once x y) (Once v e) h g = rw (h.1, g.1)
  content_said_lem (Once x y) Repeated h g = rw (h.1, g.3)
  content_said_lem Repeated Absent h g = rw (h.3, g)
  content_said_lem Repeated (Once v e) h g = rw (h.3, g.1)
  content_said_lem Repeated Repeated h g = rw (h.3, g.3)

-- ---- all spots

pub all_fit : {d : ℕ} {s : List ℕ} {ms : List (List ℕ × Json (suc d))} {p : Spots} → SpotsAre (suc d) s ms p → AllFit s p
all_fit {d} {s} {ms} {p} h = λ n. spot_fits d s _ (spot p n) (h.are n)

-- ---- the needs of `string_in`, `number_in`, `label_in` and `content_in`

-- what a spot that is read once asks
pub once_fits : (s : List ℕ) (p : Spot) (v e : ℕ) → Fits s p → p ≡ Once v e → Fits s (Once v e)
once_fits s p v e h f = rw f at h

pub no_part : (s : List ℕ) (p : Spot) → (p ≡ Absent) ⊎ (p ≡ Repeated) → None ≡ string_in s p
no_part s p (inl e) = rw e
no_part s p (inr e) = rw e

pub no_quote : (s : List ℕ) (p : Spot) (v e b : ℕ) → p ≡ Once v e → b ≡ get_or s v 0 → (b ≡ 34 → ⊥) → None ≡ string_in s p
no_quote s p v e b f g k = rw (f, ne_eqb (get_or s v 0) 34 (λ q. k (g ∙ q)))

pub a_string : (s : List ℕ) (p : Spot) (v e b : ℕ) → p ≡ Once v e → b ≡ get_or s v 0 → b ≡ 34 → Some (v + 1, e - 1) ≡ string_in s p
a_string s p v e b f g k = rw (f, eq-eqb (get_or s v 0) 34 (sym g ∙ k))

pub no_number : (s : List ℕ) (p : Spot) (most : ℕ) → (p ≡ Absent) ⊎ (p ≡ Repeated) → None ≡ maybe None (read_number most) (part_text s (plain_in p))
no_number s p most (inl e) = rw e
no_number s p most (inr e) = rw e

pub a_number : (s : List ℕ) (p : Spot) (most v e : ℕ) (r : Option ℕ) → p ≡ Once v e → r ≡ read_number most (take (e - v) (drop v s))
    → r ≡ maybe None (read_number most) (part_text s (plain_in p))
a_number s p most v e r f g = rw f g

label_is : (s : List ℕ) (q : Spot) → content_in s Absent q ≡ maybe None (λ n. Some (Live n)) (maybe None (read_number 18446744073709551615) (part_text s (plain_in q)))
unfolding read_label
label_is s Absent = refl
label_is s (Once v e) = refl
label_is s Repeated = refl

pub a_label : (s : List ℕ) (q : Spot) (r : Option ℕ) (n : ℕ) → r ≡ maybe None (read_number 18446744073709551615) (part_text s (plain_in q)) → r ≡ Some n
    → (Some (Live n)) ≡ content_in s Absent q
a_label s q r n f g = sym (label_is s q ∙ ap (maybe None (λ (k : ℕ). Some (Live k))) (sym f ∙ g))

pub no_label : (s : List ℕ) (q : Spot) (r : Option ℕ) → r ≡ maybe None (read_number 18446744073709551615) (part_text s (plain_in q)) → r ≡ None
    → None ≡ content_in s Absent q
no_label s q r f g = sym (label_is s q ∙ ap (maybe None (λ (k : ℕ). Some (Live k))) (sym f ∙ g))

pub deleted_twice : (s : List ℕ) (p q : Spot) → p ≡ Repeated → None ≡ content_in s p q
deleted_twice s p q e = rw e (go q)
  where
    go : (q : Spot) → None ≡ content_in s Repeated q
    go Absent = refl
    go (Once v e) = refl
    go Repeated = refl

pub no_deleted : (s : List ℕ) (p q : Spot) (r : Option Content) → (p ≡ Absent) ⊎ (p ≡ Repeated) → (p ≡ Repeated → ⊥) → r ≡ content_in s Absent q → r ≡ content_in s p q
no_deleted s p q r (inl e) f g = rw e g
no_deleted s p q r (inr e) f g = absurd (f e)

pub both_said : (s : List ℕ) (p q : Spot) (v e : ℕ) → p ≡ Once v e → (q ≡ Absent → ⊥) → None ≡ content_in s p q
both_said s p q v e f g = rw f (go q g)
  where
    go : (q : Spot) → (q ≡ Absent → ⊥) → None ≡ content_in s (Once v e) q
    go Absent g = absurd (g refl)
    go (Once x y) g = refl
    go Repeated g = refl

pub deleted_is : (s : List ℕ) (p q : Spot) (v e : ℕ) (b : Bool) → p ≡ Once v e → q ≡ Absent → b ≡ is_equal (order_bytes (text "true") (take (e - v) (drop v s))) → b ≡ true
    → (Some Deleted) ≡ content_in s p q
unfolding read_true
deleted_is s p q v e b f g h k = rw (f, g, sym h ∙ k)

pub deleted_other : (s : List ℕ) (p q : Spot) (v e : ℕ) (b : Bool) → p ≡ Once v e → q ≡ Absent → b ≡ is_equal (order_bytes (text "true") (take (e - v) (drop v s))) → b ≡ false
    → None ≡ content_in s p q
unfolding read_true
deleted_other s p q v e b f g h k = rw (f, g, sym h ∙ k)

-- ---- what a refusal in place of None tells

pub none_ok : {A E : Type 0} {o : Option A} {err e : E} {r : Result A E} → r ≡ ok_or o err → r ≡ Err e → (o ≡ None) × (e ≡ err)
none_ok {A} {E} {o} {err} {e} p q = go o (sym p ∙ q)
  where
    go : (o : Option A) → ok_or o err ≡ Err e → (o ≡ None) × (e ≡ err)
    go None q = (refl, cc)
    go (Some x) q = let z : ◌≡◌ {A = ℕ} 0 1 = cc in absurd (omega arith)

pub some_ok : {A E : Type 0} {o : Option A} {r : Result A E} {x : A} → o ≡ result_ok r → r ≡ Ok x → o ≡ Some x
some_ok p q = rw q at p
