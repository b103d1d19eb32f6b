-- What a value's bytes say of it, at the places where it stands. Assumes nothing.
use mathlib.Core.Bool.{false}
use mathlib.Core.List.{List, [], ◌∷◌, ◌++◌}
use Rattle.std.specs.Prelude.{Option, None, Some}
use mathlib.Core.Path.{◌≡◌, refl, sym, ap, ◌∙◌}
use Prim.Native.Nat.{ℕ, zero, suc, ◌+◌, ◌-◌}
use native.Mathlib.Omega.{arith}
use borrow.Author.Tests.{ne_eqb}
use lib.Dec.{eqb}
use lib.ListN.{take, drop, get_or}
use Rattle.rules.specs.Choice.{maybe}
use Rattle.json_text.specs.Tight.{value}
use Rattle.json_text.specs.Members.{Form, plain, Json, spelt, form_of, value_of}
use Rattle.json_text.proofs.WsLaws.{at_byte, byte_at}
use Rattle.values.proofs.ValueLaws.{object_first, array_first}
use Rattle.values.proofs.ReadingLaws.{reads_object, reads_array}
use Rattle.values.proofs.ItemLaws.{cut_is}
use Rattle.values.proofs.FirstLaws.{plain_at, scalar_is_string, QuotedAt, quoted_at}
use Rattle.lines.specs.Said.{but_last, unquote, plain_text, of_string, of_plain}
use Rattle.takes.specs.Spots.{ValueAt}

but_last_last : (w : List ℕ) (c : ℕ) → but_last (w ++ (c ∷ [])) ≡ w
unfolding but_last
but_last_last [] c = refl
but_last_last (x ∷ []) c = refl
but_last_last (x ∷ y ∷ w) c = ap (λ (l : List ℕ). x ∷ l) (but_last_last (y ∷ w) c)

unquoted : (w : List ℕ) → unquote (34 ∷ (w ++ (34 ∷ []))) ≡ Some w
unfolding unquote
unquoted w = ap Some (but_last_last w 34)

-- f makes nothing of what begins with c
first : {B : Type 0} (f : List ℕ → Option B) (c : ℕ) (l : List ℕ) (n : ℕ) → f [] ≡ None → ((t : List ℕ) → f (c ∷ t) ≡ None) → f (take n (c ∷ l)) ≡ None
first f c l zero x y = x
first f c l (suc n) x y = y (take n l)

-- a value that begins with a quotation mark is a string
pub record IsString (d : ℕ) (s : List ℕ) (v e : ℕ) (j : Json (suc d)) : Type 0 where
  pub is : j ≡ plain (take (e - v) (drop v s))
  pub quotes : QuotedAt s v e

module _ {d : ℕ} {s : List ℕ} {v e : ℕ} where
  pub object_brace : (ms : List (List ℕ × Json d)) → ValueAt (suc d) (Form.object ms) s v e → (z : List ℕ) × (drop v s ≡ 123 ∷ z)
  unfolding value_of form_of
  object_brace ms a = object_first (value d) (drop v s) (drop e s) (reads_object d ms (drop v s) (drop e s) a.is)

  pub array_bracket : (vs : List (Json d)) → ValueAt (suc d) (Form.array vs) s v e → (z : List ℕ) × (drop v s ≡ 91 ∷ z)
  unfolding value_of form_of
  array_bracket vs a = array_first (value d) (drop v s) (drop e s) (reads_array d vs (drop v s) (drop e s) a.is)

  pub is_string : (j : Json (suc d)) → ValueAt (suc d) j s v e → get_or s v 0 ≡ 34 → IsString d s v e j
  is_string j a q =
      let p = plain_at d j s v e a.from (λ z. omega (arith, q, z)) (λ z. omega (arith, q, z)) a.is in
      record {
        is = p.0;
        quotes = quoted_at s v e a.from a.within (scalar_is_string (drop v s) (drop e s) (drop (v + 1) s) (at_byte s v 34 q (omega arith)) p.1);
      }

  -- what f makes of a string
  pub string_said : {B : Type 0} (f : List ℕ → Option B) (j : Json (suc d)) → ValueAt (suc d) j s v e → get_or s v 0 ≡ 34
      → of_string f j ≡ f (take (e - 1 - (v + 1)) (drop (v + 1) s))
  unfolding of_string
  string_said {B} f j a q =
      let t = is_string j a q in
      ap (λ (x : Form (Json d)). maybe {B = Option B} None (λ (l : List ℕ). maybe None f (unquote l)) (plain_text x)) t.is
      ∙ ap (maybe None f) (ap unquote t.quotes.text ∙ unquoted (take (e - 1 - (v + 1)) (drop (v + 1) s)))

  -- a value that is no string
  pub no_string : {B : Type 0} (f : List ℕ → Option B) (j : Json (suc d)) → ValueAt (suc d) j s v e → (get_or s v 0 ≡ 34 → ⊥) → of_string f j ≡ None
  unfolding of_string value_of form_of spelt unquote
  no_string f (Form.object ms) a q = refl
  no_string f (Form.array vs) a q = refl
  no_string f (plain []) a q = refl
  no_string f (plain (c ∷ t)) a q =
      let g : eqb c 34 ≡ false = ne_eqb c 34 (λ h. q (byte_at s v c (t ++ drop e s) a.is.1 ∙ h)) in
      rw g

  -- what f makes of a plain value, where it makes nothing of brackets
  pub plain_said : {B : Type 0} (f : List ℕ → Option B) → f [] ≡ None → ((t : List ℕ) → f (123 ∷ t) ≡ None) → ((t : List ℕ) → f (91 ∷ t) ≡ None)
      → (j : Json (suc d)) → ValueAt (suc d) j s v e → of_plain f j ≡ f (take (e - v) (drop v s))
  unfolding of_plain value_of form_of spelt
  plain_said f x y z (plain t) a = ap f (cut_is s t v e a.from a.is.1)
  plain_said f x y z (Form.object ms) a = let b = object_brace ms a in sym (ap (λ (l : List ℕ). f (take (e - v) l)) b.1 ∙ first f 123 b.0 (e - v) x y)
  plain_said f x y z (Form.array vs) a = let b = array_bracket vs a in sym (ap (λ (l : List ℕ). f (take (e - v) l)) b.1 ∙ first f 91 b.0 (e - v) x z)
