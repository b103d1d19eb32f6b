-- Texts as they are put out, in the grammar: numbers, strings, and lists without white space. Assumes nothing.
use mathlib.Core.Path.{◌≡◌, refl, ap}
use mathlib.Core.Bool.{Bool, true, false, not, ◌&&◌, ◌||◌, true≢false}
use mathlib.Core.List.{List, [], ◌∷◌, ◌++◌, append_assoc}
use mathlib.Core.Logic.{◌⊎◌, inl, inr}
use Rattle.std.specs.Prelude.{None, Some}
use Prim.Native.Nat.{ℕ, ◌≤◌, ◌<◌}
use native.Mathlib.Omega.{arith}
use lib.Dec.{eqb, leb}
use lib.ListN.{length}
use borrow.Author.Tests.{leb-true, eqb-true, eqb-false, le-leb, ne_eqb}
use Rattle.rules.specs.Choice.{pick, any}
use Rattle.rules.specs.Report.{text}
use Rattle.rules.proofs.ChoiceLaws.{or_left, or_right}
use Rattle.rules.proofs.MapLaws.{none≢some}
use Rattle.json_text.specs.Grammar as grammar
use Rattle.json_text.specs.Grammar.{Rule, byte, range, ◌then◌, ◌or◌, option, many, ws, unescaped, char, string, literal, digit, int, number, scalar}
use Rattle.json_text.specs.Members.{spelt, others, items, member_of, object_of, array_of}
use Rattle.json_text.specs.Tight.{begin_array, end_array, begin_object, end_object, name_separator, value_separator}
use Rattle.json_text.proofs.WsLaws.{lt_or_ge}
use Rattle.lines.specs.Said.{all, quote, quoted, is_digit, is_empty, spare_zero, decimal_value, read_number, is_hex_digit, hex_value, read_hash}
use Rattle.lines.specs.Take.{is_writable, unwritable}
use Rattle.lines.specs.Put.{member_text, and_more, listed}
use Rattle.lines.proofs.SaidLaws.{and_left, and_right}

-- ---- strings

-- a byte that can be written
record Writable (c : ℕ) : Type 0 where
  low : 32 ≤ c
  high : c ≤ 126
  no34 : c ≡ 34 → ⊥
  no92 : c ≡ 92 → ⊥

writable : (c : ℕ) → not (is_writable c) ≡ false → Writable c
unfolding is_writable
writable c e = go (eqb c 34) refl (eqb c 92) refl (leb 32 c) refl (leb c 126) refl e
  where
    go : (p : Bool) → eqb c 34 ≡ p → (q : Bool) → eqb c 92 ≡ q → (l : Bool) → leb 32 c ≡ l → (h : Bool) → leb c 126 ≡ h
        → not (not p && (not q && (l && h))) ≡ false → Writable c
    go true ep q eq l el h eh e = absurd (true≢false e)
    go false ep true eq l el h eh e = absurd (true≢false e)
    go false ep false eq false el h eh e = absurd (true≢false e)
    go false ep false eq true el false eh e = absurd (true≢false e)
    go false ep false eq true el true eh e =
        record { low = leb-true 32 c el; high = leb-true c 126 eh; no34 = eqb-false c 34 ep; no92 = eqb-false c 92 eq }

pub writable_small : (c : ℕ) → not (is_writable c) ≡ false → c < 256
writable_small c e = let h = (writable c e).high in omega arith

pub writable_visible : (c : ℕ) → not (is_writable c) ≡ false → 32 ≤ c
writable_visible c e = (writable c e).low

char_writable : (c : ℕ) (a : List ℕ) → not (is_writable c) ≡ false → char (c ∷ a) a
unfolding char unescaped ◌or◌ range
char_writable c a e = inl (go (lt_or_ge c 34) (lt_or_ge c 92) (writable c e))
  where
    go : (c < 34) ⊎ (34 ≤ c) → (c < 92) ⊎ (92 ≤ c) → Writable c → unescaped (c ∷ a) a
    go (inl l) m w = let h = w.low in inl (c, (h, (omega arith, refl)))
    go (inr l) (inl m) w = inr (inl (c, (ne w.no34, (omega arith, refl))))
      where
        ne : (c ≡ 34 → ⊥) → 35 ≤ c
        ne n = go2 (lt_or_ge c 35)
          where
            go2 : (c < 35) ⊎ (35 ≤ c) → 35 ≤ c
            go2 (inl x) = absurd (n (omega arith))
            go2 (inr x) = x
    go (inr l) (inr m) w = let h = w.high in inr (inr (inl (c, (ne w.no92, (omega arith, refl)))))
      where
        ne : (c ≡ 92 → ⊥) → 93 ≤ c
        ne n = go2 (lt_or_ge c 93)
          where
            go2 : (c < 93) ⊎ (93 ≤ c) → 93 ≤ c
            go2 (inl x) = absurd (n (omega arith))
            go2 (inr x) = x

chars_writable : (t b : List ℕ) → unwritable t ≡ false → many char ((t ++ (quote ∷ [])) ++ b) (quote ∷ b)
unfolding unwritable any
chars_writable [] b e = grammar.none
chars_writable (c ∷ t) b e =
    grammar.more {b = (t ++ (quote ∷ [])) ++ b} (char_writable c ((t ++ (quote ∷ [])) ++ b) (or_left _ _ e)) (chars_writable t b (or_right (not (is_writable c)) _ e))

-- the text of writable bytes between quotation marks
pub string_quoted : (t b : List ℕ) → unwritable t ≡ false → string (quoted t ++ b) b
unfolding string ◌then◌ byte quoted
string_quoted t b e = ((t ++ (quote ∷ [])) ++ b, (refl, (quote ∷ b, (chars_writable t b e, refl))))

pub quoted_spelt : (t b : List ℕ) → unwritable t ≡ false → spelt string (quoted t) (quoted t ++ b) b
unfolding spelt
quoted_spelt t b e = (string_quoted t b e, refl)

pub quoted_scalar : (t b : List ℕ) → unwritable t ≡ false → spelt scalar (quoted t) (quoted t ++ b) b
unfolding spelt scalar ◌or◌
quoted_scalar t b e = (inr (inr (string_quoted t b e)), refl)

pub unwritable_append : (a b : List ℕ) → unwritable a ≡ false → unwritable b ≡ false → unwritable (a ++ b) ≡ false
unfolding unwritable any
unwritable_append [] b e f = f
unwritable_append (c ∷ a) b e f =
    let g : not (is_writable c) ≡ false = or_left _ _ e in rw g (unwritable_append a b (or_right (not (is_writable c)) _ e) f)

range_writable : (c : ℕ) → 32 ≤ c → c ≤ 126 → (c ≡ 34 → ⊥) → (c ≡ 92 → ⊥) → is_writable c ≡ true
unfolding is_writable
range_writable c l h p q = rw (ne_eqb c 34 p, ne_eqb c 92 q, le-leb 32 c l, le-leb c 126 h) refl

-- ---- digits

record IsDigit (c : ℕ) : Type 0 where
  low : 48 ≤ c
  high : c ≤ 57

is_digit_lem : (c : ℕ) → is_digit c ≡ true → IsDigit c
unfolding is_digit
is_digit_lem c e = record { low = leb-true 48 c (and_left _ _ e); high = leb-true c 57 (and_right (leb 48 c) _ e) }

digit_writable : (c : ℕ) → is_digit c ≡ true → is_writable c ≡ true
digit_writable c e = let d = is_digit_lem c e in let l = d.low in let h = d.high in range_writable c (omega arith) (omega arith) (λ z. omega arith) (λ z. omega arith)

hex_writable : (c : ℕ) → is_hex_digit c ≡ true → is_writable c ≡ true
unfolding is_hex_digit
hex_writable c e = go (is_digit c) refl e
  where
    go : (d : Bool) → is_digit c ≡ d → (d || (leb 97 c && leb c 102)) ≡ true → is_writable c ≡ true
    go true q e = digit_writable c q
    go false q e =
        let l = leb-true 97 c (and_left _ _ e) in
        let h = leb-true c 102 (and_right (leb 97 c) _ e) in
        range_writable c (omega arith) (omega arith) (λ z. omega arith) (λ z. omega arith)

all_writable : (p : ℕ → Bool) → ((c : ℕ) → p c ≡ true → is_writable c ≡ true) → (t : List ℕ) → all p t ≡ true → unwritable t ≡ false
unfolding unwritable any all
all_writable p f [] e = refl
all_writable p f (c ∷ t) e = rw (f c (and_left _ _ e)) (all_writable p f t (and_right (p c) _ e))

-- what is read as a number
record Digits (t : List ℕ) : Type 0 where
  filled : is_empty t ≡ false
  digits : all is_digit t ≡ true
  tight : spare_zero t ≡ false

number_digits : (most : ℕ) (t : List ℕ) (v : ℕ) → read_number most t ≡ Some v → Digits t
unfolding read_number
number_digits most t v e = go (is_empty t) refl (all is_digit t) refl (spare_zero t) refl (leb (decimal_value t) most) e
  where
    go : (p : Bool) → is_empty t ≡ p → (q : Bool) → all is_digit t ≡ q → (z : Bool) → spare_zero t ≡ z → (l : Bool)
        → pick (not p && (q && (not z && l))) (Some (decimal_value t)) None ≡ Some v → Digits t
    go true ep q eq z ez l e = absurd (none≢some e)
    go false ep false eq z ez l e = absurd (none≢some e)
    go false ep true eq true ez l e = absurd (none≢some e)
    go false ep true eq false ez l e = record { filled = ep; digits = eq; tight = ez }

pub number_writable : (most : ℕ) (t : List ℕ) (v : ℕ) → read_number most t ≡ Some v → unwritable t ≡ false
number_writable most t v e = all_writable is_digit digit_writable t (number_digits most t v e).digits

many_digit : (t b : List ℕ) → all is_digit t ≡ true → many digit (t ++ b) b
unfolding all digit range
many_digit [] b e = grammar.none
many_digit (c ∷ t) b e =
    let d = is_digit_lem c (and_left _ _ e) in
    grammar.more {b = t ++ b} (c, (d.low, (d.high, refl))) (many_digit t b (and_right (is_digit c) _ e))

digits_int : (t b : List ℕ) → Digits t → int (t ++ b) b
unfolding int ◌or◌ byte range ◌then◌ all spare_zero
digits_int [] b d = absurd (true≢false d.filled)
digits_int (c ∷ t) b d = go (eqb c 48) refl t d.digits d.tight
  where
    go : (z : Bool) → eqb c 48 ≡ z → (t : List ℕ) → all is_digit (c ∷ t) ≡ true → (z && not (is_empty t)) ≡ false → int ((c ∷ t) ++ b) b
    go true e [] h f = inl (ap (λ (x : ℕ). x ∷ b) (eqb-true c 48 e))
    go true e (x ∷ t) h f = absurd (true≢false f)
    go false e t h f =
        let n = is_digit_lem c (and_left _ _ h) in
        inr (t ++ b, ((c, (above n.low (eqb-false c 48 e), (n.high, refl))), many_digit t b (and_right (is_digit c) _ h)))
      where
        above : 48 ≤ c → (c ≡ 48 → ⊥) → 49 ≤ c
        above l n = by (lt_or_ge c 49)
          where
            by : (c < 49) ⊎ (49 ≤ c) → 49 ≤ c
            by (inl x) = absurd (n (omega arith))
            by (inr x) = x

pub number_scalar : (most : ℕ) (t : List ℕ) (v : ℕ) → read_number most t ≡ Some v → (b : List ℕ) → spelt scalar t (t ++ b) b
unfolding spelt scalar ◌or◌ number ◌then◌ option
number_scalar most t v e b =
    (inr (inl (t ++ b, (inl refl, (b, (digits_int t b (number_digits most t v e), (b, (inl refl, inl refl))))))), refl)

pub hash_writable : (t h : List ℕ) → read_hash t ≡ Some h → unwritable t ≡ false
unfolding read_hash
hash_writable t h e = go (eqb (length t) 32) (all is_hex_digit t) refl e
  where
    go : (p q : Bool) → all is_hex_digit t ≡ q → pick (p && q) (Some (hex_value t)) None ≡ Some h → unwritable t ≡ false
    go false q eq e = absurd (none≢some e)
    go true false eq e = absurd (none≢some e)
    go true true eq e = all_writable is_hex_digit hex_writable t eq

-- `true`
pub true_scalar : (b : List ℕ) → spelt scalar (text "true") (text "true" ++ b) b
unfolding spelt scalar literal ◌or◌ ◌then◌ byte text
true_scalar b = (inl (inr (inr (114 ∷ 117 ∷ 101 ∷ b, (refl, (117 ∷ 101 ∷ b, (refl, (101 ∷ b, (refl, refl)))))))), refl)

-- ---- lists

-- texts that are the items of a list, whatever follows
abbrev pub Shown : {A : Type 0} → (A → Rule) → List A → List (List ℕ) → Type 0
Shown item [] [] = Unit {0}
Shown item [] (t ∷ ts) = ⊥
Shown item (x ∷ xs) [] = ⊥
Shown item (x ∷ xs) (t ∷ ts) = ((b : List ℕ) → item x (t ++ b) b) × Shown item xs ts

module _ {A : Type 0} (item : A → Rule) (end : Rule) (e : List ℕ) (b : List ℕ) (ends : end (e ++ b) b) where
  others_shown : (xs : List A) (ts : List (List ℕ)) → Shown item xs ts → others item end xs (and_more ts ++ (e ++ b)) b
  unfolding others and_more value_separator ◌then◌ ws byte text
  others_shown [] [] s = ends
  others_shown [] (t ∷ ts) s = absurd s
  others_shown (x ∷ xs) [] s = absurd s
  others_shown (x ∷ xs) (t ∷ ts) s =
      let a = t ++ (and_more ts ++ (e ++ b)) in
      rw (append_assoc t (and_more ts) (e ++ b))
      (a, ((44 ∷ a, (grammar.none, (a, (refl, grammar.none)))), (and_more ts ++ (e ++ b), (s.0 (and_more ts ++ (e ++ b)), others_shown xs ts s.1))))

  items_shown : (xs : List A) (ts : List (List ℕ)) → Shown item xs ts → items item end xs (listed ts ++ (e ++ b)) b
  unfolding items listed ◌then◌
  items_shown [] [] s = ends
  items_shown [] (t ∷ ts) s = absurd s
  items_shown (x ∷ xs) [] s = absurd s
  items_shown (x ∷ xs) (t ∷ ts) s = rw append_assoc (and_more ts ++ (e ++ b), (s.0 (and_more ts ++ (e ++ b)), others_shown xs ts s.1))

module _ {A : Type 0} (value : A → Rule) where
  pub object_shown : (ms : List (List ℕ × A)) (ts : List (List ℕ)) → Shown (member_of value) ms ts
      → (b : List ℕ) → object_of value ms (text "{" ++ (listed ts ++ (text "}" ++ b))) b
  unfolding object_of begin_object end_object ◌then◌ ws byte text
  object_shown ms ts s b =
      let a = listed ts ++ (125 ∷ b) in
      (a, ((a, (refl, grammar.none)), items_shown (member_of value) end_object (125 ∷ []) b (125 ∷ b, (grammar.none, refl)) ms ts s))

  pub array_shown : (vs : List A) (ts : List (List ℕ)) → Shown value vs ts
      → (b : List ℕ) → array_of value vs (text "[" ++ (listed ts ++ (text "]" ++ b))) b
  unfolding array_of begin_array end_array ◌then◌ ws byte text
  array_shown vs ts s b =
      let a = listed ts ++ (93 ∷ b) in
      (a, ((a, (refl, grammar.none)), items_shown value end_array (93 ∷ []) b (93 ∷ b, (grammar.none, refl)) vs ts s))

  -- a member of a written name
  pub member_shown : (n : List ℕ) (x : A) (t : List ℕ) → unwritable n ≡ false → ((b : List ℕ) → value x (t ++ b) b)
      → (b : List ℕ) → member_of value (quoted n, x) (member_text n t ++ b) b
  unfolding member_of name_separator member_text ◌then◌ ws byte text
  member_shown n x t e f b =
      let a = t ++ b in
      rw append_assoc (58 ∷ a, (quoted_spelt n (58 ∷ a) e, (a, ((58 ∷ a, (grammar.none, (a, (refl, grammar.none)))), f b))))
