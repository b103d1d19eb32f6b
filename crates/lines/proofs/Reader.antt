-- A reader of texts that shows what it reads: where it answers, a text of the rule stands there. For the proved examples. Assumes nothing.
use mathlib.Core.Path.{◌≡◌, refl, sym, ap, ◌∙◌}
use mathlib.Core.Bool.{Bool, true, false}
use mathlib.Core.List.{List, [], ◌∷◌, ◌++◌, append_assoc}
use mathlib.Core.Logic.{inl, inr}
use Rattle.std.specs.Prelude.{Option, None, Some}
use Prim.Native.Nat.{ℕ, zero, suc}
use lib.Dec.{eqb, leb}
use borrow.Author.Tests.{leb-true, eqb-true}
use Rattle.json_text.specs.Grammar as grammar
use Rattle.json_text.specs.Grammar.{Rule, byte, range, ◌then◌, ◌or◌, option, many, white, ws, tail, utf8_two, utf8_three, utf8_four, utf8, unescaped, simple, hex, char, string}
use Rattle.json_text.specs.Grammar.{literal, digit, int, frac, exp, number, scalar}
use Rattle.json_text.specs.Members.{plain, object, array, Json, spelt, others, items, member_of, object_of, array_of, form_of, value_of, line_of}
use Rattle.json_text.specs.Tight.{begin_array, end_array, begin_object, end_object, name_separator, value_separator}

-- ---- rules

-- a text of P that stands here, and what follows it
pub record Read (P : Rule) (a : List ℕ) : Type 0 where
  pub text : List ℕ
  pub rest : List ℕ
  pub is : P a rest
  pub spells : a ≡ text ++ rest

-- one text after another
pub both_spell : {a b : List ℕ} (t u c : List ℕ) → a ≡ t ++ b → b ≡ u ++ c → a ≡ (t ++ u) ++ c
both_spell t u c e f = e ∙ (ap (λ (l : List ℕ). t ++ l) f ∙ sym (append_assoc t u c))

abbrev Reader : Rule → Type 0
Reader P = (a : List ℕ) → Option (Read P a)

r_byte : (n : ℕ) → Reader (byte n)
unfolding byte
r_byte n [] = None
r_byte n (c ∷ a) = go (eqb c n) refl
  where
    go : (b : Bool) → eqb c n ≡ b → Option (Read (byte n) (c ∷ a))
    go true e = Some (record { text = c ∷ []; rest = a; is = ap (λ (x : ℕ). x ∷ a) (eqb-true c n e); spells = refl })
    go false e = None

r_range : (lo hi : ℕ) → Reader (range lo hi)
unfolding range
r_range lo hi [] = None
r_range lo hi (c ∷ a) = go (leb lo c) refl (leb c hi) refl
  where
    go : (b : Bool) → leb lo c ≡ b → (d : Bool) → leb c hi ≡ d → Option (Read (range lo hi) (c ∷ a))
    go true e true f = Some (record { text = c ∷ []; rest = a; is = (c, (leb-true lo c e, (leb-true c hi f, refl))); spells = refl })
    go true e false f = None
    go false e d f = None

module _ (P Q : Rule) (p : Reader P) (q : Reader Q) where
  r_then : Reader (P then Q)
  unfolding ◌then◌
  r_then a = go (p a)
    where
      more : (x : Read P a) → Option (Read Q x.rest) → Option (Read (P then Q) a)
      more x None = None
      more x (Some y) =
          Some (record { text = x.text ++ y.text; rest = y.rest; is = (x.rest, (x.is, y.is)); spells = both_spell x.text y.text y.rest x.spells y.spells })

      go : Option (Read P a) → Option (Read (P then Q) a)
      go None = None
      go (Some x) = more x (q x.rest)

  r_or : Reader (P or Q)
  unfolding ◌or◌
  r_or a = go (p a)
    where
      other : Option (Read Q a) → Option (Read (P or Q) a)
      other None = None
      other (Some y) = Some (record { text = y.text; rest = y.rest; is = inr y.is; spells = y.spells })

      go : Option (Read P a) → Option (Read (P or Q) a)
      go (Some x) = Some (record { text = x.text; rest = x.rest; is = inl x.is; spells = x.spells })
      go None = other (q a)

module _ (P : Rule) (p : Reader P) where
  r_option : Reader (option P)
  unfolding option
  r_option a = go (p a)
    where
      go : Option (Read P a) → Option (Read (option P) a)
      go None = Some (record { text = []; rest = a; is = inl refl; spells = refl })
      go (Some x) = Some (record { text = x.text; rest = x.rest; is = inr x.is; spells = x.spells })

  -- as often as it stands there, at most once for each element of a list
  many_from : List ℕ → (a : List ℕ) → Read (many P) a
  many_from [] a = record { text = []; rest = a; is = grammar.none; spells = refl }
  many_from (f ∷ fuel) a = go (p a) (λ b. many_from fuel b)
    where
      go : Option (Read P a) → ((b : List ℕ) → Read (many P) b) → Read (many P) a
      go None ih = record { text = []; rest = a; is = grammar.none; spells = refl }
      go (Some x) ih =
          let y = ih x.rest in
          record { text = x.text ++ y.text; rest = y.rest; is = grammar.more x.is y.is; spells = both_spell x.text y.text y.rest x.spells y.spells }

  r_many : Reader (many P)
  unfolding many_from
  r_many a = Some (many_from a a)

r_ws : Reader ws
unfolding ws white r_byte r_or r_many
r_ws = r_many _ (r_or _ _ (r_byte 32) (r_or _ _ (r_byte 9) (r_or _ _ (r_byte 10) (r_byte 13))))

r_tail : Reader tail
unfolding tail r_range
r_tail = r_range 128 191

r_two : Reader utf8_two
unfolding utf8_two r_range r_then r_tail
r_two = r_then _ _ (r_range 194 223) r_tail

r_three : Reader utf8_three
unfolding utf8_three r_range r_then r_or r_tail
r_three =
    r_or _ _ (r_then _ _ (r_range 224 224) (r_then _ _ (r_range 160 191) r_tail))
    (r_or _ _ (r_then _ _ (r_range 225 236) (r_then _ _ r_tail r_tail))
    (r_or _ _ (r_then _ _ (r_range 237 237) (r_then _ _ (r_range 128 159) r_tail)) (r_then _ _ (r_range 238 239) (r_then _ _ r_tail r_tail))))

r_four : Reader utf8_four
unfolding utf8_four r_range r_then r_or r_tail
r_four =
    r_or _ _ (r_then _ _ (r_range 240 240) (r_then _ _ (r_range 144 191) (r_then _ _ r_tail r_tail)))
    (r_or _ _ (r_then _ _ (r_range 241 243) (r_then _ _ r_tail (r_then _ _ r_tail r_tail)))
    (r_then _ _ (r_range 244 244) (r_then _ _ (r_range 128 143) (r_then _ _ r_tail r_tail))))

r_unescaped : Reader unescaped
unfolding unescaped utf8 r_range r_or r_two r_three r_four
r_unescaped = r_or _ _ (r_range 32 33) (r_or _ _ (r_range 35 91) (r_or _ _ (r_range 93 127) (r_or _ _ r_two (r_or _ _ r_three r_four))))

r_simple : Reader simple
unfolding simple r_byte r_or
r_simple =
    r_or _ _ (r_or _ _ (r_byte 34) (r_byte 92))
    (r_or _ _ (r_or _ _ (r_byte 47) (r_byte 98)) (r_or _ _ (r_or _ _ (r_byte 102) (r_byte 110)) (r_or _ _ (r_byte 114) (r_byte 116))))

r_hex : Reader hex
unfolding hex r_range r_or
r_hex = r_or _ _ (r_range 48 57) (r_or _ _ (r_range 65 70) (r_range 97 102))

r_char : Reader char
unfolding char r_byte r_then r_or r_unescaped r_simple r_hex
r_char =
    r_or _ _ r_unescaped
    (r_then _ _ (r_byte 92) (r_or _ _ r_simple (r_then _ _ (r_byte 117) (r_then _ _ r_hex (r_then _ _ r_hex (r_then _ _ r_hex r_hex))))))

r_string : Reader string
unfolding string r_byte r_then r_many r_char
r_string = r_then _ _ (r_byte 34) (r_then _ _ (r_many _ r_char) (r_byte 34))

r_literal : Reader literal
unfolding literal r_byte r_then r_or
r_literal =
    r_or _ _ (r_then _ _ (r_byte 102) (r_then _ _ (r_byte 97) (r_then _ _ (r_byte 108) (r_then _ _ (r_byte 115) (r_byte 101)))))
    (r_or _ _ (r_then _ _ (r_byte 110) (r_then _ _ (r_byte 117) (r_then _ _ (r_byte 108) (r_byte 108))))
    (r_then _ _ (r_byte 116) (r_then _ _ (r_byte 114) (r_then _ _ (r_byte 117) (r_byte 101)))))

r_digit : Reader digit
unfolding digit r_range
r_digit = r_range 48 57

r_digits : Reader (grammar.some digit)
unfolding grammar.some r_then r_many r_digit
r_digits = r_then _ _ r_digit (r_many _ r_digit)

r_number : Reader number
unfolding number int frac exp r_byte r_range r_then r_or r_option r_many r_digit r_digits
r_number =
    r_then _ _ (r_option _ (r_byte 45))
    (r_then _ _ (r_or _ _ (r_byte 48) (r_then _ _ (r_range 49 57) (r_many _ r_digit)))
    (r_then _ _ (r_option _ (r_then _ _ (r_byte 46) r_digits))
    (r_option _ (r_then _ _ (r_or _ _ (r_byte 101) (r_byte 69)) (r_then _ _ (r_option _ (r_or _ _ (r_byte 45) (r_byte 43))) r_digits)))))

r_scalar : Reader scalar
unfolding scalar r_or r_string r_literal r_number
r_scalar = r_or _ _ r_literal (r_or _ _ r_number r_string)

-- ---- values

-- something of P stands here, what it is, and what follows it
pub record Found {A : Type 0} (P : A → Rule) (a : List ℕ) : Type 0 where
  pub what : A
  pub rest : List ℕ
  pub is : P what a rest

abbrev Finder : {A : Type 0} → (A → Rule) → Type 0
Finder P = (a : List ℕ) → Option (Found P a)

f_scalar : Finder (spelt scalar)
unfolding spelt r_scalar
f_scalar a = go (r_scalar a)
  where
    go : Option (Read scalar a) → Option (Found (spelt scalar) a)
    go None = None
    go (Some x) = Some (record { what = x.text; rest = x.rest; is = (x.is, x.spells) })

f_name : Finder (spelt string)
unfolding spelt r_string
f_name a = go (r_string a)
  where
    go : Option (Read string a) → Option (Found (spelt string) a)
    go None = None
    go (Some x) = Some (record { what = x.text; rest = x.rest; is = (x.is, x.spells) })

r_value_separator : Reader value_separator
unfolding value_separator r_byte r_then r_ws
r_value_separator = r_then _ _ r_ws (r_then _ _ (r_byte 44) r_ws)

r_name_separator : Reader name_separator
unfolding name_separator r_byte r_then r_ws
r_name_separator = r_then _ _ r_ws (r_then _ _ (r_byte 58) r_ws)

module _ {A : Type 0} (item : A → Rule) (end : Rule) (i : Finder item) (e : Reader end) where
  others_from : List ℕ → Finder (others item end)
  unfolding others ◌then◌ r_value_separator
  others_from [] a = None
  others_from (f ∷ fuel) a = first (e a) (λ b. others_from fuel b)
    where
      third : (b c : List ℕ) (x : A) → value_separator a b → item x b c → Option (Found (others item end) c) → Option (Found (others item end) a)
      third b c x p q None = None
      third b c x p q (Some o) = Some (record { what = x ∷ o.what; rest = o.rest; is = (b, (p, (c, (q, o.is)))) })

      second : (b : List ℕ) → value_separator a b → Option (Found item b) → Finder (others item end) → Option (Found (others item end) a)
      second b p None ih = None
      second b p (Some x) ih = third b x.rest x.what p x.is (ih x.rest)

      comma : Option (Read value_separator a) → Finder (others item end) → Option (Found (others item end) a)
      comma None ih = None
      comma (Some x) ih = second x.rest x.is (i x.rest) ih

      first : Option (Read end a) → Finder (others item end) → Option (Found (others item end) a)
      first (Some x) ih = Some (record { what = []; rest = x.rest; is = x.is })
      first None ih = comma (r_value_separator a) ih

  f_items : Finder (items item end)
  unfolding items ◌then◌ others_from
  f_items a = first (e a)
    where
      second : (b : List ℕ) (x : A) → item x a b → Option (Found (others item end) b) → Option (Found (items item end) a)
      second b x p None = None
      second b x p (Some o) = Some (record { what = x ∷ o.what; rest = o.rest; is = (b, (p, o.is)) })

      item_first : Option (Found item a) → Option (Found (items item end) a)
      item_first None = None
      item_first (Some x) = second x.rest x.what x.is (others_from x.rest x.rest)

      first : Option (Read end a) → Option (Found (items item end) a)
      first (Some x) = Some (record { what = []; rest = x.rest; is = x.is })
      first None = item_first (i a)

module _ {A : Type 0} (v : A → Rule) (f : Finder v) where
  f_member : Finder (member_of v)
  unfolding member_of ◌then◌ f_name r_name_separator
  f_member a = named (f_name a)
    where
      valued : (t b c : List ℕ) → spelt string t a b → name_separator b c → Option (Found v c) → Option (Found (member_of v) a)
      valued t b c p q None = None
      valued t b c p q (Some x) = Some (record { what = (t, x.what); rest = x.rest; is = (b, (p, (c, (q, x.is)))) })

      colon : (t b : List ℕ) → spelt string t a b → Option (Read name_separator b) → Option (Found (member_of v) a)
      colon t b p None = None
      colon t b p (Some x) = valued t b x.rest p x.is (f x.rest)

      named : Option (Found (spelt string) a) → Option (Found (member_of v) a)
      named None = None
      named (Some x) = colon x.what x.rest x.is (r_name_separator x.rest)

  f_object : Finder (object_of v)
  unfolding object_of begin_object end_object ◌then◌ r_byte r_then r_ws f_items f_member
  f_object a = opened (r_then _ _ (r_byte 123) r_ws a)
    where
      listed : (b : List ℕ) → (byte 123 then ws) a b → Option (Found (items (member_of v) end_object) b) → Option (Found (object_of v) a)
      listed b p None = None
      listed b p (Some x) = Some (record { what = x.what; rest = x.rest; is = (b, (p, x.is)) })

      opened : Option (Read (byte 123 then ws) a) → Option (Found (object_of v) a)
      opened None = None
      opened (Some x) = listed x.rest x.is (f_items (member_of v) end_object f_member (r_then _ _ r_ws (r_byte 125)) x.rest)

  f_array : Finder (array_of v)
  unfolding array_of begin_array end_array ◌then◌ r_byte r_then r_ws f_items
  f_array a = opened (r_then _ _ (r_byte 91) r_ws a)
    where
      listed : (b : List ℕ) → (byte 91 then ws) a b → Option (Found (items v end_array) b) → Option (Found (array_of v) a)
      listed b p None = None
      listed b p (Some x) = Some (record { what = x.what; rest = x.rest; is = (b, (p, x.is)) })

      opened : Option (Read (byte 91 then ws) a) → Option (Found (array_of v) a)
      opened None = None
      opened (Some x) = listed x.rest x.is (f_items v end_array f (r_then _ _ r_ws (r_byte 93)) x.rest)

f_value : (d : ℕ) → Finder (value_of d)
unfolding value_of form_of f_scalar f_object f_array
f_value zero a = f_scalar a
f_value (suc d) a = by_scalar (f_value d) (f_scalar a)
  where
    by_array : Option (Found (array_of (value_of d)) a) → Option (Found (value_of (suc d)) a)
    by_array None = None
    by_array (Some x) = Some (record { what = array x.what; rest = x.rest; is = x.is })

    by_object : Finder (value_of d) → Option (Found (object_of (value_of d)) a) → Option (Found (value_of (suc d)) a)
    by_object f (Some x) = Some (record { what = object x.what; rest = x.rest; is = x.is })
    by_object f None = by_array (f_array (value_of d) f a)

    by_scalar : Finder (value_of d) → Option (Found (spelt scalar) a) → Option (Found (value_of (suc d)) a)
    by_scalar f (Some x) = Some (record { what = plain x.what; rest = x.rest; is = x.is })
    by_scalar f None = by_object f (f_object (value_of d) f a)

-- ---- lines

-- the members of a line
unfoldable pub line_read : (s : List ℕ) → Option ((ms : List (List ℕ × Json 15)) × line_of ms s)
unfolding line_of ◌then◌ r_ws f_object f_value
line_read s = start (r_ws s)
  where
    done : (a b : List ℕ) (ms : List (List ℕ × Json 15)) → ws s a → object_of (value_of 15) ms a b → (c : List ℕ) → ws b c → Option ((ms : List (List ℕ × Json 15)) × line_of ms s)
    done a b ms p q [] w = Some (ms, (a, (p, (b, (q, w)))))
    done a b ms p q (x ∷ c) w = None

    end : (a b : List ℕ) (ms : List (List ℕ × Json 15)) → ws s a → object_of (value_of 15) ms a b → Option (Read ws b) → Option ((ms : List (List ℕ × Json 15)) × line_of ms s)
    end a b ms p q None = None
    end a b ms p q (Some w) = done a b ms p q w.rest w.is

    middle : (a : List ℕ) → ws s a → Option (Found (object_of (value_of 15)) a) → Option ((ms : List (List ℕ × Json 15)) × line_of ms s)
    middle a p None = None
    middle a p (Some x) = end a x.rest x.what p x.is (r_ws x.rest)

    start : Option (Read ws s) → Option ((ms : List (List ℕ × Json 15)) × line_of ms s)
    start None = None
    start (Some x) = middle x.rest x.is (f_object (value_of 15) (f_value 15) x.rest)
