-- A rule speaks of a text and of nothing after it: where P a b holds, a is some text t and then b,
-- and t is a text of P whatever follows. So `P t []` says that t is a text of P. Assumes nothing.
use mathlib.Core.Path.{◌≡◌, refl, sym, ap, ◌∙◌}
use mathlib.Core.List.{List, [], ◌∷◌, ◌++◌, append_assoc}
use mathlib.Core.Logic.{inl, inr}
use Prim.Native.Nat.{ℕ, zero, suc}
use Rattle.json_text.specs.Grammar.{Rule, byte, range, ◌then◌, ◌or◌, option, many, none, more, some, white, ws, tail, utf8_two, utf8_three, utf8_four, utf8, unescaped, simple, hex, char, string, literal, digit, int, frac, exp, number, scalar}
use Rattle.json_text.specs.Tight.{begin_array, end_array, begin_object, end_object, name_separator, value_separator, array, member, object, value}

pub record Framed (P : Rule) (a b : List ℕ) : Type 0 where
  pub text : List ℕ
  pub is : a ≡ text ++ b
  pub any : (c : List ℕ) → P (text ++ c) c

abbrev pub Frames : Rule → Type 0
Frames P = (a b : List ℕ) → P a b → Framed P a b

f_byte : (n : ℕ) → Frames (byte n)
unfolding byte
f_byte n a b e = record { text = n ∷ []; is = e; any = λ c. refl }

f_range : (lo hi : ℕ) → Frames (range lo hi)
unfolding range
f_range lo hi a b (n, (l, (h, e))) = record { text = n ∷ []; is = e; any = λ c. (n, (l, (h, refl))) }

f_then : (P Q : Rule) → Frames P → Frames Q → Frames (P then Q)
unfolding ◌then◌
f_then P Q f g a b (m, (p, q)) =
    let x = f a m p in
    let y = g m b q in
    record {
      text = x.text ++ y.text;
      is = x.is ∙ (ap (λ (l : List ℕ). x.text ++ l) y.is ∙ sym (append_assoc x.text y.text b));
      any = λ c. (y.text ++ c, (rw append_assoc (x.any (y.text ++ c)), y.any c));
    }

f_or : (P Q : Rule) → Frames P → Frames Q → Frames (P or Q)
unfolding ◌or◌
f_or P Q f g a b (inl p) = let x = f a b p in record { text = x.text; is = x.is; any = λ c. inl (x.any c) }
f_or P Q f g a b (inr p) = let x = g a b p in record { text = x.text; is = x.is; any = λ c. inr (x.any c) }

f_option : (P : Rule) → Frames P → Frames (option P)
unfolding option
f_option P f a b (inl e) = record { text = []; is = e; any = λ c. inl refl }
f_option P f a b (inr p) = let x = f a b p in record { text = x.text; is = x.is; any = λ c. inr (x.any c) }

pub f_many : (P : Rule) → Frames P → {a b : List ℕ} → many P a b → Framed (many P) a b
f_many P f none = record { text = []; is = refl; any = λ c. none }
f_many P f (more {a = a} {b = m} {c = b} p l) =
    let x = f a m p in
    let y = f_many P f l in
    record {
      text = x.text ++ y.text;
      is = x.is ∙ (ap (λ (l : List ℕ). x.text ++ l) y.is ∙ sym (append_assoc x.text y.text b));
      any = λ c. more {a = (x.text ++ y.text) ++ c} {b = y.text ++ c} {c = c} (rw append_assoc (x.any (y.text ++ c))) (y.any c);
    }

f_ws : Frames ws
unfolding ws white
f_ws a b p = f_many _ (f_or _ _ (f_byte 32) (f_or _ _ (f_byte 9) (f_or _ _ (f_byte 10) (f_byte 13)))) p

f_digit : Frames digit
unfolding digit
f_digit = f_range 48 57

f_some : Frames (some digit)
unfolding some
f_some = f_then _ _ f_digit (λ a b p. f_many digit f_digit p)

f_number : Frames number
unfolding number int frac exp
f_number = f_then _ _ (f_option _ (f_byte 45)) (f_then _ _ (f_or _ _ (f_byte 48) (f_then _ _ (f_range 49 57) (λ a b p. f_many digit f_digit p)))
    (f_then _ _ (f_option _ (f_then _ _ (f_byte 46) f_some)) (f_option _ (f_then _ _ (f_or _ _ (f_byte 101) (f_byte 69)) (f_then _ _ (f_option _ (f_or _ _ (f_byte 45) (f_byte 43))) f_some)))))

f_hex : Frames hex
unfolding hex
f_hex = f_or _ _ (f_range 48 57) (f_or _ _ (f_range 65 70) (f_range 97 102))

f_tail : Frames tail
unfolding tail
f_tail = f_range 128 191

f_utf8 : Frames utf8
unfolding utf8 utf8_two utf8_three utf8_four
f_utf8 = f_or _ _ (f_then _ _ (f_range 194 223) f_tail) (f_or _ _
    (f_or _ _ (f_then _ _ (f_range 224 224) (f_then _ _ (f_range 160 191) f_tail)) (f_or _ _ (f_then _ _ (f_range 225 236) (f_then _ _ f_tail f_tail)) (f_or _ _ (f_then _ _ (f_range 237 237) (f_then _ _ (f_range 128 159) f_tail)) (f_then _ _ (f_range 238 239) (f_then _ _ f_tail f_tail)))))
    (f_or _ _ (f_then _ _ (f_range 240 240) (f_then _ _ (f_range 144 191) (f_then _ _ f_tail f_tail))) (f_or _ _ (f_then _ _ (f_range 241 243) (f_then _ _ f_tail (f_then _ _ f_tail f_tail))) (f_then _ _ (f_range 244 244) (f_then _ _ (f_range 128 143) (f_then _ _ f_tail f_tail))))))

pub f_char : Frames char
unfolding char unescaped simple
f_char = f_or _ _ (f_or _ _ (f_range 32 33) (f_or _ _ (f_range 35 91) (f_or _ _ (f_range 93 127) f_utf8)))
    (f_then _ _ (f_byte 92) (f_or _ _ (f_or _ _ (f_or _ _ (f_byte 34) (f_byte 92)) (f_or _ _ (f_or _ _ (f_byte 47) (f_byte 98)) (f_or _ _ (f_or _ _ (f_byte 102) (f_byte 110)) (f_or _ _ (f_byte 114) (f_byte 116)))))
    (f_then _ _ (f_byte 117) (f_then _ _ f_hex (f_then _ _ f_hex (f_then _ _ f_hex f_hex))))))

pub f_string : Frames string
unfolding string
f_string = f_then _ _ (f_byte 34) (f_then _ _ (λ a b p. f_many char f_char p) (f_byte 34))

f_scalar : Frames scalar
unfolding scalar literal
f_scalar = f_or _ _ (f_or _ _ (f_then _ _ (f_byte 102) (f_then _ _ (f_byte 97) (f_then _ _ (f_byte 108) (f_then _ _ (f_byte 115) (f_byte 101)))))
    (f_or _ _ (f_then _ _ (f_byte 110) (f_then _ _ (f_byte 117) (f_then _ _ (f_byte 108) (f_byte 108)))) (f_then _ _ (f_byte 116) (f_then _ _ (f_byte 114) (f_then _ _ (f_byte 117) (f_byte 101))))))
    (f_or _ _ f_number f_string)

f_listed : (left close : ℕ) (v : Rule) → Frames v → Frames ((byte left then ws) then option (v then many (value_separator then v)) then (ws then byte close))
unfolding value_separator
f_listed left close v f = f_then _ _ (f_then _ _ (f_byte left) f_ws) (f_then _ _ (f_option _ (f_then _ _ f (λ a b p. f_many _ (f_then _ _ (f_then _ _ f_ws (f_then _ _ (f_byte 44) f_ws)) f) p))) (f_then _ _ f_ws (f_byte close)))

f_member : (v : Rule) → Frames v → Frames (member v)
unfolding member name_separator
f_member v f = f_then _ _ f_string (f_then _ _ (f_then _ _ f_ws (f_then _ _ (f_byte 58) f_ws)) f)

-- a value, and so an object and an array, is a text
pub value_text : (d : ℕ) → Frames (value d)
unfolding value array object begin_array end_array begin_object end_object
value_text zero a b p = f_scalar a b p
value_text (suc d) a b p = f_or _ _ f_scalar (f_or _ _ (f_listed 123 125 (member (value d)) (f_member (value d) (value_text d))) (f_listed 91 93 (value d) (value_text d))) a b p
