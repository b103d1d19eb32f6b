-- The grammar by itself says where a text ends: a value's text ends at one place where a value can
-- end. Assumes nothing.
use mathlib.Core.Path.{◌≡◌, refl, sym, ◌∙◌}
use mathlib.Core.List.{List, [], ◌∷◌}
use mathlib.Core.Logic.{◌⊎◌, inl, inr}
use Prim.Native.Nat.{ℕ, zero, suc, ◌≤◌, ◌<◌}
use native.Mathlib.Omega.{arith}
use Rattle.json_text.specs.Grammar.{Rule, byte, range, ◌then◌, ◌or◌, option, many, none, more, some, white, ws, tail, utf8_two, utf8_three, utf8_four, utf8, unescaped, simple, hex, char, string, literal, digit, int, frac, exp, number, scalar}
use Rattle.json_text.specs.Tight.{begin_array, end_array, begin_object, end_object, name_separator, value_separator, array, member, object, value}
use Rattle.json_text.specs.Skips.{Ends, Follow}
use Rattle.json_text.proofs.WsLaws.{head_eq, tail_eq, many_join, ws_only, ws_ends}
use Rattle.json_text.proofs.ScalarLaws.{First, int_first, literal_first, number_first, string_first, scalar_starts}
use Rattle.json_text.proofs.NumberLaws.{some_only, some_first, ends_no, exp_first, point_not_end, ends_nodigit, end_nodigit, frac_nodigit}
use Rattle.json_text.proofs.ListLaws.{Listed, Rest, Closes, closes_array, closes_object, Headed, rest_ends, solid_byte, dark_comma}
use Rattle.json_text.proofs.CharLaws.{OneByte, one_hex, one_simple}
use Rattle.values.proofs.ValueLaws.{value_headed, member_headed, array_first, object_first, starts_not, 91-123, dark_colon}

-- one end whatever follows, and one end where a value can end
abbrev pub Alone : Rule → Type 0
Alone P = (a b c : List ℕ) → P a b → P a c → b ≡ c

abbrev pub Ended : Rule → Type 0
Ended P = (a b c : List ℕ) → P a b → Ends b → P a c → Ends c → b ≡ c

-- no text of both
abbrev Apart : Rule → Rule → Type 0
Apart P Q = (a b c : List ℕ) → P a b → Q a c → ⊥

alone_ended : (P : Rule) → Alone P → Ended P
alone_ended P f a b c p x q y = f a b c p q

alone_byte : (n : ℕ) → Alone (byte n)
unfolding byte
alone_byte n a b c p q = tail_eq (sym p ∙ q)

alone_range : (lo hi : ℕ) → Alone (range lo hi)
unfolding range
alone_range lo hi a b c (m, (l, (h, e))) (n, (k, (j, f))) = tail_eq (sym e ∙ f)

alone_one : (P : Rule) → OneByte P → Alone P
alone_one P O a b c p q = let x = O.take a b p in let y = O.take a c q in tail_eq (sym x.1.1 ∙ y.1.1)

alone_then : (P Q : Rule) → Alone P → Alone Q → Alone (P then Q)
unfolding ◌then◌
alone_then P Q f g a b c (m, (p, q)) (n, (r, s)) = let e : m ≡ n = f a m n p r in g n b c (rw e at q) s

alone_or : (P Q : Rule) → Alone P → Alone Q → Apart P Q → Alone (P or Q)
unfolding ◌or◌
alone_or P Q f g h a b c (inl p) (inl q) = f a b c p q
alone_or P Q f g h a b c (inl p) (inr q) = absurd (h a b c p q)
alone_or P Q f g h a b c (inr p) (inl q) = absurd (h a c b q p)
alone_or P Q f g h a b c (inr p) (inr q) = g a b c p q

-- apart by the first byte
abbrev Firsts : ℕ → ℕ → Rule → Type 0
Firsts lo hi P = (a b : List ℕ) → P a b → First lo hi a

apart : (P Q : Rule) (lo hi lo2 hi2 : ℕ) → Firsts lo hi P → Firsts lo2 hi2 Q → (hi < lo2) ⊎ (hi2 < lo) → Apart P Q
apart P Q lo hi lo2 hi2 f g h a b c p q = let x = f a b p in let y = g a c q in go h x.low x.high y.low y.high (head_eq (sym x.is ∙ y.is))
  where
    go : (hi < lo2) ⊎ (hi2 < lo) → {m n : ℕ} → lo ≤ m → m ≤ hi → lo2 ≤ n → n ≤ hi2 → m ≡ n → ⊥
    go (inl k) l1 h1 l2 h2 e = omega arith
    go (inr k) l1 h1 l2 h2 e = omega arith

apart_or : (P Q R : Rule) → Apart P R → Apart Q R → Apart (P or Q) R
unfolding ◌or◌
apart_or P Q R f g a b c (inl p) r = f a b c p r
apart_or P Q R f g a b c (inr q) r = g a b c q r

range_first : (lo hi : ℕ) → Firsts lo hi (range lo hi)
unfolding range
range_first lo hi a b (n, (l, (h, e))) = record { first = n; after = b; is = e; low = l; high = h }

byte_first : (n : ℕ) → Firsts n n (byte n)
unfolding byte
byte_first n a b e = record { first = n; after = b; is = e; low = omega arith; high = omega arith }

then_first : (P Q : Rule) (lo hi : ℕ) → Firsts lo hi P → Firsts lo hi (P then Q)
unfolding ◌then◌
then_first P Q lo hi f a b (m, (p, q)) = f a m p

or_first : (P Q : Rule) (l h l2 h2 lo hi : ℕ) → Firsts l h P → Firsts l2 h2 Q → lo ≤ l → h ≤ hi → lo ≤ l2 → h2 ≤ hi → Firsts lo hi (P or Q)
unfolding ◌or◌
or_first P Q l h l2 h2 lo hi f g c d e k a b (inl p) = let x = f a b p in record { first = x.first; after = x.after; is = x.is; low = omega arith; high = omega arith }
or_first P Q l h l2 h2 lo hi f g c d e k a b (inr p) = let x = g a b p in record { first = x.first; after = x.after; is = x.is; low = omega arith; high = omega arith }

lead : (lo hi : ℕ) (Q : Rule) → Firsts lo hi (range lo hi then Q)
lead lo hi Q = then_first (range lo hi) Q lo hi (range_first lo hi)

alone_tail : Alone tail
unfolding tail
alone_tail = alone_range 128 191

three_first : Firsts 224 239 utf8_three
unfolding utf8_three
three_first =
    or_first _ _ 224 224 225 239 224 239 (lead 224 224 _)
    (or_first _ _ 225 236 237 239 225 239 (lead 225 236 _)
    (or_first _ _ 237 237 238 239 237 239 (lead 237 237 _) (lead 238 239 _) (omega arith) (omega arith) (omega arith)
    (omega arith)) (omega arith) (omega arith) (omega arith) (omega arith)) (omega arith) (omega arith) (omega arith)
    (omega arith)

four_first : Firsts 240 244 utf8_four
unfolding utf8_four
four_first =
    or_first _ _ 240 240 241 244 240 244 (lead 240 240 _)
    (or_first _ _ 241 243 244 244 241 244 (lead 241 243 _) (lead 244 244 _) (omega arith) (omega arith) (omega arith)
    (omega arith)) (omega arith) (omega arith) (omega arith) (omega arith)

alone_three : Alone utf8_three
unfolding utf8_three
alone_three =
    alone_or _ _ (alone_then _ _ (alone_range 224 224) (alone_then _ _ (alone_range 160 191) alone_tail))
    (alone_or _ _ (alone_then _ _ (alone_range 225 236) (alone_then _ _ alone_tail alone_tail))
    (alone_or _ _ (alone_then _ _ (alone_range 237 237) (alone_then _ _ (alone_range 128 159) alone_tail)) (alone_then _ _ (alone_range 238 239) (alone_then _ _ alone_tail alone_tail))
    (apart _ _ 237 237 238 239 (lead 237 237 _) (lead 238 239 _) (inl (omega arith))))
    (apart _ _ 225 236 237 239 (lead 225 236 _) (or_first _ _ 237 237 238 239 237 239 (lead 237 237 _) (lead 238 239 _) (omega arith) (omega arith) (omega arith) (omega arith)) (inl (omega arith))))
    (apart _ _ 224 224 225 239 (lead 224 224 _) (or_first _ _ 225 236 237 239 225 239 (lead 225 236 _)
    (or_first _ _ 237 237 238 239 237 239 (lead 237 237 _) (lead 238 239 _) (omega arith) (omega arith) (omega arith)
    (omega arith)) (omega arith) (omega arith) (omega arith) (omega arith)) (inl (omega arith)))

alone_four : Alone utf8_four
unfolding utf8_four
alone_four =
    alone_or _ _ (alone_then _ _ (alone_range 240 240) (alone_then _ _ (alone_range 144 191) (alone_then _ _ alone_tail alone_tail)))
    (alone_or _ _ (alone_then _ _ (alone_range 241 243)
    (alone_then _ _ alone_tail (alone_then _ _ alone_tail alone_tail)))
    (alone_then _ _ (alone_range 244 244) (alone_then _ _ (alone_range 128 143)
    (alone_then _ _ alone_tail alone_tail)))
    (apart _ _ 241 243 244 244 (lead 241 243 _) (lead 244 244 _) (inl (omega arith))))
    (apart _ _ 240 240 241 244 (lead 240 240 _) (or_first _ _ 241 243 244 244 241 244 (lead 241 243 _) (lead 244 244 _) (omega arith) (omega arith) (omega arith) (omega arith)) (inl (omega arith)))

more_first : Firsts 224 244 (utf8_three or utf8_four)
more_first = or_first _ _ 224 239 240 244 224 244 three_first four_first (omega arith) (omega arith) (omega arith) (omega arith)

utf8_first : Firsts 194 244 utf8
unfolding utf8 utf8_two
utf8_first = or_first _ _ 194 223 224 244 194 244 (lead 194 223 _) more_first (omega arith) (omega arith) (omega arith) (omega arith)

alone_utf8 : Alone utf8
unfolding utf8 utf8_two
alone_utf8 = alone_or _ _ (alone_then _ _ (alone_range 194 223) alone_tail) (alone_or _ _ alone_three alone_four (apart _ _ 224 239 240 244 three_first four_first (inl (omega arith))))
    (apart _ _ 194 223 224 244 (lead 194 223 _) more_first (inl (omega arith)))

last_first : Firsts 93 244 (range 93 127 or utf8)
last_first = or_first _ _ 93 127 194 244 93 244 (range_first 93 127) utf8_first (omega arith) (omega arith) (omega arith) (omega arith)

alone_unescaped : Alone unescaped
unfolding unescaped
alone_unescaped =
    alone_or _ _ (alone_range 32 33) (alone_or _ _ (alone_range 35 91)
    (alone_or _ _ (alone_range 93 127) alone_utf8 (apart _ _ 93 127 194 244 (range_first 93 127) utf8_first
    (inl (omega arith))))
    (apart _ _ 35 91 93 244 (range_first 35 91) last_first (inl (omega arith))))
    (apart _ _ 32 33 35 244 (range_first 32 33) (or_first _ _ 35 91 93 244 35 244 (range_first 35 91) last_first (omega arith) (omega arith) (omega arith) (omega arith)) (inl (omega arith)))

unescaped_apart : (n : ℕ) (Q : Rule) → Firsts n n Q → (n ≡ 34) ⊎ (n ≡ 92) → Apart unescaped Q
unfolding unescaped
unescaped_apart n Q f (inl e) =
    apart_or _ _ Q (apart _ _ 32 33 n n (range_first 32 33) f (inl (omega arith)))
    (apart_or _ _ Q (apart _ _ 35 91 n n (range_first 35 91) f (inr (omega arith)))
    (apart _ _ 93 244 n n last_first f (inr (omega arith))))
unescaped_apart n Q f (inr e) =
    apart_or _ _ Q (apart _ _ 32 33 n n (range_first 32 33) f (inl (omega arith)))
    (apart_or _ _ Q (apart _ _ 35 91 n n (range_first 35 91) f (inl (omega arith)))
    (apart _ _ 93 244 n n last_first f (inr (omega arith))))

simple_apart : Apart simple (byte 117 then hex then hex then hex then hex)
unfolding simple
simple_apart =
    apart_or _ _ _ (two 34 92 (omega arith) (omega arith))
    (apart_or _ _ _ (two 47 98 (omega arith) (omega arith))
    (apart_or _ _ _ (two 102 110 (omega arith) (omega arith)) (two 114 116 (omega arith) (omega arith))))
  where
    two : (x y : ℕ) → x < 117 → y < 117 → Apart (byte x or byte y) (byte 117 then hex then hex then hex then hex)
    two x y p q =
        apart_or _ _ _ (apart _ _ x x 117 117 (byte_first x) (then_first _ _ 117 117 (byte_first 117)) (inl p))
        (apart _ _ y y 117 117 (byte_first y) (then_first _ _ 117 117 (byte_first 117)) (inl q))

alone_char : Alone char
unfolding char
alone_char =
    alone_or _ _ alone_unescaped (alone_then _ _ (alone_byte 92)
    (alone_or _ _ (alone_one simple one_simple) (alone_then _ _ (alone_byte 117)
    (alone_then _ _ hx (alone_then _ _ hx (alone_then _ _ hx hx)))) simple_apart))
    (unescaped_apart 92 _ (then_first _ _ 92 92 (byte_first 92)) (inr refl))
  where
    hx : Alone hex
    hx = alone_one hex one_hex

char_apart : Apart char (byte 34)
unfolding char
char_apart = apart_or _ _ (byte 34) (unescaped_apart 34 (byte 34) (byte_first 34) (inl refl)) (apart _ _ 92 92 34 34 (then_first _ _ 92 92 (byte_first 92)) (byte_first 34) (inr (omega arith)))

-- texts of P and then a text of Q, which no text of P begins like
many_alone : (P Q : Rule) → Alone P → Alone Q → Apart P Q → {a b : List ℕ} (c y z : List ℕ) → many P a b → Q b y → many P a c → Q c z → y ≡ z
many_alone P Q f g h {a} c y z none q none r = g a y z q r
many_alone P Q f g h c y z none q (more p m) r = absurd (h _ _ y p q)
many_alone P Q f g h c y z (more p m) q none r = absurd (h _ _ z p r)
many_alone P Q f g h {a} c y z (more {b = m} p l) q (more {b = n} s k) r = let e : n ≡ m = f a n m s p in many_alone P Q f g h c y z l q (rw e at k) r

pub alone_string : Alone string
unfolding string
alone_string = alone_then _ _ (alone_byte 34) (λ a b c p q. go a b c p q)
  where
    go : Alone (many char then byte 34)
    go a b c p q = unfold ◌then◌ in many_alone char (byte 34) alone_char (alone_byte 34) char_apart q.0 b c p.1.0 p.1.1 q.1.0 q.1.1

-- numbers
alone_two : (x y : ℕ) → (x < y) ⊎ (y < x) → Alone (byte x or byte y)
alone_two x y h = alone_or (byte x) (byte y) (alone_byte x) (alone_byte y) (apart _ _ x x y y (byte_first x) (byte_first y) h)

sign_apart : Apart (byte 45 or byte 43) (some digit)
sign_apart = apart_or _ _ (some digit) (apart _ _ 45 45 48 57 (byte_first 45) some_first (inl (omega arith))) (apart _ _ 43 43 48 57 (byte_first 43) some_first (inl (omega arith)))

digits_ended : (a b c : List ℕ) → some digit a b → Ends b → some digit a c → Ends c → b ≡ c
digits_ended a b c p x q y = some_only a b c p (ends_nodigit b x) q (ends_nodigit c y)

signed_ended : Ended (option (byte 45 or byte 43) then some digit)
unfolding ◌then◌ option
signed_ended a b c (m, (inl e, p)) x (n, (inl f, q)) y = digits_ended a b c (rw e p) x (rw f q) y
signed_ended a b c (m, (inl e, p)) x (n, (inr f, q)) y = absurd (sign_apart a n b f (rw e p))
signed_ended a b c (m, (inr e, p)) x (n, (inl f, q)) y = absurd (sign_apart a m c e (rw f q))
signed_ended a b c (m, (inr e, p)) x (n, (inr f, q)) y = let k : m ≡ n = alone_two 45 43 (inr (omega arith)) a m n e f in digits_ended n b c (rw k at p) x q y

exp_ended : Ended exp
unfolding exp ◌then◌
exp_ended a b c (m, (e, p)) x (n, (f, q)) y = let k : m ≡ n = alone_two 101 69 (inr (omega arith)) a m n e f in signed_ended n b c (rw k at p) x q y

exp_no_end : (a b : List ℕ) → exp a b → Ends a → ⊥
exp_no_end a b p x = let t = exp_first a b p in go t.0 t.1
  where
    go : (z : List ℕ) → (a ≡ 101 ∷ z) ⊎ (a ≡ 69 ∷ z) → ⊥
    go z (inl e) = (ends_no a z 101 e x).small refl
    go z (inr e) = (ends_no a z 69 e x).big refl

end_ended : Ended (option exp)
unfolding option
end_ended a b c (inl e) x (inl f) y = sym e ∙ f
end_ended a b c (inl e) x (inr q) y = absurd (exp_no_end a c q (rw e x))
end_ended a b c (inr p) x (inl f) y = absurd (exp_no_end a b p (rw f y))
end_ended a b c (inr p) x (inr q) y = exp_ended a b c p x q y

frac_ended : Ended (option frac then option exp)
unfolding ◌then◌ option frac byte
frac_ended a b c (m, (inl e, p)) x (n, (inl f, q)) y = end_ended a b c (rw e p) x (rw f q) y
frac_ended a b c (m, (inl e, p)) x (n, (inr (z, (f, d)), q)) y = absurd (point_not_end [] 0 a z b f (rw e p) x)
frac_ended a b c (m, (inr (z, (e, d)), p)) x (n, (inl f, q)) y = absurd (point_not_end [] 0 a z c e (rw f q) y)
frac_ended a b c (m, (inr (z, (e, d)), p)) x (n, (inr (u, (f, g)), q)) y =
    let k : z ≡ u = tail_eq (sym e ∙ f) in
    let l : m ≡ n = some_only u m n (rw k at d) (end_nodigit m b p x) g (end_nodigit n c q y) in
    end_ended n b c (rw l at p) x q y

int_some : (a b : List ℕ) → (range 49 57 then many digit) a b → some digit a b
unfolding ◌then◌ some digit range
int_some a b (m, ((c, (l, (h, e))), p)) = (m, ((c, (omega arith, (h, e))), p))

int_ended : Ended (int then option frac then option exp)
unfolding ◌then◌ int ◌or◌
int_ended a b c (m, (inl e, p)) x (n, (inl f, q)) y = let k : m ≡ n = alone_byte 48 a m n e f in frac_ended n b c (rw k at p) x q y
int_ended a b c (m, (inl e, p)) x (n, (inr f, q)) y = absurd (apart _ _ 48 48 49 57 (byte_first 48) (lead 49 57 (many digit)) (inl (omega arith)) a m n e f)
int_ended a b c (m, (inr e, p)) x (n, (inl f, q)) y = absurd (apart _ _ 48 48 49 57 (byte_first 48) (lead 49 57 (many digit)) (inl (omega arith)) a n m f e)
int_ended a b c (m, (inr e, p)) x (n, (inr f, q)) y =
    let k : m ≡ n = some_only a m n (int_some a m e) (frac_nodigit m b p x) (int_some a n f) (frac_nodigit n c q y) in frac_ended n b c (rw k at p) x q y

minus_apart : Apart (byte 45) (int then option frac then option exp)
minus_apart = apart _ _ 45 45 48 57 (byte_first 45) (then_first _ _ 48 57 int_first) (inl (omega arith))

pub number_ended : Ended number
unfolding number ◌then◌ option
number_ended a b c (m, (inl e, p)) x (n, (inl f, q)) y = int_ended a b c (rw e p) x (rw f q) y
number_ended a b c (m, (inl e, p)) x (n, (inr f, q)) y = absurd (minus_apart a n b f (rw e p))
number_ended a b c (m, (inr e, p)) x (n, (inl f, q)) y = absurd (minus_apart a m c e (rw f q))
number_ended a b c (m, (inr e, p)) x (n, (inr f, q)) y = let k : m ≡ n = alone_byte 45 a m n e f in int_ended n b c (rw k at p) x q y

alone_literal : Alone literal
unfolding literal
alone_literal = alone_or _ _ (alone_then _ _ (alone_byte 102) (alone_then _ _ (alone_byte 97) (alone_then _ _ (alone_byte 108) (alone_then _ _ (alone_byte 115) (alone_byte 101)))))
    (alone_or _ _ (alone_then _ _ (alone_byte 110)
    (alone_then _ _ (alone_byte 117) (alone_then _ _ (alone_byte 108) (alone_byte 108))))
    (alone_then _ _ (alone_byte 116) (alone_then _ _ (alone_byte 114)
    (alone_then _ _ (alone_byte 117) (alone_byte 101))))
    (apart _ _ 110 110 116 116 (first 110 _) (first 116 _) (inl (omega arith))))
    (apart _ _ 102 102 110 116 (first 102 _) (or_first _ _ 110 110 116 116 110 116 (first 110 _) (first 116 _) (omega arith) (omega arith) (omega arith) (omega arith)) (inl (omega arith)))
  where
    first : (n : ℕ) (Q : Rule) → Firsts n n (byte n then Q)
    first n Q = then_first (byte n) Q n n (byte_first n)

ended_or : (P Q : Rule) → Ended P → Ended Q → Apart P Q → Ended (P or Q)
unfolding ◌or◌
ended_or P Q f g h a b c (inl p) x (inl q) y = f a b c p x q y
ended_or P Q f g h a b c (inl p) x (inr q) y = absurd (h a b c p q)
ended_or P Q f g h a b c (inr p) x (inl q) y = absurd (h a c b q p)
ended_or P Q f g h a b c (inr p) x (inr q) y = g a b c p x q y

scalar_ended : Ended scalar
unfolding scalar
scalar_ended = ended_or _ _ (alone_ended literal alone_literal) (ended_or _ _ number_ended (alone_ended string alone_string) (apart _ _ 45 57 34 34 number_first string_first (inr (omega arith))))
    (apart _ _ 102 116 34 57 literal_first (or_first _ _ 45 57 34 34 34 57 number_first string_first (omega arith) (omega arith) (omega arith) (omega arith)) (inr (omega arith)))

-- items between brackets
module _ (close : ℕ) (v : Rule) (C : Closes close) (H : Headed close v) (E : Ended v) where
  rest_alone : {m n : List ℕ} → many (value_separator then v) m n → (k r : List ℕ) → many white n k → k ≡ close ∷ r
      → {q : List ℕ} → many (value_separator then v) m q → (l z : List ℕ) → many white q l → l ≡ close ∷ z → r ≡ z
  unfolding value_separator ◌then◌ byte ws Headed Rest
  rest_alone none k r w e none l z u f =
      let s : k ≡ l = ws_only w (rw e (solid_byte r C.dark)) u (rw f (solid_byte z C.dark)) in tail_eq (sym e ∙ (s ∙ f))
  rest_alone none k r w e (more (x, ((o, (t, (y, (g, h)))), p)) m) l z u f =
      let s : k ≡ o = ws_only w (rw e (solid_byte r C.dark)) t (rw g (solid_byte y dark_comma)) in absurd (C.comma (head_eq (sym e ∙ (s ∙ g))))
  rest_alone (more (x, ((o, (t, (y, (g, h)))), p)) m) k r w e none l z u f =
      let s : l ≡ o = ws_only u (rw f (solid_byte z C.dark)) t (rw g (solid_byte y dark_comma)) in absurd (C.comma (head_eq (sym f ∙ (s ∙ g))))
  rest_alone (more {b = i} (x, ((o, (t, (y, (g, h)))), p)) m) k r w e (more {b = i'} (x', ((o', (t', (y', (g', h')))), p')) m') l z u f =
      let s : o ≡ o' = ws_only t (rw g (solid_byte y dark_comma)) t' (rw g' (solid_byte y' dark_comma)) in
      let ys : y ≡ y' = tail_eq (sym g ∙ (s ∙ g')) in
      let xs : x ≡ x' = ws_only (rw ys at h) (H x i p).0 h' (H x' i' p').0 in
      let js : i' ≡ i = sym (E x' i i' (rw xs at p) (rest_ends close v C H i r (_, (m, (k, (w, e))))) p' (rest_ends close v C H i' z (_, (m', (l, (u, f)))))) in
      rest_alone m k r w e (rw js at m') l z u f

  listed_alone : (left : ℕ) → Alone (Listed left close v)
  unfolding Listed ◌then◌ byte ws option Headed Rest
  listed_alone left a b c (x, ((y, (e, w)), (n, (inl o, (k, (t, g)))))) (x', ((y', (e', w')), (n', (inl o', (k', (t', g')))))) =
      let ys : y ≡ y' = tail_eq (sym e ∙ e') in
      let s : k ≡ k' = ws_only (many_join (rw ys at w) (rw (sym o) at t)) (rw g (solid_byte b C.dark)) (many_join w' (rw (sym o') at t')) (rw g' (solid_byte c C.dark)) in
      tail_eq (sym g ∙ (s ∙ g'))
  listed_alone left a b c (x, ((y, (e, w)), (n, (inl o, (k, (t, g)))))) (x', ((y', (e', w')), (n', (inr (i, (p, m)), q)))) =
      let ys : y ≡ y' = tail_eq (sym e ∙ e') in
      let s : k ≡ x' = ws_only (many_join (rw ys at w) (rw (sym o) at t)) (rw g (solid_byte b C.dark)) w' (H x' i p).0 in
      absurd ((H x' i p).1 b (sym s ∙ g))
  listed_alone left a b c (x, ((y, (e, w)), (n, (inr (i, (p, m)), q)))) (x', ((y', (e', w')), (n', (inl o', (k', (t', g')))))) =
      let ys : y' ≡ y = tail_eq (sym e' ∙ e) in
      let s : k' ≡ x = ws_only (many_join (rw ys at w') (rw (sym o') at t')) (rw g' (solid_byte c C.dark)) w (H x i p).0 in
      absurd ((H x i p).1 c (sym s ∙ g'))
  listed_alone left a b c (x, ((y, (e, w)), (n, (inr (i, (p, m)), (k, (t, g)))))) (x', ((y', (e', w')), (n', (inr (i', (p', m')), (k', (t', g')))))) =
      let ys : y ≡ y' = tail_eq (sym e ∙ e') in
      let xs : x ≡ x' = ws_only (rw ys at w) (H x i p).0 w' (H x' i' p').0 in
      let js : i' ≡ i = sym (E x' i i' (rw xs at p) (rest_ends close v C H i b (n, (m, (k, (t, g))))) p' (rest_ends close v C H i' c (n', (m', (k', (t', g')))))) in
      rest_alone m k b t g (rw js at m') k' c t' g'

pub colon_ends : (m n y : List ℕ) → many white m n → n ≡ 58 ∷ y → Ends m
unfolding Ends Follow
colon_ends m n y w e = ws_ends w (rw e (inr (inr (inr (inr (inr (inr (inr refl))))))))

member_ended : (d : ℕ) → Ended (value d) → Ended (member (value d))
unfolding member ◌then◌ name_separator ws byte Headed
member_ended d E a b c (m, (s, (x, ((o, (t, (y, (g, h)))), p)))) k (m', (s', (x', ((o', (t', (y', (g', h')))), p')))) l =
    let ms : m ≡ m' = alone_string a m m' s s' in
    let os : o ≡ o' = ws_only (rw ms at t) (rw g (solid_byte y dark_colon)) t' (rw g' (solid_byte y' dark_colon)) in
    let ys : y ≡ y' = tail_eq (sym g ∙ (os ∙ g')) in
    let xs : x ≡ x' = ws_only (rw ys at h) (value_headed d x b p).0 h' (value_headed d x' c p').0 in
    E x' b c (rw xs at p) k p' l

-- A value's text ends at one place where a value can end.
pub value_ended : (d : ℕ) → Ended (value d)
unfolding value array object begin_array end_array begin_object end_object Listed
value_ended zero a b c p x q y = scalar_ended a b c p x q y
value_ended (suc d) a b c p x q y =
    ended_or scalar (object (value d) or array (value d)) scalar_ended
    (ended_or (object (value d)) (array (value d)) (alone_ended _ (listed_alone 125 (member (value d)) closes_object (member_headed (value d)) (member_ended d (value_ended d)) 123))
    (alone_ended _ (listed_alone 93 (value d) closes_array (value_headed d) (value_ended d) 91)) (λ s t u o r. 91-123 (array_first (value d) s u r).1 (object_first (value d) s t o).1))
    (λ s t u o r. scalar_apart s t u o r)
    a b c p x q y
  where
    scalar_apart : Apart scalar (object (value d) or array (value d))
    scalar_apart s t u o r = unfold ◌or◌ in go r
      where
        go : (object (value d) s u) ⊎ (array (value d) s u) → ⊥
        go (inl z) = starts_not (scalar_starts s t o) (λ k. k.no123 refl) (object_first (value d) s u z).1
        go (inr z) = starts_not (scalar_starts s t o) (λ k. k.no91 refl) (array_first (value d) s u z).1
