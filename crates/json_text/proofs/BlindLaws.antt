-- No rule looks at what follows its text: the second list of a rule is a way to write one text after another. Assumes nothing.
use mathlib.Core.Path.{◌≡◌, refl, sym, ap, ◌∙◌, subst}
use mathlib.Core.List.{List, [], ◌∷◌, ◌++◌, append_assoc}
use mathlib.Core.Logic.{inl, inr}
use Prim.Native.Nat.{ℕ, zero, suc}
use Rattle.json_text.specs.Grammar.{Rule, byte, range, ◌then◌, ◌or◌, option, many, none, more, some, white, ws, tail, utf8_two, utf8_three, utf8_four, utf8, unescaped, simple, hex, char, string, literal, digit, int, frac, exp, number, scalar}
use Rattle.json_text.specs.Rfc as rfc

-- t is a text of P, whatever follows
abbrev pub Text : Rule → List ℕ → Type 0
Text P t = (c : List ℕ) → P (t ++ c) c

abbrev pub Blind : Rule → Type 0
Blind P = (a b : List ℕ) → P a b → (t : List ℕ) × ((a ≡ t ++ b) × Text P t)

b_byte : (c : ℕ) → Blind (byte c)
unfolding byte
b_byte c a b e = (c ∷ [], (e, λ x. refl))

b_range : (lo hi : ℕ) → Blind (range lo hi)
unfolding range
b_range lo hi a b (c, (l, (h, e))) = (c ∷ [], (e, λ x. (c, (l, (h, refl)))))

b_then : (P Q : Rule) → Blind P → Blind Q → Blind (P then Q)
unfolding ◌then◌
b_then P Q f g a c (b, (p, q)) =
    let (t, (e, k)) = f a b p in
    let (u, (d, m)) = g b c q in (
      t ++ u,
      (
        e ∙ (ap (λ z. t ++ z) d ∙ sym (append_assoc t u c)),
        λ x. (u ++ x, (subst (λ z. P z (u ++ x)) (sym (append_assoc t u x)) (k (u ++ x)), m x)),
      ),
    )

b_or : (P Q : Rule) → Blind P → Blind Q → Blind (P or Q)
unfolding ◌or◌
b_or P Q f g a b (inl p) = let (t, (e, k)) = f a b p in (t, (e, λ x. inl (k x)))
b_or P Q f g a b (inr q) = let (t, (e, k)) = g a b q in (t, (e, λ x. inr (k x)))

b_option : (P : Rule) → Blind P → Blind (option P)
unfolding option
b_option P f a b (inl e) = ([], (e, λ x. inl refl))
b_option P f a b (inr p) = let (t, (e, k)) = f a b p in (t, (e, λ x. inr (k x)))

b_many : (P : Rule) → Blind P → (a b : List ℕ) → many P a b → (t : List ℕ) × ((a ≡ t ++ b) × Text (many P) t)
b_many P f a b none = ([], (refl, λ x. none))
b_many P f a c (more {b = b} p m) =
    let (t, (e, k)) = f a b p in
    let (u, (d, n)) = b_many P f b c m in (
      t ++ u,
      (
        e ∙ (ap (λ z. t ++ z) d ∙ sym (append_assoc t u c)),
        λ x. more (subst (λ z. P z (u ++ x)) (sym (append_assoc t u x)) (k (u ++ x))) (n x),
      ),
    )

b_ws : Blind ws
unfolding ws white
b_ws = b_many _ (b_or _ _ (b_byte _) (b_or _ _ (b_byte _) (b_or _ _ (b_byte _) (b_byte _))))

b_tail : Blind tail
unfolding tail
b_tail = b_range _ _

b_three : (lo hi l h : ℕ) → Blind (range lo hi then range l h then tail)
b_three lo hi l h = b_then _ _ (b_range lo hi) (b_then _ _ (b_range l h) b_tail)

b_tails : (lo hi : ℕ) → Blind (range lo hi then tail then tail)
b_tails lo hi = b_then _ _ (b_range lo hi) (b_then _ _ b_tail b_tail)

b_four : (lo hi l h : ℕ) → Blind (range lo hi then range l h then tail then tail)
b_four lo hi l h = b_then _ _ (b_range lo hi) (b_then _ _ (b_range l h) (b_then _ _ b_tail b_tail))

b_utf8 : Blind utf8
unfolding utf8 utf8_two utf8_three utf8_four
b_utf8 =
    b_or _ _ (b_then _ _ (b_range _ _) b_tail)
    (b_or _ _ (b_or _ _ (b_three _ _ _ _) (b_or _ _ (b_tails _ _) (b_or _ _ (b_three _ _ _ _) (b_tails _ _))))
    (b_or _ _ (b_four _ _ _ _) (b_or _ _ (b_then _ _ (b_range _ _) (b_then _ _ b_tail (b_then _ _ b_tail b_tail))) (b_four _ _ _ _))))

b_hex : Blind hex
unfolding hex
b_hex = b_or _ _ (b_range _ _) (b_or _ _ (b_range _ _) (b_range _ _))

b_two : (x y : ℕ) → Blind (byte x or byte y)
b_two x y = b_or _ _ (b_byte x) (b_byte y)

b_char : Blind char
unfolding char unescaped simple
b_char =
    b_or _ _ (b_or _ _ (b_range _ _) (b_or _ _ (b_range _ _) (b_or _ _ (b_range _ _) b_utf8)))
    (b_then _ _ (b_byte _) (b_or _ _ (b_or _ _ (b_two _ _) (b_or _ _ (b_two _ _) (b_or _ _ (b_two _ _) (b_two _ _))))
    (b_then _ _ (b_byte _) (b_then _ _ b_hex (b_then _ _ b_hex (b_then _ _ b_hex b_hex))))))

b_string : Blind string
unfolding string
b_string = b_then _ _ (b_byte _) (b_then _ _ (b_many _ b_char) (b_byte _))

b_digit : Blind digit
unfolding digit
b_digit = b_range _ _

b_some : Blind (some digit)
unfolding some
b_some = b_then _ _ b_digit (b_many _ b_digit)

b_number : Blind number
unfolding number int frac exp
b_number =
    b_then _ _ (b_option _ (b_byte _)) (b_then _ _ (b_or _ _ (b_byte _) (b_then _ _ (b_range _ _) (b_many _ b_digit)))
    (b_then _ _ (b_option _ (b_then _ _ (b_byte _) b_some))
    (b_option _ (b_then _ _ (b_two _ _) (b_then _ _ (b_option _ (b_two _ _)) b_some)))))

b_word : (x y z u : ℕ) → Blind (byte x then byte y then byte z then byte u)
b_word x y z u = b_then _ _ (b_byte x) (b_then _ _ (b_byte y) (b_then _ _ (b_byte z) (b_byte u)))

b_scalar : Blind scalar
unfolding scalar literal
b_scalar =
    b_or _ _ (b_or _ _ (b_then _ _ (b_byte _) (b_word _ _ _ _)) (b_or _ _ (b_word _ _ _ _) (b_word _ _ _ _)))
    (b_or _ _ b_number b_string)

b_mark : (c : ℕ) → Blind (ws then byte c then ws)
b_mark c = b_then _ _ b_ws (b_then _ _ (b_byte c) b_ws)

b_items : (v : Rule) → Blind v → Blind (option (v then many (rfc.value_separator then v)))
unfolding rfc.value_separator
b_items v f = b_option _ (b_then _ _ f (b_many _ (b_then _ _ (b_mark _) f)))

b_object : (v : Rule) → Blind v → Blind (rfc.object v)
unfolding rfc.object rfc.member rfc.begin_object rfc.end_object rfc.name_separator
b_object v f = b_then _ _ (b_mark _) (b_then _ _ (b_items _ (b_then _ _ b_string (b_then _ _ (b_mark _) f))) (b_mark _))

b_array : (v : Rule) → Blind v → Blind (rfc.array v)
unfolding rfc.array rfc.begin_array rfc.end_array
b_array v f = b_then _ _ (b_mark _) (b_then _ _ (b_items _ f) (b_mark _))

pub value_blind : (d : ℕ) → Blind (rfc.value d)
unfolding rfc.value
value_blind zero = b_scalar
value_blind (suc d) = b_or _ _ b_scalar (b_or _ _ (b_object _ (value_blind d)) (b_array _ (value_blind d)))

pub line_blind : Blind rfc.line
unfolding rfc.line
line_blind = b_then _ _ b_ws (b_then _ _ (b_object _ (value_blind 15)) b_ws)
