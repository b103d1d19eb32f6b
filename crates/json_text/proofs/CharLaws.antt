-- Laws of characters and strings. Assumes nothing.
use mathlib.Core.Path.{◌≡◌, refl, sym, subst}
use native.Mathlib.Numerals.{add-one}
use lib.Seq.{drop-cons}
use Rattle.std.specs.Prelude.{All}
use Rattle.std.proofs.lemmas.List.Elements.{All-get_or}
use Rattle.std.specs.Prelude.{Option, None, Some}
use mathlib.Core.List.{List, [], ◌∷◌}
use mathlib.Core.Logic.{◌⊎◌, inl, inr}
use mathlib.Core.Bool.{Bool, true, false}
use Prim.Native.Nat.{ℕ, zero, suc, ◌+◌, ◌≤◌, ◌<◌}
use native.Mathlib.Omega.{arith}
use lib.ListN.{length, get_or, drop}
use Rattle.json_text.specs.Grammar.{Rule, byte, range, ◌then◌, ◌or◌, many, none, more, white, tail, utf8_two, utf8_three, utf8_four, utf8, unescaped, simple, hex, char, string}
use Rattle.json_text.specs.Skips.{NoText, Skips, Not, Here, OnlyAt, Exact, Whether, in_turn}
use Rattle.json_text.proofs.WsLaws.{stands, at_byte, byte_at, lt_or_ge}
use Rattle.json_text.proofs.StepLaws.{Leads}
use Rattle.json_text.proofs.LiteralLaws.{byte_next}

pub leads_trans : (P Q R : Rule) (s : List ℕ) (at i j : ℕ) → Leads P Q s at i → Leads Q R s i j → Leads P R s at j
leads_trans P Q R s at i j f g = record { from = omega arith; to = λ r p z. g.to r (f.to r p z) z; back = λ r p. f.back r (g.back r p) }

pub exact_leads : (P Q : Rule) (s : List ℕ) (at j : ℕ) → Leads P Q s at j → (x : Option ℕ) → Exact Q s j x → Exact P s at x
unfolding Not
exact_leads P Q s at j g (Some e) h = record { from = omega arith; within = h.within; is = g.back _ h.is; only = λ r p. h.only r (g.to r p tt) }
exact_leads P Q s at j g None h = λ r p. h r (g.to r p tt)

pub exact_skips : (P : Rule) (s : List ℕ) (at : ℕ) (x : Option ℕ) → Exact P s at x → Skips P s at x
unfolding Not NoText
exact_skips P s at (Some e) h = record { from = omega arith; within = h.within; is = h.is; only = λ r p z. h.only r p }
exact_skips P s at None h = λ r p z. h r p

module _ (P Q : Rule) (s : List ℕ) (at : ℕ) where
  pub or_left : Not Q (drop at s) → Leads (P or Q) P s at at
  unfolding ◌or◌ Not
  or_left n = record { from = omega arith; to = λ r p z. go r p; back = λ r p. inl p }
    where
      go : (r : List ℕ) → (P or Q) (drop at s) r → P (drop at s) r
      go r (inl p) = p
      go r (inr q) = absurd (n r q)

  pub or_right : Not P (drop at s) → Leads (P or Q) Q s at at
  unfolding ◌or◌ Not
  or_right n = record { from = omega arith; to = λ r p z. go r p; back = λ r p. inr p }
    where
      go : (r : List ℕ) → (P or Q) (drop at s) r → Q (drop at s) r
      go r (inl p) = absurd (n r p)
      go r (inr q) = q

  pub not_or : Not P (drop at s) → Not Q (drop at s) → Not (P or Q) (drop at s)
  unfolding ◌or◌ Not
  not_or f g r (inl p) = f r p
  not_or f g r (inr p) = g r p

  pub not_then : Not P (drop at s) → Not (P then Q) (drop at s)
  unfolding ◌then◌ Not
  not_then f r (b, (p, q)) = f b p

-- a rule that decides one byte goes on after it
pub record OneByte (P : Rule) : Type 0 where
  pub take : (a b : List ℕ) → P a b → (c : ℕ) × ((0 < c) × (a ≡ c ∷ b))

one_next : (P : Rule) → OneByte P → (s : List ℕ) (at : ℕ) (b : List ℕ) → P (drop at s) b → b ≡ drop (at + 1) s
one_next P O s at b p = let t = O.take (drop at s) b p in byte_next s at t.0 b t.1.1 t.1.0

pub leads_one : (P Q : Rule) → OneByte P → (s : List ℕ) (at : ℕ) → P (drop at s) (drop (at + 1) s) → Leads (P then Q) Q s at (at + 1)
unfolding ◌then◌
leads_one P Q O s at h = record { from = omega arith; to = λ r p z. go r p; back = λ r p. (drop (at + 1) s, (h, p)) }
  where
    go : (r : List ℕ) → (P then Q) (drop at s) r → Q (drop (at + 1) s) r
    go r (b, (p, q)) = rw (one_next P O s at b p) at q

pub exact_one : (P : Rule) → OneByte P → (s : List ℕ) (at : ℕ) → at < length s → P (drop at s) (drop (at + 1) s) → OnlyAt P s at (at + 1)
exact_one P O s at k h = record { from = omega arith; within = omega arith; is = h; only = λ r p. one_next P O s at r p }

pub one_range : (lo hi : ℕ) → 0 < lo → OneByte (range lo hi)
unfolding range
one_range lo hi h = record { take = λ a b p. (p.0, (go p.0 p.1.0, p.1.1.1)) }
  where
    go : (c : ℕ) → lo ≤ c → 0 < c
    go c l = omega arith

pub one_byte_lem : (c : ℕ) → 0 < c → OneByte (byte c)
unfolding byte
one_byte_lem c h = record { take = λ a b e. (c, (h, e)) }

pub one_or : (P Q : Rule) → OneByte P → OneByte Q → OneByte (P or Q)
unfolding ◌or◌
one_or P Q O N = record { take = λ a b p. go a b p }
  where
    go : (a b : List ℕ) → (P or Q) a b → (c : ℕ) × ((0 < c) × (a ≡ c ∷ b))
    go a b (inl p) = O.take a b p
    go a b (inr p) = N.take a b p

-- a rule whose text is one byte, of which Q holds
pub record Says (P : Rule) (Q : ℕ → Type 0) : Type 0 where
  pub some : Q 0 → ⊥
  pub take : (a b : List ℕ) → P a b → (c : ℕ) × (Q c × (a ≡ c ∷ b))
  pub give : (c : ℕ) (b : List ℕ) → Q c → P (c ∷ b) b

pub says_byte : (c : ℕ) → 0 < c → Says (byte c) (λ d. d ≡ c)
unfolding byte
says_byte c h = record { some = λ e. omega arith; take = λ a b e. (c, (refl, e)); give = λ d b e. rw e refl }

pub says_range : (lo hi : ℕ) → 0 < lo → Says (range lo hi) (λ d. (lo ≤ d) × (d ≤ hi))
unfolding range
says_range lo hi h = record { some = λ e. omega arith; take = λ a b p. (p.0, ((p.1.0, p.1.1.0), p.1.1.1)); give = λ d b e. (d, (e.0, (e.1, refl))) }

pub says_or : (P R : Rule) (Q S : ℕ → Type 0) → Says P Q → Says R S → Says (P or R) (λ d. Q d ⊎ S d)
unfolding ◌or◌
says_or P R Q S m n = record { some = λ e. none e; take = λ a b p. take a b p; give = λ d b e. give d b e }
  where
    none : Q 0 ⊎ S 0 → ⊥
    none (inl q) = m.some q
    none (inr q) = n.some q

    take : (a b : List ℕ) → (P or R) a b → (c : ℕ) × ((Q c ⊎ S c) × (a ≡ c ∷ b))
    take a b (inl p) = let t = m.take a b p in (t.0, (inl t.1.0, t.1.1))
    take a b (inr p) = let t = n.take a b p in (t.0, (inr t.1.0, t.1.1))

    give : (d : ℕ) (b : List ℕ) → Q d ⊎ S d → (P or R) (d ∷ b) b
    give d b (inl q) = inl (m.give d b q)
    give d b (inr q) = inr (n.give d b q)

either : (x y : ℕ) → 0 < x → 0 < y → Says (byte x or byte y) (λ d. (d ≡ x) ⊎ (d ≡ y))
either x y h k = says_or _ _ _ _ (says_byte x h) (says_byte y k)

pub says_white : Says white (λ d. (d ≡ 32) ⊎ ((d ≡ 9) ⊎ ((d ≡ 10) ⊎ (d ≡ 13))))
unfolding white
says_white = says_or _ _ _ _ (says_byte 32 (omega arith)) (says_or _ _ _ _ (says_byte 9 (omega arith)) (either 10 13 (omega arith) (omega arith)))

pub says_simple : Says simple (λ d. ((d ≡ 34) ⊎ (d ≡ 92)) ⊎ (((d ≡ 47) ⊎ (d ≡ 98)) ⊎ (((d ≡ 102) ⊎ (d ≡ 110)) ⊎ ((d ≡ 114) ⊎ (d ≡ 116)))))
unfolding simple
says_simple =
    says_or _ _ _ _ (either 34 92 (omega arith) (omega arith))
    (says_or _ _ _ _ (either 47 98 (omega arith) (omega arith))
    (says_or _ _ _ _ (either 102 110 (omega arith) (omega arith)) (either 114 116 (omega arith) (omega arith))))

pub says_hex : Says hex (λ d. ((48 ≤ d) × (d ≤ 57)) ⊎ (((65 ≤ d) × (d ≤ 70)) ⊎ ((97 ≤ d) × (d ≤ 102))))
unfolding hex
says_hex = says_or _ _ _ _ (says_range 48 57 (omega arith)) (says_or _ _ _ _ (says_range 65 70 (omega arith)) (says_range 97 102 (omega arith)))

-- by a test of the byte that stands there
pub here_test : (P : Rule) (Q : ℕ → Type 0) → Says P Q → (s : List ℕ) (at : ℕ) (x : Bool) → Whether (Q (get_or s at 0)) x → Here P s at x
here_test P Q m s at true q =
    let h : 0 < get_or s at 0 = above (get_or s at 0) q in
    (stands s at (get_or s at 0) refl h, rw (at_byte s at (get_or s at 0) refl h) (m.give _ _ q))
  where
    above : (c : ℕ) → Q c → 0 < c
    above zero q = absurd (m.some q)
    above (suc c) q = omega arith
here_test P Q m s at false n = unfold Not in λ b p. let t = m.take (drop at s) b p in n (rw (byte_at s at t.0 b t.1.1) t.1.0)

pub one_hex : OneByte hex
unfolding hex
one_hex = one_or (range 48 57) (range 65 70 or range 97 102) (one_range 48 57 (omega arith)) (one_or (range 65 70) (range 97 102) (one_range 65 70 (omega arith)) (one_range 97 102 (omega arith)))

pub one_simple : OneByte simple
unfolding simple
one_simple =
    one_or _ _ (two 34 92 (omega arith) (omega arith))
    (one_or _ _ (two 47 98 (omega arith) (omega arith))
    (one_or _ _ (two 102 110 (omega arith) (omega arith)) (two 114 116 (omega arith) (omega arith))))
  where
    two : (x y : ℕ) → 0 < x → 0 < y → OneByte (byte x or byte y)
    two x y p q = one_or (byte x) (byte y) (one_byte_lem x p) (one_byte_lem y q)

-- a byte in its range, from the byte that stands there
pub range_yes : (s : List ℕ) (i lo hi : ℕ) → 0 < lo → lo ≤ get_or s i 0 → get_or s i 0 ≤ hi → (i < length s) × range lo hi (drop i s) (drop (i + 1) s)
unfolding range
range_yes s i lo hi p l h = (stands s i (get_or s i 0) refl (omega arith), (get_or s i 0, (l, (h, at_byte s i (get_or s i 0) refl (omega arith)))))

pub range_no : (s : List ℕ) (i lo hi : ℕ) → (lo ≤ get_or s i 0 → get_or s i 0 ≤ hi → ⊥) → Not (range lo hi) (drop i s)
unfolding range Not
range_no s i lo hi f b (c, (l, (h, e))) = let g : get_or s i 0 ≡ c = byte_at s i c b e in f (omega arith) (omega arith)

pub byte_no : (s : List ℕ) (i c : ℕ) → (get_or s i 0 ≡ c → ⊥) → Not (byte c) (drop i s)
unfolding byte Not
byte_no s i c f b e = f (byte_at s i c b e)

module _ (s : List ℕ) (at : ℕ) where
  lead_no : (lo hi : ℕ) (Q : Rule) → (lo ≤ get_or s at 0 → get_or s at 0 ≤ hi → ⊥) → Not (range lo hi then Q) (drop at s)
  lead_no lo hi Q f = not_then (range lo hi) Q s at (range_no s at lo hi f)

  -- the characters by their first byte
  three_no : (224 ≤ get_or s at 0 → get_or s at 0 ≤ 239 → ⊥) → Not utf8_three (drop at s)
  unfolding utf8_three
  three_no f = not_or _ _ s at (lead_no 224 224 _ (λ l h. f (omega arith) (omega arith)))
      (not_or _ _ s at (lead_no 225 236 _ (λ l h. f (omega arith) (omega arith)))
      (not_or _ _ s at (lead_no 237 237 _ (λ l h. f (omega arith) (omega arith)))
      (lead_no 238 239 _ (λ l h. f (omega arith) (omega arith)))))

  four_no : (240 ≤ get_or s at 0 → ⊥) → Not utf8_four (drop at s)
  unfolding utf8_four
  four_no f = not_or _ _ s at (lead_no 240 240 _ (λ l h. f (omega arith)))
      (not_or _ _ s at (lead_no 241 243 _ (λ l h. f (omega arith)))
      (lead_no 244 244 _ (λ l h. f (omega arith))))

  utf8_no : get_or s at 0 < 194 → Not utf8 (drop at s)
  unfolding utf8 utf8_two
  utf8_no k = not_or _ _ s at (lead_no 194 223 _ (λ l h. omega arith)) (not_or _ _ s at (three_no (λ l h. omega arith)) (four_no (λ l. omega arith)))

  pub utf8_two_lem : get_or s at 0 < 224 → Leads utf8 (range 194 223 then tail) s at at
  unfolding utf8 utf8_two
  utf8_two_lem k = or_left _ _ s at (not_or _ _ s at (three_no (λ l h. omega arith)) (four_no (λ l. omega arith)))

  pub utf8_three_lem : 224 ≤ get_or s at 0 → get_or s at 0 < 240 → Leads utf8 utf8_three s at at
  unfolding utf8 utf8_two
  utf8_three_lem k m = leads_trans _ (utf8_three or utf8_four) _ s at at at (or_right _ _ s at (lead_no 194 223 _ (λ l h. omega arith))) (or_left _ _ s at (four_no (λ l. omega arith)))

  pub utf8_four_lem : 240 ≤ get_or s at 0 → Leads utf8 utf8_four s at at
  unfolding utf8 utf8_two
  utf8_four_lem k = leads_trans _ (utf8_three or utf8_four) _ s at at at (or_right _ _ s at (lead_no 194 223 _ (λ l h. omega arith))) (or_right _ _ s at (three_no (λ l h. omega arith)))

  pub three_1 : get_or s at 0 < 225 → Leads utf8_three (range 224 224 then range 160 191 then tail) s at at
  unfolding utf8_three
  three_1 k = or_left _ _ s at (not_or _ _ s at (lead_no 225 236 _ (λ l h. omega arith)) (not_or _ _ s at (lead_no 237 237 _ (λ l h. omega arith)) (lead_no 238 239 _ (λ l h. omega arith))))

  pub three_2 : 225 ≤ get_or s at 0 → get_or s at 0 < 237 → Leads utf8_three (range 225 236 then tail then tail) s at at
  unfolding utf8_three
  three_2 k m = leads_trans _ _ _ s at at at (or_right _ _ s at (lead_no 224 224 _ (λ l h. omega arith)))
      (or_left _ _ s at (not_or _ _ s at (lead_no 237 237 _ (λ l h. omega arith)) (lead_no 238 239 _ (λ l h. omega arith))))

  pub three_3 : 237 ≤ get_or s at 0 → get_or s at 0 < 238 → Leads utf8_three (range 237 237 then range 128 159 then tail) s at at
  unfolding utf8_three
  three_3 k m = leads_trans _ _ _ s at at at (or_right _ _ s at (lead_no 224 224 _ (λ l h. omega arith)))
      (leads_trans _ _ _ s at at at (or_right _ _ s at (lead_no 225 236 _ (λ l h. omega arith))) (or_left _ _ s at (lead_no 238 239 _ (λ l h. omega arith))))

  pub three_4 : 238 ≤ get_or s at 0 → Leads utf8_three (range 238 239 then tail then tail) s at at
  unfolding utf8_three
  three_4 k = leads_trans _ _ _ s at at at (or_right _ _ s at (lead_no 224 224 _ (λ l h. omega arith)))
      (leads_trans _ _ _ s at at at (or_right _ _ s at (lead_no 225 236 _ (λ l h. omega arith))) (or_right _ _ s at (lead_no 237 237 _ (λ l h. omega arith))))

  pub four_1 : get_or s at 0 < 241 → Leads utf8_four (range 240 240 then range 144 191 then tail then tail) s at at
  unfolding utf8_four
  four_1 k = or_left _ _ s at (not_or _ _ s at (lead_no 241 243 _ (λ l h. omega arith)) (lead_no 244 244 _ (λ l h. omega arith)))

  pub four_2 : 241 ≤ get_or s at 0 → get_or s at 0 < 244 → Leads utf8_four (range 241 243 then tail then tail then tail) s at at
  unfolding utf8_four
  four_2 k m = leads_trans _ _ _ s at at at (or_right _ _ s at (lead_no 240 240 _ (λ l h. omega arith))) (or_left _ _ s at (lead_no 244 244 _ (λ l h. omega arith)))

  pub four_3 : 244 ≤ get_or s at 0 → Leads utf8_four (range 244 244 then range 128 143 then tail then tail) s at at
  unfolding utf8_four
  four_3 k = leads_trans _ _ _ s at at at (or_right _ _ s at (lead_no 240 240 _ (λ l h. omega arith))) (or_right _ _ s at (lead_no 241 243 _ (λ l h. omega arith)))

  -- char
  plain_no : (get_or s at 0 < 32) ⊎ ((get_or s at 0 ≡ 34) ⊎ (get_or s at 0 ≡ 92)) → Not unescaped (drop at s)
  unfolding unescaped
  plain_no (inl k) =
      not_or _ _ s at (range_no s at 32 33 (λ l h. omega arith))
      (not_or _ _ s at (range_no s at 35 91 (λ l h. omega arith))
      (not_or _ _ s at (range_no s at 93 127 (λ l h. omega arith)) (utf8_no (omega arith))))
  plain_no (inr (inl k)) =
      not_or _ _ s at (range_no s at 32 33 (λ l h. omega arith))
      (not_or _ _ s at (range_no s at 35 91 (λ l h. omega arith))
      (not_or _ _ s at (range_no s at 93 127 (λ l h. omega arith)) (utf8_no (omega arith))))
  plain_no (inr (inr k)) =
      not_or _ _ s at (range_no s at 32 33 (λ l h. omega arith))
      (not_or _ _ s at (range_no s at 35 91 (λ l h. omega arith))
      (not_or _ _ s at (range_no s at 93 127 (λ l h. omega arith)) (utf8_no (omega arith))))

  escape_no : (get_or s at 0 ≡ 92 → ⊥) → Not (byte 92 then (simple or (byte 117 then hex then hex then hex then hex))) (drop at s)
  escape_no f = not_then _ _ s at (byte_no s at 92 f)

  pub char_low : get_or s at 0 < 32 → Not char (drop at s)
  unfolding char
  char_low k = not_or _ _ s at (plain_no (inl k)) (escape_no (λ e. omega arith))

  pub char_quote : get_or s at 0 ≡ 34 → Not char (drop at s)
  unfolding char
  char_quote k = not_or _ _ s at (plain_no (inr (inl k))) (escape_no (λ e. omega arith))

  pub char_utf8 : 128 ≤ get_or s at 0 → Leads char utf8 s at at
  unfolding char unescaped
  char_utf8 k = leads_trans _ _ _ s at at at (or_left _ _ s at (escape_no (λ e. omega arith)))
      (leads_trans _ _ _ s at at at (or_right _ _ s at (range_no s at 32 33 (λ l h. omega arith)))
      (leads_trans _ _ _ s at at at (or_right _ _ s at (range_no s at 35 91 (λ l h. omega arith))) (or_right _ _ s at (range_no s at 93 127 (λ l h. omega arith)))))

  char_1 : 32 ≤ get_or s at 0 → get_or s at 0 ≤ 33 → Leads char (range 32 33) s at at
  unfolding char unescaped
  char_1 k m = leads_trans _ _ _ s at at at (or_left _ _ s at (escape_no (λ e. omega arith)))
      (or_left _ _ s at (not_or _ _ s at (range_no s at 35 91 (λ l h. omega arith)) (not_or _ _ s at (range_no s at 93 127 (λ l h. omega arith)) (utf8_no (omega arith)))))

  char_2 : 35 ≤ get_or s at 0 → get_or s at 0 ≤ 91 → Leads char (range 35 91) s at at
  unfolding char unescaped
  char_2 k m = leads_trans _ _ _ s at at at (or_left _ _ s at (escape_no (λ e. omega arith)))
      (leads_trans _ _ _ s at at at (or_right _ _ s at (range_no s at 32 33 (λ l h. omega arith)))
      (or_left _ _ s at (not_or _ _ s at (range_no s at 93 127 (λ l h. omega arith)) (utf8_no (omega arith)))))

  char_3 : 93 ≤ get_or s at 0 → get_or s at 0 ≤ 127 → Leads char (range 93 127) s at at
  unfolding char unescaped
  char_3 k m = leads_trans _ _ _ s at at at (or_left _ _ s at (escape_no (λ e. omega arith)))
      (leads_trans _ _ _ s at at at (or_right _ _ s at (range_no s at 32 33 (λ l h. omega arith)))
      (leads_trans _ _ _ s at at at (or_right _ _ s at (range_no s at 35 91 (λ l h. omega arith))) (or_left _ _ s at (utf8_no (omega arith)))))

  one : (lo hi : ℕ) → 0 < lo → lo ≤ get_or s at 0 → get_or s at 0 ≤ hi → OnlyAt (range lo hi) s at (at + 1)
  one lo hi p l h = let y = range_yes s at lo hi p l h in exact_one (range lo hi) (one_range lo hi p) s at y.0 y.1

  pub char_plain : 32 ≤ get_or s at 0 → get_or s at 0 ≤ 127 → (get_or s at 0 ≡ 34 → ⊥) → (get_or s at 0 ≡ 92 → ⊥) → OnlyAt char s at (at + 1)
  char_plain l h q b = go (lt_or_ge (get_or s at 0) 34) (lt_or_ge (get_or s at 0) 92)
    where
      go : (get_or s at 0 < 34) ⊎ (34 ≤ get_or s at 0) → (get_or s at 0 < 92) ⊎ (92 ≤ get_or s at 0) → OnlyAt char s at (at + 1)
      go (inl x) y = exact_leads _ _ s at at (char_1 l (omega arith)) (Some (at + 1)) (one 32 33 (omega arith) (omega arith) (omega arith))
      go (inr x) (inl y) = exact_leads _ _ s at at (char_2 (omega arith) (omega arith)) (Some (at + 1)) (one 35 91 (omega arith) (omega arith) (omega arith))
      go (inr x) (inr y) = exact_leads _ _ s at at (char_3 (omega arith) (omega arith)) (Some (at + 1)) (one 93 127 (omega arith) (omega arith) (omega arith))

  byte_yes : (c : ℕ) → 0 < c → get_or s at 0 ≡ c → byte c (drop at s) (drop (at + 1) s)
  unfolding byte
  byte_yes c p e = at_byte s at c e p

  char_escape : get_or s at 0 ≡ 92 → Leads char (simple or (byte 117 then hex then hex then hex then hex)) s at (at + 1)
  unfolding char
  char_escape e = leads_trans _ _ _ s at at (at + 1) (or_right _ _ s at (plain_no (inr (inr e)))) (leads_one _ _ (one_byte_lem 92 (omega arith)) s at (byte_yes 92 (omega arith) e))

  -- string
  pub string_starts_at : get_or s at 0 ≡ 34 → Leads string (many char then byte 34) s at (at + 1)
  unfolding string
  string_starts_at e = leads_one _ _ (one_byte_lem 34 (omega arith)) s at (byte_yes 34 (omega arith) e)

  pub string_no : (get_or s at 0 ≡ 34 → ⊥) → Not string (drop at s)
  unfolding string
  string_no f = not_then _ _ s at (byte_no s at 34 f)

  pub string_end : get_or s at 0 ≡ 34 → OnlyAt (many char then byte 34) s at (at + 1)
  string_end e = let k = stands s at 34 e (omega arith) in record { from = omega arith; within = omega arith; is = is; only = λ r p. only r p }
    where
      is : (many char then byte 34) (drop at s) (drop (at + 1) s)
      is = unfold ◌then◌ in (drop at s, (none, byte_yes 34 (omega arith) e))

      only : (r : List ℕ) → (many char then byte 34) (drop at s) r → r ≡ drop (at + 1) s
      only r p = unfold ◌then◌ in go p.0 p.1.0 p.1.1
        where
          go : (b : List ℕ) → many char (drop at s) b → byte 34 b r → r ≡ drop (at + 1) s
          go b none q = unfold byte in byte_next s at 34 r q (omega arith)
          go b (more c m) q = unfold Not in absurd (char_quote e _ c)

  pub string_wrong : (get_or s at 0 ≡ 34 → ⊥) → Not char (drop at s) → Not (many char then byte 34) (drop at s)
  unfolding Not ◌then◌ byte
  string_wrong f n r (b, (none, q)) = f (byte_at s at 34 r q)
  string_wrong f n r (b, (more c m, q)) = n _ c

  pub string_more : (e : ℕ) → (get_or s at 0 ≡ 34 → ⊥) → OnlyAt char s at e → Leads (many char then byte 34) (many char then byte 34) s at e
  string_more e f c = record { from = omega arith; to = λ r p z. to r p; back = λ r p. back r p }
    where
      to : (r : List ℕ) → (many char then byte 34) (drop at s) r → (many char then byte 34) (drop e s) r
      to r p = unfold ◌then◌ in go p.0 p.1.0 p.1.1
        where
          go : (b : List ℕ) → many char (drop at s) b → byte 34 b r → (many char then byte 34) (drop e s) r
          go b none q = unfold byte in absurd (f (byte_at s at 34 r q))
          go b (more d m) q = unfold ◌then◌ in (b, (rw (c.only _ d) at m, q))

      back : (r : List ℕ) → (many char then byte 34) (drop e s) r → (many char then byte 34) (drop at s) r
      back r p = unfold ◌then◌ in (p.0, (more c.is p.1.0, p.1.1))

pub leads_here : (P : Rule) (s : List ℕ) (at : ℕ) → Leads P P s at at
leads_here P s at = record { from = omega arith; to = λ r p z. p; back = λ r p. p }

module _ (s : List ℕ) (at : ℕ) where
  simple_no : (get_or s at 0 ≡ 117) → Not simple (drop at s)
  unfolding simple
  simple_no e =
      not_or _ _ s at (two 34 92 (omega arith) (omega arith))
      (not_or _ _ s at (two 47 98 (omega arith) (omega arith))
      (not_or _ _ s at (two 102 110 (omega arith) (omega arith)) (two 114 116 (omega arith) (omega arith))))
    where
      two : (x y : ℕ) → x < 117 → y < 117 → Not (byte x or byte y) (drop at s)
      two x y p q = not_or _ _ s at (byte_no s at x (λ k. omega arith)) (byte_no s at y (λ k. omega arith))

  u_no : (get_or s at 0 ≡ 117 → ⊥) → Not (byte 117 then hex then hex then hex then hex) (drop at s)
  u_no f = not_then _ _ s at (byte_no s at 117 f)

-- the escapes
module _ (s : List ℕ) (at : ℕ) (back : get_or s at 0 ≡ 92) where
  pub char_hex : get_or s (at + 1) 0 ≡ 117 → Leads char (hex then hex then hex then hex) s at (at + 2)
  char_hex u =
      let e : at + 1 + 1 ≡ at + 2 = omega arith in
      let f : Leads (byte 117 then hex then hex then hex then hex) (hex then hex then hex then hex) s (at + 1) (at + 2) =
      rw e at (leads_one (byte 117) (hex then hex then hex then hex) (one_byte_lem 117 (omega arith)) s (at + 1) (byte_yes s (at + 1) 117 (omega arith) u)) in
      leads_trans _ _ _ s at (at + 1) (at + 2) (char_escape s at back)
      (leads_trans _ _ _ s (at + 1) (at + 1) (at + 2) (or_right _ _ s (at + 1) (simple_no s (at + 1) u)) f)

  char_one : (get_or s (at + 1) 0 ≡ 117 → ⊥) → Leads char simple s at (at + 1)
  char_one n = leads_trans _ _ _ s at (at + 1) (at + 1) (char_escape s at back) (or_left _ _ s (at + 1) (u_no s (at + 1) n))

  pub char_simple : (get_or s (at + 1) 0 ≡ 117 → ⊥) → (x : Bool) → Here simple s (at + 1) x → x ≡ true → OnlyAt char s at (at + 2)
  char_simple n x h q =
      let y = rw q at h in
      let e : at + 1 + 1 ≡ at + 2 = omega arith in
      exact_leads _ _ s at (at + 1) (char_one n) (Some (at + 2)) (rw e at (exact_one simple one_simple s (at + 1) y.0 y.1))

  pub char_no_escape : (get_or s (at + 1) 0 ≡ 117 → ⊥) → (x : Bool) → Here simple s (at + 1) x → x ≡ false → Not char (drop at s)
  char_no_escape n x h q = exact_leads char simple s at (at + 1) (char_one n) None (rw q at h)

-- sequences of bytes, one by one
pub exact_then : (P Q : Rule) → OneByte P → (s : List ℕ) (at j : ℕ) → at + 1 ≡ j → (x : Option ℕ)
    → (at < length s) × P (drop at s) (drop (at + 1) s) → Exact Q s j x → Exact (P then Q) s at x
exact_then P Q O s at j e x h q = exact_leads (P then Q) Q s at j (rw e at (leads_one P Q O s at h.1)) x q

pub here_exact : (P : Rule) → OneByte P → (s : List ℕ) (at j : ℕ) → at + 1 ≡ j → (at < length s) × P (drop at s) (drop (at + 1) s) → OnlyAt P s at j
here_exact P O s at j e h = rw e at (exact_one P O s at h.0 h.1)

pub exact_to : (P : Rule) (s : List ℕ) (at : ℕ) (x : Option ℕ) (e : ℕ) → Exact P s at x → x ≡ Some e → OnlyAt P s at e
exact_to P s at x e h q = rw q at h

-- a byte of each range in turn
module _ (s : List ℕ) (j : ℕ) (r : ℕ × ℕ) (rs : List (ℕ × ℕ)) where
  pub turn_next : 0 < r.0 → (j < length s) × range r.0 r.1 (drop j s) (drop (j + 1) s) → Leads (in_turn (r ∷ rs)) (in_turn rs) s j (j + 1)
  turn_next h y = go rs
    where
      go : (rs : List (ℕ × ℕ)) → Leads (in_turn (r ∷ rs)) (in_turn rs) s j (j + 1)
      go [] = record {
        from = omega arith;
        to = λ b p z. sym (one_next (range r.0 r.1) (one_range r.0 r.1 h) s j b p);
        back = λ b e. rw e at y.1;
      }
      go (q ∷ qs) = leads_one (range r.0 r.1) (in_turn (q ∷ qs)) (one_range r.0 r.1 h) s j y.1

  pub turn_wrong : Not (range r.0 r.1) (drop j s) → Not (in_turn (r ∷ rs)) (drop j s)
  turn_wrong n = go rs
    where
      go : (rs : List (ℕ × ℕ)) → Not (in_turn (r ∷ rs)) (drop j s)
      go [] = n
      go (q ∷ qs) = not_then (range r.0 r.1) (in_turn (q ∷ qs)) s j n

module _ (rs : List (ℕ × ℕ)) (i : ℕ) (h : i < length rs) (s : List ℕ) (at j : ℕ) (g : Leads (in_turn rs) (in_turn (drop i rs)) s at j) where
  here : drop i rs ≡ get_or rs i (0, 0) ∷ drop (i + 1) rs
  here = rw add-one (drop-cons rs i (0, 0) h)

  pub turns_next : All (λ r. 0 < r.0) rs → (let r = get_or rs i (0, 0) in (j < length s) × range r.0 r.1 (drop j s) (drop (j + 1) s))
      → Leads (in_turn rs) (in_turn (drop (i + 1) rs)) s at (j + 1)
  turns_next a y =
      leads_trans (in_turn rs) (in_turn (drop i rs)) (in_turn (drop (i + 1) rs)) s at j (j + 1) g
      (subst (λ (x : List (ℕ × ℕ)). Leads (in_turn x) (in_turn (drop (i + 1) rs)) s j (j + 1)) (sym here)
      (turn_next s j (get_or rs i (0, 0)) (drop (i + 1) rs) (All-get_or (λ r. 0 < r.0) rs i (0, 0) h a) y))

  pub turns_wrong : (let r = get_or rs i (0, 0) in Not (range r.0 r.1) (drop j s)) → Not (in_turn rs) (drop at s)
  turns_wrong n =
      exact_leads (in_turn rs) (in_turn (drop i rs)) s at j g None
      (subst (λ (x : List (ℕ × ℕ)). Not (in_turn x) (drop j s)) (sym here) (turn_wrong s j (get_or rs i (0, 0)) (drop (i + 1) rs) n))
