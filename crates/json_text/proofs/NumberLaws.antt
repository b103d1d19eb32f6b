-- Laws of numbers: where a number ends is said by what follows it. Assumes nothing.
use mathlib.Core.Path.{◌≡◌, refl, sym, ap, ◌∙◌}
use Rattle.std.specs.Prelude.{Option, None, Some}
use mathlib.Core.List.{List, ◌∷◌}
use mathlib.Core.Logic.{◌⊎◌, inl, inr}
use mathlib.Core.Bool.{Bool, true, false}
use Prim.Native.Nat.{ℕ, ◌+◌, ◌≤◌, ◌<◌}
use native.Mathlib.Omega.{arith}
use lib.ListN.{length, get_or, drop}
use Rattle.json_text.specs.Grammar.{Rule, byte, range, option, ◌then◌, ◌or◌, many, more, some, digit, int, frac, exp, number}
use Rattle.json_text.specs.Skips.{Ends, Follow, EndsAt, NoText, Skips, Not, Here, RunTo, SomeTo, SkipsSome}
use Rattle.json_text.proofs.WsLaws.{stands, at_byte, byte_at, head_eq, tail_eq, tail, run_only}
use Rattle.json_text.proofs.StepLaws.{Runs}
use Rattle.json_text.proofs.ScalarLaws.{First, first_at, int_first}

-- a digit, or one of two bytes, from the byte that stands there
pub digit_yes : (s : List ℕ) (i : ℕ) → 48 ≤ get_or s i 0 → get_or s i 0 ≤ 57 → (i < length s) × digit (drop i s) (drop (i + 1) s)
unfolding digit range
digit_yes s i l h = (stands s i (get_or s i 0) refl (omega arith), (get_or s i 0, (l, (h, at_byte s i (get_or s i 0) refl (omega arith)))))

pub digit_no : (s : List ℕ) (i : ℕ) → (48 ≤ get_or s i 0 → get_or s i 0 ≤ 57 → ⊥) → Not digit (drop i s)
unfolding digit range Not
digit_no s i f b (c, (l, (h, e))) = let g : get_or s i 0 ≡ c = byte_at s i c b e in f (omega arith) (omega arith)

pub two_no : (s : List ℕ) (i x y : ℕ) → (get_or s i 0 ≡ x → ⊥) → (get_or s i 0 ≡ y → ⊥) → Not (byte x or byte y) (drop i s)
unfolding Not ◌or◌ byte
two_no s i x y f g b (inl e) = f (byte_at s i x b e)
two_no s i x y f g b (inr e) = g (byte_at s i y b e)

pub two_yes : (s : List ℕ) (i x y c : ℕ) → get_or s i 0 ≡ c → 0 < c → (c ≡ x) ⊎ (c ≡ y) → (i < length s) × (byte x or byte y) (drop i s) (drop (i + 1) s)
unfolding ◌or◌ byte
two_yes s i x y c e h (inl k) = (stands s i c e h, inl (rw k at (at_byte s i c e h)))
two_yes s i x y c e h (inr k) = (stands s i c e h, inr (rw k at (at_byte s i c e h)))

digit_tail : (a b : List ℕ) → digit a b → tail a ≡ b
unfolding digit range tail
digit_tail a b (c, (l, (h, e))) = ap tail e

-- all the digits are one run
pub digits_only : {a b c : List ℕ} → many digit a b → Not digit b → many digit a c → Not digit c → b ≡ c
digits_only m p n q = run_only digit digit_tail m p n q

pub some_only : (a b c : List ℕ) → some digit a b → Not digit b → some digit a c → Not digit c → b ≡ c
unfolding some ◌then◌
some_only a b c (x, (d, m)) p (y, (e, n)) q = digits_only (more d m) p (more e n) q

pub some_first : (a b : List ℕ) → some digit a b → First 48 57 a
unfolding some ◌then◌ digit range
some_first a b (x, ((c, (l, (h, e))), m)) = record { first = c; after = x; is = e; low = l; high = h }

-- what follows a value is no part of a number
pub record NotNumeric (c : ℕ) : Type 0 where
  pub digit : 48 ≤ c → c ≤ 57 → ⊥
  pub point : c ≡ 46 → ⊥
  pub small : c ≡ 101 → ⊥
  pub big : c ≡ 69 → ⊥

follow_no : (c : ℕ) → Follow c → NotNumeric c
unfolding Follow
follow_no c (inl e) = record { digit = λ l h. omega arith; point = λ f. omega arith; small = λ f. omega arith; big = λ f. omega arith }
follow_no c (inr (inl e)) = record { digit = λ l h. omega arith; point = λ f. omega arith; small = λ f. omega arith; big = λ f. omega arith }
follow_no c (inr (inr (inl e))) = record { digit = λ l h. omega arith; point = λ f. omega arith; small = λ f. omega arith; big = λ f. omega arith }
follow_no c (inr (inr (inr (inl e)))) = record { digit = λ l h. omega arith; point = λ f. omega arith; small = λ f. omega arith; big = λ f. omega arith }
follow_no c (inr (inr (inr (inr (inl e))))) = record { digit = λ l h. omega arith; point = λ f. omega arith; small = λ f. omega arith; big = λ f. omega arith }
follow_no c (inr (inr (inr (inr (inr (inl e)))))) = record { digit = λ l h. omega arith; point = λ f. omega arith; small = λ f. omega arith; big = λ f. omega arith }
follow_no c (inr (inr (inr (inr (inr (inr (inl e))))))) = record { digit = λ l h. omega arith; point = λ f. omega arith; small = λ f. omega arith; big = λ f. omega arith }
follow_no c (inr (inr (inr (inr (inr (inr (inr e))))))) = record { digit = λ l h. omega arith; point = λ f. omega arith; small = λ f. omega arith; big = λ f. omega arith }

pub ends_no : (a b : List ℕ) (c : ℕ) → a ≡ c ∷ b → Ends a → NotNumeric c
unfolding Ends
ends_no a b c e h = follow_no c (rw e at h)

pub ends_nodigit : (a : List ℕ) → Ends a → Not digit a
unfolding Not digit range
ends_nodigit a h b (c, (l, (k, e))) = (ends_no a b c e h).digit l k

-- a first byte that is no digit
first_nodigit : (a b : List ℕ) (c : ℕ) → a ≡ c ∷ b → (48 ≤ c → c ≤ 57 → ⊥) → Not digit a
unfolding Not digit range
first_nodigit a b c e f x (d, (l, (h, g))) = let k : c ≡ d = head_eq (sym e ∙ g) in f (omega arith) (omega arith)

pub exp_first : (a b : List ℕ) → exp a b → (z : List ℕ) × ((a ≡ 101 ∷ z) ⊎ (a ≡ 69 ∷ z))
unfolding exp ◌then◌ ◌or◌ byte
exp_first a b (n, (e, f)) = (n, e)

exp_nodigit : (a b : List ℕ) → exp a b → Not digit a
exp_nodigit a b p = let t = exp_first a b p in go t.0 t.1
  where
    go : (z : List ℕ) → (a ≡ 101 ∷ z) ⊎ (a ≡ 69 ∷ z) → Not digit a
    go z (inl e) = first_nodigit a z 101 e (λ l h. omega arith)
    go z (inr e) = first_nodigit a z 69 e (λ l h. omega arith)

-- the end of a number begins with no digit
pub end_nodigit : (a r : List ℕ) → option exp a r → Ends r → Not digit a
unfolding option
end_nodigit a r (inl e) h = rw e (ends_nodigit r h)
end_nodigit a r (inr p) h = exp_nodigit a r p

pub frac_nodigit : (a r : List ℕ) → (option frac then option exp) a r → Ends r → Not digit a
unfolding option ◌then◌ frac byte
frac_nodigit a r (b, (inl e, p)) h = rw e (end_nodigit b r p h)
frac_nodigit a r (b, (inr (z, (e, q)), p)) h = first_nodigit a z 46 e (λ l k. omega arith)

-- digits at the end of a number
pub some_skips : (s : List ℕ) (at : ℕ) (x : Option ℕ) → SkipsSome digit s at x → Skips (some digit) s at x
unfolding NoText
some_skips s at (Some e) h = record { from = h.from; within = h.within; is = h.is; only = λ r p z. some_only (drop at s) r (drop e s) p (ends_nodigit r z) h.is h.all }
some_skips s at None h = λ r p z. go r p
  where
    go : (r : List ℕ) → some digit (drop at s) r → ⊥
    go r p = unfold some ◌then◌ Not in h p.0 p.1.0

module _ (s : List ℕ) (at : ℕ) where
  -- skip_some_digits
  pub some_digits : (at < length s) × digit (drop at s) (drop (at + 1) s) → (e : ℕ) → RunTo digit s (at + 1) e → SomeTo digit s at e
  unfolding some ◌then◌
  some_digits d e r = record { from = omega arith; within = r.within; is = (drop (at + 1) s, (d.1, r.is)); all = r.all }

  -- skip_exp
  pub exp_none : at ≤ length s → Not (byte 101 or byte 69) (drop at s) → EndsAt (option exp) s at at
  unfolding option exp ◌then◌ Not
  exp_none h n = record { from = omega arith; within = h; is = inl refl; only = λ r p z. go r p }
    where
      go : (r : List ℕ) → option exp (drop at s) r → r ≡ drop at s
      go r (inl e) = sym e
      go r (inr (b, (f, q))) = absurd (n b f)

  e_not_end : (b : List ℕ) → (byte 101 or byte 69) (drop at s) b → Ends (drop at s) → ⊥
  unfolding ◌or◌ byte
  e_not_end b (inl e) z = (ends_no _ b 101 e z).small refl
  e_not_end b (inr e) z = (ends_no _ b 69 e z).big refl

  two_tail : (x y : ℕ) (a b : List ℕ) → (byte x or byte y) a b → tail a ≡ b
  unfolding ◌or◌ byte tail
  two_tail x y a b (inl e) = ap tail e
  two_tail x y a b (inr e) = ap tail e

  exp_sign_digits : (byte 101 or byte 69) (drop at s) (drop (at + 1) s) → (r : List ℕ) → option exp (drop at s) r → Ends r → (option (byte 45 or byte 43) then some digit) (drop (at + 1) s) r
  unfolding option exp ◌then◌
  exp_sign_digits e r (inl q) z = absurd (e_not_end _ e (rw q z))
  exp_sign_digits e r (inr (b, (f, q))) z =
      let k : b ≡ drop (at + 1) s = sym (two_tail 101 69 _ b f) ∙ two_tail 101 69 _ _ e in rw k at q

  pub exp_signed : (byte 101 or byte 69) (drop at s) (drop (at + 1) s) → (byte 45 or byte 43) (drop (at + 1) s) (drop (at + 2) s) → Runs (option exp) (some digit) s at (at + 2)
  exp_signed e f = record { from = omega arith; to = λ r p z. go r (exp_sign_digits e r p z); back = λ r p. back r p }
    where
      digit_sign : (a r b : List ℕ) → some digit a r → (byte 45 or byte 43) a b → ⊥
      digit_sign a r b p g = unfold ◌or◌ byte in
          let d = some_first a r p in
          case d.is d.low d.high g
        where
          case : {c : ℕ} {y : List ℕ} → a ≡ c ∷ y → 48 ≤ c → c ≤ 57 → (a ≡ 45 ∷ b) ⊎ (a ≡ 43 ∷ b) → ⊥
          case k l h (inl m) = let n = head_eq (sym k ∙ m) in omega arith
          case k l h (inr m) = let n = head_eq (sym k ∙ m) in omega arith

      go : (r : List ℕ) → (option (byte 45 or byte 43) then some digit) (drop (at + 1) s) r → some digit (drop (at + 2) s) r
      go r p = unfold option ◌then◌ in split p.0 p.1.0 p.1.1
        where
          split : (b : List ℕ) → (drop (at + 1) s ≡ b) ⊎ ((byte 45 or byte 43) (drop (at + 1) s) b) → some digit b r → some digit (drop (at + 2) s) r
          split b (inl k) q = absurd (digit_sign _ r _ (rw (sym k) at q) f)
          split b (inr g) q = let k : b ≡ drop (at + 2) s = sym (two_tail 45 43 _ b g) ∙ two_tail 45 43 _ _ f in rw k at q

      back : (r : List ℕ) → some digit (drop (at + 2) s) r → option exp (drop at s) r
      back r p = unfold option exp ◌then◌ in inr (drop (at + 1) s, (e, (drop (at + 2) s, (inr f, p))))

  pub exp_plain : (byte 101 or byte 69) (drop at s) (drop (at + 1) s) → Not (byte 45 or byte 43) (drop (at + 1) s) → Runs (option exp) (some digit) s at (at + 1)
  exp_plain e f = record { from = omega arith; to = λ r p z. go r (exp_sign_digits e r p z); back = λ r p. back r p }
    where
      go : (r : List ℕ) → (option (byte 45 or byte 43) then some digit) (drop (at + 1) s) r → some digit (drop (at + 1) s) r
      go r p = unfold option ◌then◌ in split p.0 p.1.0 p.1.1
        where
          split : (b : List ℕ) → (drop (at + 1) s ≡ b) ⊎ ((byte 45 or byte 43) (drop (at + 1) s) b) → some digit b r → some digit (drop (at + 1) s) r
          split b (inl k) q = rw (sym k) at q
          split b (inr g) q = unfold Not in absurd (f b g)

      back : (r : List ℕ) → some digit (drop (at + 1) s) r → option exp (drop at s) r
      back r p = unfold option exp ◌then◌ in inr (drop (at + 1) s, (e, (drop (at + 1) s, (inl refl, p))))

  -- skip_frac
  pub frac_none : (get_or s at 0 ≡ 46 → ⊥) → Runs (option frac then option exp) (option exp) s at at
  unfolding option ◌then◌ frac byte
  frac_none n = record { from = omega arith; to = λ r p z. go r p; back = λ r p. (drop at s, (inl refl, p)) }
    where
      go : (r : List ℕ) → (option frac then option exp) (drop at s) r → option exp (drop at s) r
      go r (b, (inl e, p)) = rw e p
      go r (b, (inr (z, (e, q)), p)) = absurd (n (byte_at s at 46 z e))

  pub point_not_end : (a b r : List ℕ) → a ≡ 46 ∷ b → option exp a r → Ends r → ⊥
  unfolding option
  point_not_end a b r e (inl k) z = (ends_no r b 46 (sym k ∙ e) z).point refl
  point_not_end a b r e (inr p) z = let t = exp_first a r p in go t.0 t.1
    where
      go : (y : List ℕ) → (a ≡ 101 ∷ y) ⊎ (a ≡ 69 ∷ y) → ⊥
      go y (inl k) = let h = head_eq (sym e ∙ k) in omega arith
      go y (inr k) = let h = head_eq (sym e ∙ k) in omega arith

  frac_digits : get_or s at 0 ≡ 46 → (r : List ℕ) → (option frac then option exp) (drop at s) r → Ends r → (some digit then option exp) (drop (at + 1) s) r
  unfolding option ◌then◌ frac byte
  frac_digits e r (b, (inl k, p)) z = absurd (point_not_end _ _ r (at_byte s at 46 e (omega arith)) (rw k p) z)
  frac_digits e r (b, (inr (y, (k, q)), p)) z =
      let h : y ≡ drop (at + 1) s = tail_eq (sym k ∙ at_byte s at 46 e (omega arith)) in (b, (rw h at q, p))

  pub frac_wrong : get_or s at 0 ≡ 46 → Not digit (drop (at + 1) s) → NoText (option frac then option exp) s at
  unfolding NoText Not ◌then◌
  frac_wrong e n r p z = let q = frac_digits e r p z in go q.0 q.1.0
    where
      go : (b : List ℕ) → some digit (drop (at + 1) s) b → ⊥
      go b m = unfold some ◌then◌ in n m.0 m.1.0

  pub frac_some : (e : ℕ) → get_or s at 0 ≡ 46 → SomeTo digit s (at + 1) e → Runs (option frac then option exp) (option exp) s at e
  unfolding option ◌then◌ frac byte
  frac_some e k d = record {
    from = omega arith;
    to = λ r p z. go r z (frac_digits k r p z);
    back = λ r p. (drop e s, (inr (drop (at + 1) s, (at_byte s at 46 k (omega arith), d.is)), p));
  }
    where
      go : (r : List ℕ) → Ends r → (some digit then option exp) (drop (at + 1) s) r → option exp (drop e s) r
      go r z (b, (m, p)) = let h : b ≡ drop e s = some_only (drop (at + 1) s) b (drop e s) m (end_nodigit b r p z) d.is d.all in rw h at p

  -- skip_int
  pub int_zero : get_or s at 0 ≡ 48 → Runs (int then option frac then option exp) (option frac then option exp) s at (at + 1)
  unfolding ◌then◌ int ◌or◌ byte range
  int_zero e = record { from = omega arith; to = λ r p z. go r p; back = λ r p. (drop (at + 1) s, (inl (at_byte s at 48 e (omega arith)), p)) }
    where
      go : (r : List ℕ) → (int then option frac then option exp) (drop at s) r → (option frac then option exp) (drop (at + 1) s) r
      go r (b, (inl k, p)) = let h : b ≡ drop (at + 1) s = tail_eq (sym k ∙ at_byte s at 48 e (omega arith)) in rw h at p
      go r (b, (inr (y, ((c, (l, (h, k))), m)), p)) = let g : 48 ≡ c = sym e ∙ byte_at s at c y k in absurd (omega arith)

  pub int_wrong : Not digit (drop at s) → NoText (int then option frac then option exp) s at
  unfolding NoText ◌then◌ Not digit range
  int_wrong n r (b, (i, p)) z = let f = int_first _ b i in n f.after (f.first, (f.low, (f.high, f.is)))

  pub int_some : (e : ℕ) → (get_or s at 0 ≡ 48 → ⊥) → SomeTo digit s at e → Runs (int then option frac then option exp) (option frac then option exp) s at e
  unfolding ◌then◌ int ◌or◌ byte range some digit
  int_some e n d = record { from = d.from; to = λ r p z. go r z p; back = λ r p. (drop e s, (inr (head d.is), p)) }
    where
      go : (r : List ℕ) → Ends r → (int then option frac then option exp) (drop at s) r → (option frac then option exp) (drop e s) r
      go r z (b, (inl k, p)) = absurd (n (byte_at s at 48 b k))
      go r z (b, (inr (y, ((c, (l, (h, k))), m)), p)) =
          let q : b ≡ drop e s = some_only (drop at s) b (drop e s) (y, ((c, (omega arith, (h, k))), m)) (frac_nodigit b r p z) d.is d.all in rw q at p

      head : some digit (drop at s) (drop e s) → (range 49 57 then many digit) (drop at s) (drop e s)
      head (y, ((c, (l, (h, k))), m)) = (y, ((c, (low c y l k, (h, k))), m))
        where
          low : (c : ℕ) (y : List ℕ) → 48 ≤ c → drop at s ≡ c ∷ y → 49 ≤ c
          low c y l k = let g : get_or s at 0 ≡ c = byte_at s at c y k in let u : c ≡ 48 → ⊥ = λ w. n (g ∙ w) in omega arith

  -- skip_number
  pub number_minus : get_or s at 0 ≡ 45 → Runs number (int then option frac then option exp) s at (at + 1)
  unfolding number ◌then◌ option byte
  number_minus e = record { from = omega arith; to = λ r p z. go r p; back = λ r p. (drop (at + 1) s, (inr (at_byte s at 45 e (omega arith)), p)) }
    where
      go : (r : List ℕ) → number (drop at s) r → (int then option frac then option exp) (drop (at + 1) s) r
      go r (b, (inl k, (m, (i, p)))) =
          let f = first_at 48 57 s at (int_first _ m (rw (sym k) at i)) in absurd (omega arith)
      go r (b, (inr k, p)) = let h : b ≡ drop (at + 1) s = tail_eq (sym k ∙ at_byte s at 45 e (omega arith)) in rw h at p

  pub number_plain : (get_or s at 0 ≡ 45 → ⊥) → Runs number (int then option frac then option exp) s at at
  unfolding number ◌then◌ option byte
  number_plain n = record { from = omega arith; to = λ r p z. go r p; back = λ r p. (drop at s, (inl refl, p)) }
    where
      go : (r : List ℕ) → number (drop at s) r → (int then option frac then option exp) (drop at s) r
      go r (b, (inl k, p)) = rw k p
      go r (b, (inr k, p)) = absurd (n (byte_at s at 45 b k))

-- an answer by its case
pub some_to : (s : List ℕ) (at : ℕ) (x : Option ℕ) (e : ℕ) → SkipsSome digit s at x → x ≡ Some e → SomeTo digit s at e
some_to s at x e h q = rw q at h

pub some_wrong : (s : List ℕ) (at : ℕ) (x : Option ℕ) → SkipsSome digit s at x → x ≡ None → Not digit (drop at s)
some_wrong s at x h q = rw q at h

pub here_yes : (P : Rule) (s : List ℕ) (at : ℕ) (x : Bool) → Here P s at x → x ≡ true → (at < length s) × P (drop at s) (drop (at + 1) s)
here_yes P s at x h q = rw q at h

pub here_no : (P : Rule) (s : List ℕ) (at : ℕ) (x : Bool) → Here P s at x → x ≡ false → Not P (drop at s)
here_no P s at x h q = rw q at h

pub next_next : (P : Rule) (s : List ℕ) (at : ℕ) → P (drop (at + 1) s) (drop (at + 1 + 1) s) → P (drop (at + 1) s) (drop (at + 2) s)
next_next P s at p = let e : at + 1 + 1 ≡ at + 2 = omega arith in rw e at p
