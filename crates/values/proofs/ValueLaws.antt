-- Laws of values, objects and arrays by their first byte. Assumes nothing.
use mathlib.Core.Path.{◌≡◌, refl, sym, ◌∙◌}
use Rattle.std.specs.Prelude.{Option, None, Some}
use mathlib.Core.List.{List, [], ◌∷◌}
use mathlib.Core.Logic.{◌⊎◌, inl, inr}
use Prim.Native.Nat.{ℕ, zero, suc, ◌+◌, ◌-◌, ◌≤◌, ◌<◌}
use native.Mathlib.Numerals.{sub-one}
use native.Mathlib.Omega.{arith}
use lib.ListN.{length, get_or, drop, drop_of_length-le}
use lib.Seq.{drop-cons}
use Rattle.json_text.specs.Grammar.{Rule, byte, ◌then◌, ◌or◌, ws, scalar, string, white}
use Rattle.json_text.specs.Tight.{member, array, object, value, begin_array, begin_object, name_separator, line}
use Rattle.json_text.specs.Skips.{Not, Solid, WsTo, Ends, Follow, EndsAt, NoText, Skips}
use Rattle.json_text.proofs.WsLaws.{at_byte, byte_at, head_eq, tail_eq, ws_only, ws_ends}
use Rattle.json_text.proofs.StepLaws.{Goes}
use Rattle.json_text.proofs.ListLaws.{Dark, solid_byte, Headed}
use Rattle.json_text.proofs.ScalarLaws.{Plain, Starts, scalar_starts, string_starts, skips_same}

pub starts_not : {a : List ℕ} {c : ℕ} {b : List ℕ} → Starts a → (Plain c → ⊥) → a ≡ c ∷ b → ⊥
starts_not t f e = f (rw (head_eq (sym t.is ∙ e)) at t.plain)

pub array_first : (v : Rule) (a b : List ℕ) → array v a b → (z : List ℕ) × (a ≡ 91 ∷ z)
unfolding array begin_array ◌then◌ byte
array_first v a b (n, ((z, (e, w)), p)) = (z, e)

pub object_first : (v : Rule) (a b : List ℕ) → object v a b → (z : List ℕ) × (a ≡ 123 ∷ z)
unfolding object begin_object ◌then◌ byte
object_first v a b (n, ((z, (e, w)), p)) = (z, e)

pub 91-123 : {a b c : List ℕ} → a ≡ 91 ∷ b → a ≡ 123 ∷ c → ⊥
91-123 e f = let h = head_eq (sym e ∙ f) in omega arith

-- at a bracket a value is an array
pub value_array : (d : ℕ) (a b r : List ℕ) → a ≡ 91 ∷ b → value (suc d) a r → array (value d) a r
unfolding value ◌or◌
value_array d a b r e (inl p) = absurd (starts_not (scalar_starts a r p) (λ q. q.no91 refl) e)
value_array d a b r e (inr (inl p)) = absurd (91-123 e (object_first (value d) a r p).1)
value_array d a b r e (inr (inr p)) = p

pub value_object : (d : ℕ) (a b r : List ℕ) → a ≡ 123 ∷ b → value (suc d) a r → object (value d) a r
unfolding value ◌or◌
value_object d a b r e (inl p) = absurd (starts_not (scalar_starts a r p) (λ q. q.no123 refl) e)
value_object d a b r e (inr (inl p)) = p
value_object d a b r e (inr (inr p)) = absurd (91-123 (array_first (value d) a r p).1 e)

pub value_scalar : (d : ℕ) (a r : List ℕ) → ((b : List ℕ) → a ≡ 91 ∷ b → ⊥) → ((b : List ℕ) → a ≡ 123 ∷ b → ⊥) → value d a r → scalar a r
unfolding value ◌or◌
value_scalar zero a r f g p = p
value_scalar (suc d) a r f g (inl p) = p
value_scalar (suc d) a r f g (inr (inl p)) = let t = object_first (value d) a r p in absurd (g t.0 t.1)
value_scalar (suc d) a r f g (inr (inr p)) = let t = array_first (value d) a r p in absurd (f t.0 t.1)

scalar_value : (d : ℕ) (a r : List ℕ) → scalar a r → value d a r
unfolding value ◌or◌
scalar_value zero a r p = p
scalar_value (suc d) a r p = inl p

-- The same for the skippers. `at` is the place of the value.
module _ (s : List ℕ) (at : ℕ) where
  pub value_too_deep : (d c : ℕ) → get_or s at 0 ≡ c → (c ≡ 91) ⊎ (c ≡ 123) → d ≡ 0 → NoText (value d) s at
  unfolding NoText value
  value_too_deep zero c e (inl k) z r p q = starts_not (scalar_starts _ r p) (λ y. y.no91 k) (at_byte s at c e (omega arith))
  value_too_deep zero c e (inr k) z r p q = starts_not (scalar_starts _ r p) (λ y. y.no123 k) (at_byte s at c e (omega arith))
  value_too_deep (suc d) c e k z r p q = omega arith

  pub skips_array : (d : ℕ) → get_or s at 0 ≡ 91 → (d ≡ 0 → ⊥) → (x : Option ℕ) → Skips (array (value (d - 1))) s at x → Skips (value d) s at x
  unfolding value ◌or◌
  skips_array zero e f x h = absurd (f refl)
  skips_array (suc d) e f x h =
      skips_same (array (value d)) (value (suc d)) s at (λ r p. inr (inr p)) (λ r p. value_array d _ _ r (at_byte s at 91 e (omega arith)) p) x (rw sub-one at h)

  pub skips_object : (d : ℕ) → get_or s at 0 ≡ 123 → (d ≡ 0 → ⊥) → (x : Option ℕ) → Skips (object (value (d - 1))) s at x → Skips (value d) s at x
  unfolding value ◌or◌
  skips_object zero e f x h = absurd (f refl)
  skips_object (suc d) e f x h =
      skips_same (object (value d)) (value (suc d)) s at (λ r p. inr (inl p)) (λ r p. value_object d _ _ r (at_byte s at 123 e (omega arith)) p) x (rw sub-one at h)

  pub skips_scalar : (d : ℕ) → (get_or s at 0 ≡ 91 → ⊥) → (get_or s at 0 ≡ 123 → ⊥) → (x : Option ℕ) → Skips scalar s at x → Skips (value d) s at x
  skips_scalar d f g x h =
      skips_same scalar (value d) s at (λ r p. scalar_value d _ r p) (λ r p. value_scalar d _ r (λ b e. f (byte_at s at 91 b e)) (λ b e. g (byte_at s at 123 b e)) p) x h

-- values and members begin with neither white space nor a closing bracket
starts_headed : (close : ℕ) → (close ≡ 93) ⊎ (close ≡ 125) → (a : List ℕ) → Starts a → Solid a × ((z : List ℕ) → a ≡ close ∷ z → ⊥)
starts_headed close k a t = (rw t.is (solid_byte t.after t.plain.dark), λ z e. starts_not t (λ q. go q k) e)
  where
    go : Plain close → (close ≡ 93) ⊎ (close ≡ 125) → ⊥
    go q (inl e) = q.no93 e
    go q (inr e) = q.no125 e

first_headed : (c close : ℕ) → Dark c → (c ≡ close → ⊥) → (a z : List ℕ) → a ≡ c ∷ z → Solid a × ((z : List ℕ) → a ≡ close ∷ z → ⊥)
first_headed c close d f a z e = (rw e (solid_byte z d), λ y g. f (head_eq (sym e ∙ g)))

pub value_headed : (d : ℕ) → Headed 93 (value d)
unfolding Headed value ◌or◌
value_headed zero a b p = starts_headed 93 (inl refl) a (scalar_starts a b p)
value_headed (suc d) a b (inl p) = starts_headed 93 (inl refl) a (scalar_starts a b p)
value_headed (suc d) a b (inr (inl p)) =
    let t = object_first (value d) a b p in
    first_headed 123 93 (record {
      space = λ e. omega arith;
      tab = λ e. omega arith;
      feed = λ e. omega arith;
      return = λ e. omega arith;
    }) (λ e. omega arith) a t.0 t.1
value_headed (suc d) a b (inr (inr p)) =
    let t = array_first (value d) a b p in
    first_headed 91 93 (record {
      space = λ e. omega arith;
      tab = λ e. omega arith;
      feed = λ e. omega arith;
      return = λ e. omega arith;
    }) (λ e. omega arith) a t.0 t.1

pub member_headed : (v : Rule) → Headed 125 (member v)
unfolding Headed member ◌then◌
member_headed v a b (n, (p, q)) = starts_headed 125 (inr refl) a (string_starts a n p)

pub dark_colon : Dark 58
dark_colon = record { space = λ e. omega arith; tab = λ e. omega arith; feed = λ e. omega arith; return = λ e. omega arith }

module _ (v : Rule) (H : Headed 93 v) (s : List ℕ) (at : ℕ) where
  name_ends : (m n y : List ℕ) → ws m n → n ≡ 58 ∷ y → Ends m
  unfolding ws Ends Follow
  name_ends m n y w e = ws_ends w (rw e (inr (inr (inr (inr (inr (inr (inr refl))))))))

  pub member_no_name : NoText string s at → NoText (member v) s at
  unfolding NoText member ◌then◌ name_separator byte
  member_no_name f r (m, (p, (b, ((n, (w, (y, (e, u)))), q)))) z = f m p (name_ends m n y w e)

  module _ (e n : ℕ) (name : EndsAt string s at e) (w : WsTo s e n) where
    pub member_no_colon : (get_or s n 0 ≡ 58 → ⊥) → NoText (member v) s at
    unfolding NoText member ◌then◌ name_separator byte ws
    member_no_colon f r (m, (p, (b, ((n', (w', (y, (k, u)))), q)))) z =
        let ms : m ≡ drop e s = name.only m p (name_ends m n' y w' k) in
        let ns : drop n s ≡ n' = ws_only w.is w.all (rw ms at w') (rw k (solid_byte y dark_colon)) in
        f (byte_at s n 58 y (ns ∙ k))

    pub member_goes : (j : ℕ) → get_or s n 0 ≡ 58 → WsTo s (n + 1) j → Goes (member v) v s at j
    member_goes j c u = record {
      from = omega arith;
      within = omega arith;
      leads = record { from = omega arith; to = λ r p z. go r p; back = λ r p. back r p };
    }
      where
        f : drop n s ≡ 58 ∷ drop (n + 1) s
        f = at_byte s n 58 c (omega arith)

        go : (r : List ℕ) → member v (drop at s) r → v (drop j s) r
        go r p = unfold member ◌then◌ name_separator byte ws Headed in
            let ms : p.0 ≡ drop e s = name.only p.0 p.1.0 (name_ends p.0 p.1.1.1.0.0 p.1.1.1.0.1.1.0 p.1.1.1.0.1.0 p.1.1.1.0.1.1.1.0) in
            let k = p.1.1.1.0.1.1.1.0 in
            let ns : drop n s ≡ p.1.1.1.0.0 = ws_only w.is w.all (rw ms at p.1.1.1.0.1.0) (rw k (solid_byte _ dark_colon)) in
            let ys : p.1.1.1.0.1.1.0 ≡ drop (n + 1) s = tail_eq (sym k ∙ (sym ns ∙ f)) in
            let js : p.1.1.0 ≡ drop j s = ws_only (rw ys at p.1.1.1.0.1.1.1.1) (H _ _ p.1.1.1.1).0 u.is u.all in
            rw js at p.1.1.1.1

        back : (r : List ℕ) → v (drop j s) r → member v (drop at s) r
        back r p = unfold member ◌then◌ name_separator byte ws in
            (drop e s, (name.is, (drop j s, ((drop n s, (w.is, (drop (n + 1) s, (f, u.is)))), p))))

-- an answer by its case
pub skips_to : (P : Rule) (s : List ℕ) (at : ℕ) (x : Option ℕ) (e : ℕ) → Skips P s at x → x ≡ Some e → EndsAt P s at e
skips_to P s at x e h q = rw q at h

pub skips_wrong : (P : Rule) (s : List ℕ) (at : ℕ) (x : Option ℕ) → Skips P s at x → x ≡ None → NoText P s at
skips_wrong P s at x h q = rw q at h

-- a whole line
module _ (s : List ℕ) (i : ℕ) (w : WsTo s 0 i) where
  object_solid : (a b : List ℕ) (v : Rule) → object v a b → Solid a
  object_solid a b v p = let t = object_first v a b p in rw t.1 (solid_byte t.0 (record { space = λ e. omega arith; tab = λ e. omega arith; feed = λ e. omega arith; return = λ e. omega arith }))

  line_object : line s [] → (m : List ℕ) × (object (value 15) (drop i s) m × ws m [])
  unfolding line ◌then◌ ws
  line_object (a, (u, (m, (p, v)))) =
      let e : a ≡ drop i s = ws_only u (object_solid a m (value 15) p) w.is w.all in (m, (rw e at p, v))

  pub line_no_brace : (get_or s i 0 ≡ 123 → ⊥) → line s [] → ⊥
  line_no_brace f l = let t = line_object l in let k = object_first (value 15) (drop i s) t.0 t.1.0 in f (byte_at s i 123 k.0 k.1)

  pub line_no_object : NoText (object (value 15)) s i → line s [] → ⊥
  unfolding NoText ws Ends
  line_no_object f l = let t = line_object l in f t.0 t.1.0 (ws_ends t.1.1 tt)

  module _ (e n : ℕ) (o : EndsAt (object (value 15)) s i e) (v : WsTo s e n) where
    pub line_yes : length s ≤ n → line s []
    unfolding line ◌then◌ ws
    line_yes h = (drop i s, (w.is, (drop e s, (o.is, rw (drop_of_length-le s h) at v.is))))

    pub line_more : n < length s → line s [] → ⊥
    unfolding ws Ends
    line_more h l =
        let t = line_object l in
        let m : t.0 ≡ drop e s = o.only t.0 t.1.0 (ws_ends t.1.1 tt) in
        let k : [] ≡ drop n s = ws_only (rw m at t.1.1) solid_none v.is v.all in
        let z : [] ≡ get_or s n 0 ∷ drop (suc n) s = k ∙ drop-cons s n 0 h in
        let u : ◌≡◌ {A = ℕ} 0 1 = cc in omega arith
      where
        solid_none : Solid []
        solid_none = unfold Not white ◌or◌ byte in λ b x. no b x
          where
            no : (b : List ℕ) → ([] ≡ 32 ∷ b) ⊎ (([] ≡ 9 ∷ b) ⊎ (([] ≡ 10 ∷ b) ⊎ ([] ≡ 13 ∷ b))) → ⊥
            no b (inl q) = let u : ◌≡◌ {A = ℕ} 0 1 = cc in omega arith
            no b (inr (inl q)) = let u : ◌≡◌ {A = ℕ} 0 1 = cc in omega arith
            no b (inr (inr (inl q))) = let u : ◌≡◌ {A = ℕ} 0 1 = cc in omega arith
            no b (inr (inr (inr q))) = let u : ◌≡◌ {A = ℕ} 0 1 = cc in omega arith
