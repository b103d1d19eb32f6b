-- Laws of lists of items between brackets, which arrays and objects are. Assumes nothing.
use mathlib.Core.Path.{◌≡◌, refl, sym, ◌∙◌}
use mathlib.Core.List.{List, ◌∷◌}
use mathlib.Core.Logic.{inl, inr}
use Prim.Native.Nat.{ℕ, ◌+◌, ◌<◌}
use native.Mathlib.Omega.{arith}
use lib.ListN.{length, get_or, drop}
use Rattle.json_text.specs.Grammar.{Rule, byte, ◌then◌, ◌or◌, option, many, none, more, white, ws}
use Rattle.json_text.specs.Tight.{value_separator}
use Rattle.json_text.specs.Skips.{Not, Solid, WsTo, Follow, Ends, EndsAt, NoText}
use Rattle.json_text.proofs.WsLaws.{stands, at_byte, byte_at, head_eq, tail_eq, many_join, ws_only, ws_ends}
use Rattle.json_text.proofs.StepLaws.{Goes}

-- items after the first, and the closing bracket
unfoldable pub Rest : ℕ → Rule → Rule
Rest close v = many (value_separator then v) then (ws then byte close)

-- items, at least one, and the closing bracket
unfoldable pub Items : ℕ → Rule → Rule
Items close v = v then Rest close v

-- items between brackets
unfoldable pub Listed : ℕ → ℕ → Rule → Rule
Listed left close v = (byte left then ws) then (option (v then many (value_separator then v)) then (ws then byte close))

-- a byte that is no white space
pub record Dark (c : ℕ) : Type 0 where
  pub space : c ≡ 32 → ⊥
  pub tab : c ≡ 9 → ⊥
  pub feed : c ≡ 10 → ⊥
  pub return : c ≡ 13 → ⊥

-- what a closing bracket is
pub record Closes (close : ℕ) : Type 0 where
  pub pos : 0 < close
  pub follow : Follow close
  pub comma : close ≡ 44 → ⊥
  pub dark : Dark close

-- an item begins with neither white space nor a closing bracket
unfoldable pub Headed : ℕ → Rule → Type 0
Headed close v = (a b : List ℕ) → v a b → Solid a × ((z : List ℕ) → a ≡ close ∷ z → ⊥)

pub solid_byte : {c : ℕ} (a : List ℕ) → Dark c → Solid (c ∷ a)
unfolding Not white ◌or◌ byte
solid_byte a d b (inl e) = d.space (head_eq e)
solid_byte a d b (inr (inl e)) = d.tab (head_eq e)
solid_byte a d b (inr (inr (inl e))) = d.feed (head_eq e)
solid_byte a d b (inr (inr (inr e))) = d.return (head_eq e)

pub dark_comma : Dark 44
dark_comma = record { space = λ e. omega arith; tab = λ e. omega arith; feed = λ e. omega arith; return = λ e. omega arith }

pub closes_array : Closes 93
unfolding Follow
closes_array = record {
  pos = omega arith;
  follow = inr (inr (inr (inr (inr (inl refl)))));
  comma = λ e. omega arith;
  dark = record { space = λ e. omega arith; tab = λ e. omega arith; feed = λ e. omega arith; return = λ e. omega arith };
}

pub closes_object : Closes 125
unfolding Follow
closes_object = record {
  pos = omega arith;
  follow = inr (inr (inr (inr (inr (inr (inl refl))))));
  comma = λ e. omega arith;
  dark = record { space = λ e. omega arith; tab = λ e. omega arith; feed = λ e. omega arith; return = λ e. omega arith };
}

module _ (close : ℕ) (v : Rule) (C : Closes close) (H : Headed close v) where
  -- what follows an item can follow a value
  pub rest_ends : (m r : List ℕ) → Rest close v m r → Ends m
  unfolding Rest ◌then◌ byte ws Ends Follow value_separator
  rest_ends m r (b, (none, (n, (w, e)))) = ws_ends w (rw e C.follow)
  rest_ends m r (b, (more (k, ((n, (w, (y, (e, x)))), p)) t, z)) = ws_ends w (rw e (inr (inr (inr (inr (inl refl))))))

  -- after an item and white space stands the bracket
  rest_close : (m n y r : List ℕ) → ws m n → n ≡ close ∷ y → Rest close v m r → r ≡ y
  unfolding Rest ◌then◌ byte ws value_separator
  rest_close m n y r w e (b, (none, (n', (w', e')))) =
      let same : n ≡ n' = ws_only w (rw e (solid_byte y C.dark)) w' (rw e' (solid_byte r C.dark)) in
      tail_eq (sym e' ∙ (sym same ∙ e))
  rest_close m n y r w e (b, (more (k, ((n', (w', (y', (e', x)))), p)) t, z)) =
      let same : n ≡ n' = ws_only w (rw e (solid_byte y C.dark)) w' (rw e' (solid_byte y' dark_comma)) in
      absurd (C.comma (head_eq (sym e ∙ (same ∙ e'))))

  -- or a comma, and more items
  rest_comma : (m n y x r : List ℕ) → ws m n → n ≡ 44 ∷ y → ws y x → Solid x → Rest close v m r → Items close v x r
  unfolding Rest Items ◌then◌ byte ws value_separator Headed
  rest_comma m n y x r w e u s (b, (none, (n', (w', e')))) =
      let same : n ≡ n' = ws_only w (rw e (solid_byte y dark_comma)) w' (rw e' (solid_byte r C.dark)) in
      absurd (C.comma (head_eq (sym e' ∙ (sym same ∙ e))))
  rest_comma m n y x r w e u s (b, (more (k, ((n', (w', (y', (e', u')))), p)) t, z)) =
      let same : n ≡ n' = ws_only w (rw e (solid_byte y dark_comma)) w' (rw e' (solid_byte y' dark_comma)) in
      let ys : y' ≡ y = tail_eq (sym e' ∙ (sym same ∙ e)) in
      let xs : k ≡ x = ws_only (rw ys at u') (H _ _ p).0 u s in
      (_, (rw xs at p, (b, (t, z))))

  -- or the text is wrong
  rest_wrong : (m n r : List ℕ) → ws m n → Solid n → ((y : List ℕ) → n ≡ close ∷ y → ⊥) → ((y : List ℕ) → n ≡ 44 ∷ y → ⊥) → Rest close v m r → ⊥
  unfolding Rest ◌then◌ byte ws value_separator
  rest_wrong m n r w s c d (b, (none, (n', (w', e')))) =
      let same : n ≡ n' = ws_only w s w' (rw e' (solid_byte r C.dark)) in c r (same ∙ e')
  rest_wrong m n r w s c d (b, (more (k, ((n', (w', (y', (e', u')))), p)) t, z)) =
      let same : n ≡ n' = ws_only w s w' (rw e' (solid_byte y' dark_comma)) in d y' (same ∙ e')

  -- the first item, or the bracket at once
  first_close : (left : ℕ) (a y x z r : List ℕ) → a ≡ left ∷ y → ws y x → x ≡ close ∷ z → Listed left close v a r → r ≡ z
  unfolding Listed ◌then◌ byte ws option Headed
  first_close left a y x z r e w f (b, ((y', (e', w')), (n, (inl o, (k, (u, g)))))) =
      let ys : y' ≡ y = tail_eq (sym e' ∙ e) in
      let same : x ≡ k = ws_only w (rw f (solid_byte z C.dark)) (many_join (rw ys at w') (rw (sym o) at u)) (rw g (solid_byte r C.dark)) in
      tail_eq (sym g ∙ (sym same ∙ f))
  first_close left a y x z r e w f (b, ((y', (e', w')), (n, (inr (k, (p, t)), q)))) =
      let ys : y' ≡ y = tail_eq (sym e' ∙ e) in
      let same : b ≡ x = ws_only (rw ys at w') (H _ _ p).0 w (rw f (solid_byte z C.dark)) in
      absurd ((H _ _ p).1 z (same ∙ f))

  first_item : (left : ℕ) (a y x r : List ℕ) → a ≡ left ∷ y → ws y x → Solid x → ((z : List ℕ) → x ≡ close ∷ z → ⊥) → Listed left close v a r → Items close v x r
  unfolding Listed Items Rest ◌then◌ byte ws option Headed
  first_item left a y x r e w s f (b, ((y', (e', w')), (n, (inl o, (k, (u, g)))))) =
      let ys : y' ≡ y = tail_eq (sym e' ∙ e) in
      let same : x ≡ k = ws_only w s (many_join (rw ys at w') (rw (sym o) at u)) (rw g (solid_byte r C.dark)) in
      absurd (f r (same ∙ g))
  first_item left a y x r e w s f (b, ((y', (e', w')), (n, (inr (k, (p, t)), q)))) =
      let ys : y' ≡ y = tail_eq (sym e' ∙ e) in
      let same : b ≡ x = ws_only (rw ys at w') (H _ _ p).0 w s in
      (k, (rw same at p, (n, (t, q))))

  listed : (left : ℕ) (a y x r : List ℕ) → a ≡ left ∷ y → ws y x → Items close v x r → Listed left close v a r
  unfolding Listed Items Rest ◌then◌ byte ws option
  listed left a y x r e w (k, (p, (n, (t, q)))) = (x, ((y, (e, w)), (n, (inr (k, (p, t)), q))))

  listed_none : (left : ℕ) (a y x z : List ℕ) → a ≡ left ∷ y → ws y x → x ≡ close ∷ z → Listed left close v a z
  unfolding Listed ◌then◌ byte ws option
  listed_none left a y x z e w f = (x, ((y, (e, w)), (x, (inl refl, (x, (none, f))))))

  -- The same at places of a text s. `at` is the place of the opening bracket.
  module _ (left : ℕ) (s : List ℕ) (at : ℕ) (opens : get_or s at 0 ≡ left) (pos : 0 < left) where
    pub list_none : (i : ℕ) → WsTo s (at + 1) i → get_or s i 0 ≡ close → EndsAt (Listed left close v) s at (i + 1)
    list_none i w e =
        let h : i < length s = stands s i close e C.pos in
        let f : drop i s ≡ close ∷ drop (i + 1) s = at_byte s i close e C.pos in
        let g : drop at s ≡ left ∷ drop (at + 1) s = at_byte s at left opens pos in
        record {
          from = omega arith;
          within = omega arith;
          is = listed_none left _ _ _ _ g w.is f;
          only = λ r p q. first_close left _ _ _ _ r g w.is f p;
        }

    pub list_first : (i : ℕ) → WsTo s (at + 1) i → (get_or s i 0 ≡ close → ⊥) → Goes (Listed left close v) (Items close v) s at i
    list_first i w e =
        let g : drop at s ≡ left ∷ drop (at + 1) s = at_byte s at left opens pos in
        record {
          from = omega arith;
          within = omega arith;
          leads = record {
            from = omega arith;
            to = λ r p z. first_item left _ _ _ r g w.is w.all (λ z d. e (byte_at s i close z d)) p;
            back = λ r p. listed left _ _ _ r g w.is p;
          };
        }

  module _ (P : Rule) (s : List ℕ) (at i : ℕ) (goes : Goes P (Items close v) s at i) where
    -- no item
    pub list_no_item : NoText v s i → NoText P s at
    unfolding NoText Items ◌then◌
    list_no_item f r p q =
        let t = goes.leads.to r p tt in f t.0 t.1.0 (rest_ends t.0 r t.1.1)

    module _ (e n : ℕ) (item : EndsAt v s i e) (w : WsTo s e n) where
      -- the items are these
      rest : (r : List ℕ) → P (drop at s) r → Rest close v (drop e s) r
      unfolding Items ◌then◌
      rest r p =
          let t = goes.leads.to r p tt in
          rw (item.only t.0 t.1.0 (rest_ends t.0 r t.1.1)) at t.1.1

      -- the last item
      pub list_last : get_or s n 0 ≡ close → EndsAt P s at (n + 1)
      unfolding Items Rest ◌then◌ byte ws
      list_last c =
          let h : n < length s = stands s n close c C.pos in
          let f : drop n s ≡ close ∷ drop (n + 1) s = at_byte s n close c C.pos in
          record {
            from = omega arith;
            within = omega arith;
            is = goes.leads.back _ (drop e s, (item.is, (drop e s, (none, (drop n s, (w.is, f))))));
            only = λ r p q. rest_close _ _ _ r w.is f (rest r p);
          }

      -- neither a bracket nor a comma
      pub list_wrong : (get_or s n 0 ≡ close → ⊥) → (get_or s n 0 ≡ 44 → ⊥) → NoText P s at
      unfolding NoText
      list_wrong c d r p q =
          rest_wrong _ _ r w.is w.all (λ y k. c (byte_at s n close y k)) (λ y k. d (byte_at s n 44 y k)) (rest r p)

      -- a comma
      pub list_more : (j : ℕ) → get_or s n 0 ≡ 44 → WsTo s (n + 1) j → Goes P (Items close v) s at j
      unfolding Items Rest ◌then◌ byte ws value_separator
      list_more j c u =
          let f : drop n s ≡ 44 ∷ drop (n + 1) s = at_byte s n 44 c (omega arith) in
          record {
            from = omega arith;
            within = omega arith;
            leads = record {
              from = omega arith;
              to = λ r p z. rest_comma _ _ _ _ r w.is f u.is u.all (rest r p);
              back = λ r p.
                  goes.leads.back r (drop e s, (item.is, (p.1.1.0, (more (drop j s, ((drop n s, (w.is, (drop (n + 1) s, (f, u.is)))), p.1.0)) p.1.1.1.0, p.1.1.1.1))));
            };
          }
