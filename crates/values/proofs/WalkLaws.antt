-- Laws of a walk over the items of an object or an array, from the bytes at its places to the list
-- that it has read. Assumes nothing.
use mathlib.Core.Path.{◌≡◌, refl, sym, ◌∙◌}
use mathlib.Core.List.{List, [], ◌∷◌, ◌++◌, append_assoc}
use Prim.Native.Nat.{ℕ, ◌+◌, ◌<◌}
use native.Mathlib.Omega.{arith}
use lib.ListN.{length, get_or, drop}
use Rattle.json_text.specs.Grammar.{Rule, byte, ◌then◌, none, ws}
use Rattle.json_text.specs.Tight.{value_separator}
use Rattle.json_text.specs.Members.{others, items}
use Rattle.json_text.specs.Skips.{Solid, WsTo}
use Rattle.values.specs.Reading.{ItemAt, NoItem, Onward, GoesOn, Leads, ListAt, NoList}
use Rattle.json_text.proofs.WsLaws.{stands, at_byte, byte_at, head_eq, tail_eq, many_join, ws_only}
use Rattle.json_text.proofs.ListLaws.{Headed, solid_byte, Closes, dark_comma}
use Rattle.values.proofs.ReadingLaws.{Bracketed, Listing, others_ends}

-- ---- after an item

-- there is one item more, and it stands at x
record More {A : Type 0} (item : A → Rule) (close : ℕ) (rest : List A) (x b : List ℕ) : Type 0 where
  next : A
  after : List A
  are : rest ≡ next ∷ after
  text : Onward item close next after x b

module _ {A : Type 0} (close : ℕ) (item : A → Rule) (C : Closes close) (H : (x : A) → Headed close (item x)) where
  after_close : (rest : List A) (m n y b : List ℕ) → ws m n → n ≡ close ∷ y → others item (ws then byte close) rest m b → (rest ≡ []) × (b ≡ y)
  unfolding others ◌then◌ byte ws value_separator
  after_close [] m n y b w e (n', (w', e')) =
      let same : n ≡ n' = ws_only w (rw e (solid_byte y C.dark)) w' (rw e' (solid_byte b C.dark)) in
      (refl, tail_eq (sym e' ∙ (sym same ∙ e)))
  after_close (z ∷ zs) m n y b w e (k, ((n', (w', (y', (e', u)))), p)) =
      let same : n ≡ n' = ws_only w (rw e (solid_byte y C.dark)) w' (rw e' (solid_byte y' dark_comma)) in
      absurd (C.comma (head_eq (sym e ∙ (same ∙ e'))))

  after_comma : (rest : List A) (m n y x b : List ℕ) → ws m n → n ≡ 44 ∷ y → ws y x → Solid x → others item (ws then byte close) rest m b → More item close rest x b
  unfolding others ◌then◌ byte ws value_separator Headed Onward
  after_comma [] m n y x b w e u s (n', (w', e')) =
      let same : n ≡ n' = ws_only w (rw e (solid_byte y dark_comma)) w' (rw e' (solid_byte b C.dark)) in
      absurd (C.comma (head_eq (sym e' ∙ (sym same ∙ e))))
  after_comma (z ∷ zs) m n y x b w e u s (k, ((n', (w', (y', (e', u')))), (i, (p, o)))) =
      let same : n ≡ n' = ws_only w (rw e (solid_byte y dark_comma)) w' (rw e' (solid_byte y' dark_comma)) in
      let ys : y' ≡ y = tail_eq (sym e' ∙ (sym same ∙ e)) in
      let ks : k ≡ x = ws_only (rw ys at u') (H z k i p).0 u s in
      record { next = z; after = zs; are = refl; text = (i, (rw ks at p, o)) }

  after_wrong : (rest : List A) (m n b : List ℕ) → ws m n → Solid n → ((y : List ℕ) → n ≡ close ∷ y → ⊥) → ((y : List ℕ) → n ≡ 44 ∷ y → ⊥)
      → others item (ws then byte close) rest m b → ⊥
  unfolding others ◌then◌ byte ws value_separator
  after_wrong [] m n b w s c d (n', (w', e')) =
      let same : n ≡ n' = ws_only w s w' (rw e' (solid_byte b C.dark)) in c b (same ∙ e')
  after_wrong (z ∷ zs) m n b w s c d (k, ((n', (w', (y', (e', u')))), p)) =
      let same : n ≡ n' = ws_only w s w' (rw e' (solid_byte y' dark_comma)) in d y' (same ∙ e')

  -- the bracket at once, or the first item
  first_close : (left : ℕ) (xs : List A) (a y x z b : List ℕ) → a ≡ left ∷ y → ws y x → x ≡ close ∷ z → Bracketed left close item xs a b → (xs ≡ []) × (b ≡ z)
  unfolding Bracketed items ◌then◌ byte ws Headed
  first_close left [] a y x z b e w f (k, ((y', (e', w')), (n, (u, g)))) =
      let ys : y' ≡ y = tail_eq (sym e' ∙ e) in
      let same : x ≡ n = ws_only w (rw f (solid_byte z C.dark)) (many_join (rw ys at w') u) (rw g (solid_byte b C.dark)) in
      (refl, tail_eq (sym g ∙ (sym same ∙ f)))
  first_close left (v ∷ vs) a y x z b e w f (k, ((y', (e', w')), (n, (p, o)))) =
      let ys : y' ≡ y = tail_eq (sym e' ∙ e) in
      let same : k ≡ x = ws_only (rw ys at w') (H v k n p).0 w (rw f (solid_byte z C.dark)) in
      absurd ((H v k n p).1 z (same ∙ f))

  first_item : (left : ℕ) (xs : List A) (a y x b : List ℕ) → a ≡ left ∷ y → ws y x → Solid x → ((z : List ℕ) → x ≡ close ∷ z → ⊥)
      → Bracketed left close item xs a b → More item close xs x b
  unfolding Bracketed items ◌then◌ byte ws Headed Onward
  first_item left [] a y x b e w s f (k, ((y', (e', w')), (n, (u, g)))) =
      let ys : y' ≡ y = tail_eq (sym e' ∙ e) in
      let same : x ≡ n = ws_only w s (many_join (rw ys at w') u) (rw g (solid_byte b C.dark)) in
      absurd (f b (same ∙ g))
  first_item left (v ∷ vs) a y x b e w s f (k, ((y', (e', w')), (n, (p, o)))) =
      let ys : y' ≡ y = tail_eq (sym e' ∙ e) in
      let same : k ≡ x = ws_only (rw ys at w') (H v k n p).0 w s in
      record { next = v; after = vs; are = refl; text = (n, (rw same at p, o)) }

-- ---- the walk

module _ {A : Type 0} {left close : ℕ} {item : A → Rule} {P : List A → Rule} (L : Listing left close item P) where
  -- the bracket at once
  pub list_none : {s : List ℕ} {at i : ℕ} → get_or s at 0 ≡ left → WsTo s (at + 1) i → get_or s i 0 ≡ close → ListAt P [] s at (i + 1)
  unfolding Bracketed items ◌then◌ byte ws
  list_none {s} {at} {i} opens w e =
      let h : i < length s = stands s i close e L.closes.pos in
      let f : drop i s ≡ close ∷ drop (i + 1) s = at_byte s i close e L.closes.pos in
      let g : drop at s ≡ left ∷ drop (at + 1) s = at_byte s at left opens L.pos in
      record {
        from = omega arith;
        within = omega arith;
        is = L.back [] (drop at s) (drop (i + 1) s) (drop i s, ((drop (at + 1) s, (g, w.is)), (drop i s, (none, f))));
        only = λ ys b p. first_close close item L.closes L.headed left ys (drop at s) (drop (at + 1) s) (drop i s) (drop (i + 1) s) b g w.is f (L.to ys (drop at s) b p);
      }

  -- the first item
  pub leads_first : {s : List ℕ} {at i : ℕ} → get_or s at 0 ≡ left → WsTo s (at + 1) i → (get_or s i 0 ≡ close → ⊥) → Leads item close P s at i []
  unfolding Bracketed items Onward ◌then◌ byte ws
  leads_first {s} {at} {i} opens w e =
      let g : drop at s ≡ left ∷ drop (at + 1) s = at_byte s at left opens L.pos in
      record {
        from = omega arith;
        within = w.within;
        to = λ xs b p. to xs b p;
        back = λ x rest b t. L.back (x ∷ rest) (drop at s) b (drop i s, ((drop (at + 1) s, (g, w.is)), t));
      }
    where
      to : (xs : List A) (b : List ℕ) → P xs (drop at s) b → GoesOn item close s i [] xs b
      to xs b p =
          let g : drop at s ≡ left ∷ drop (at + 1) s = at_byte s at left opens L.pos in
          let t = first_item close item L.closes L.headed left xs (drop at s) (drop (at + 1) s) (drop i s) b g w.is w.all (λ z d. e (byte_at s i close z d)) (L.to xs (drop at s) b p) in
          record { next = t.next; rest = t.after; are = t.are; text = t.text }

  -- the items after the one that stands at i
  record Then (s : List ℕ) (e : ℕ) (done : List A) (x : A) (xs : List A) (b : List ℕ) : Type 0 where
    rest : List A
    are : xs ≡ done ++ (x ∷ rest)
    text : others item (ws then byte close) rest (drop e s) b

  step : {s : List ℕ} {at i e : ℕ} {done : List A} {x : A} → Leads item close P s at i done → ItemAt item x s i e → (xs : List A) (b : List ℕ) → P xs (drop at s) b → Then s e done x xs b
  unfolding Onward ◌then◌
  step {s} {at} {i} {e} {done} {x} leads it xs b p =
      let t = leads.to xs b p in
      let m = t.text.0 in
      let same = it.only t.next m t.text.1.0 (others_ends close item L.closes t.rest m b t.text.1.1) in
      record { rest = t.rest; are = rw same.0 at t.are; text = rw same.1 at t.text.1.1 }

  -- no item, and so no list
  pub leads_no_item : {s : List ℕ} {at i : ℕ} {done : List A} → Leads item close P s at i done → NoItem item s i → NoList P s at
  unfolding NoItem NoList Onward ◌then◌
  leads_no_item leads f xs b p =
      let t = leads.to xs b p in
      f t.next t.text.0 t.text.1.0 (others_ends close item L.closes t.rest t.text.0 b t.text.1.1)

  module _ {s : List ℕ} {at i e n : ℕ} {done : List A} {x : A} (leads : Leads item close P s at i done) (it : ItemAt item x s i e) (w : WsTo s e n) where
    -- a comma, and the next item
    pub leads_more : {j : ℕ} → get_or s n 0 ≡ 44 → WsTo s (n + 1) j → Leads item close P s at j (done ++ (x ∷ []))
    unfolding Onward others ◌then◌ byte ws value_separator
    leads_more {j} c u =
        let f : drop n s ≡ 44 ∷ drop (n + 1) s = at_byte s n 44 c (omega arith) in
        record {
          from = omega arith;
          within = u.within;
          to = λ xs b p. to xs b p;
          back = λ y rest b t. rw append_assoc (leads.back x (y ∷ rest) b (drop e s, (it.is, (drop j s, ((drop n s, (w.is, (drop (n + 1) s, (f, u.is)))), t)))));
        }
      where
        to : (xs : List A) (b : List ℕ) → P xs (drop at s) b → GoesOn item close s j (done ++ (x ∷ [])) xs b
        to xs b p =
            let f : drop n s ≡ 44 ∷ drop (n + 1) s = at_byte s n 44 c (omega arith) in
            let t = step leads it xs b p in
            let o = after_comma close item L.closes L.headed t.rest (drop e s) (drop n s) (drop (n + 1) s) (drop j s) b w.is f u.is u.all t.text in
            record { next = o.next; rest = o.after; are = rw append_assoc (rw o.are at t.are); text = o.text }

    -- the bracket, and so the whole list
    pub leads_last : get_or s n 0 ≡ close → ListAt P (done ++ (x ∷ [])) s at (n + 1)
    unfolding Onward others ◌then◌ byte ws
    leads_last c =
        let h : n < length s = stands s n close c L.closes.pos in
        let f : drop n s ≡ close ∷ drop (n + 1) s = at_byte s n close c L.closes.pos in
        record {
          from = omega arith;
          within = omega arith;
          is = leads.back x [] (drop (n + 1) s) (drop e s, (it.is, (drop n s, (w.is, f))));
          only = λ ys b p. only ys b p;
        }
      where
        only : (ys : List A) (b : List ℕ) → P ys (drop at s) b → (ys ≡ done ++ (x ∷ [])) × (b ≡ drop (n + 1) s)
        only ys b p =
            let f : drop n s ≡ close ∷ drop (n + 1) s = at_byte s n close c L.closes.pos in
            let t = step leads it ys b p in
            let o = after_close close item L.closes L.headed t.rest (drop e s) (drop n s) (drop (n + 1) s) b w.is f t.text in
            (rw o.0 at t.are, o.1)

    -- neither a comma nor the bracket, and so no list
    pub leads_wrong : (get_or s n 0 ≡ close → ⊥) → (get_or s n 0 ≡ 44 → ⊥) → NoList P s at
    unfolding NoList
    leads_wrong c d xs b p =
        let t = step leads it xs b p in
        after_wrong close item L.closes L.headed t.rest (drop e s) (drop n s) b w.is w.all (λ y k. c (byte_at s n close y k)) (λ y k. d (byte_at s n 44 y k)) t.text
