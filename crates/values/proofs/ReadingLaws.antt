-- What a text holds: every value's text has a reading, the members and values as written, and only
-- one; and what has a reading is a value's text. Assumes nothing.
use mathlib.Core.Path.{◌≡◌, refl, sym, ap, ◌∙◌}
use mathlib.Core.List.{List, [], ◌∷◌, append_cancel_right}
use mathlib.Core.Logic.{inl, inr}
use Prim.Native.Nat.{ℕ, zero, suc, ◌<◌}
use native.Mathlib.Omega.{arith}
use Rattle.json_text.specs.Grammar.{Rule, byte, ◌then◌, ◌or◌, option, many, none, more, ws, string, scalar}
use Rattle.json_text.specs.Tight.{begin_array, end_array, begin_object, end_object, name_separator, value_separator, array, member, object, value, line}
use Rattle.json_text.specs.Rfc as rfc
use Rattle.json_text.specs.Members.{Form, plain, Json, spelt, others, items, member_of, object_of, array_of, form_of, value_of, line_of}
use Rattle.json_text.specs.Skips.{Solid, Ends, Follow}
use Rattle.json_text.proofs.WsLaws.{head_eq, tail_eq, many_join, ws_only, ws_ends}
use Rattle.json_text.proofs.ListLaws.{Headed, solid_byte, Closes, closes_array, closes_object, dark_comma}
use Rattle.json_text.proofs.ScalarLaws.{scalar_starts}
use Rattle.values.proofs.ValueLaws.{value_headed, member_headed, array_first, object_first, starts_not, 91-123, dark_colon}
use Rattle.values.proofs.TextLaws.{f_string, value_text}
use Rattle.values.proofs.OnlyLaws.{alone_string, value_ended}
use Rattle.values.proofs.RfcLaws.{line_to_rfc, line_from_rfc}

-- ---- readings

-- every text of R has a reading by P
abbrev pub Reads : {A : Type 0} → Rule → (A → Rule) → Type 0
Reads {A} R P = (a b : List ℕ) → R a b → (x : A) × P x a b

-- what has a reading by P is a text of R
abbrev pub Texts : {A : Type 0} → (A → Rule) → Rule → Type 0
Texts {A} P R = (x : A) (a b : List ℕ) → P x a b → R a b

module _ {A : Type 0} (v : Rule) (item : A → Rule) (end : Rule) (f : Reads v item) where
  others_reads : {m n : List ℕ} (b : List ℕ) → many (value_separator then v) m n → end n b → (xs : List A) × others item end xs m b
  unfolding others ◌then◌
  others_reads b none e = ([], e)
  others_reads b (more (k, (s, p)) l) e =
      let x = f k _ p in
      let xs = others_reads b l e in
      (x.0 ∷ xs.0, (k, (s, (_, (x.1, xs.1)))))

  pub items_reads : (a b : List ℕ) → (option (v then many (value_separator then v)) then end) a b → (xs : List A) × items item end xs a b
  unfolding items ◌then◌ option
  items_reads a b (n, (inl o, e)) = ([], rw o e)
  items_reads a b (n, (inr (k, (p, l)), e)) =
      let x = f a k p in
      let xs = others_reads b l e in
      (x.0 ∷ xs.0, (k, (x.1, xs.1)))

-- items after the first, as a rule and what ends them
record Many (v end : Rule) (m b : List ℕ) : Type 0 where
  to : List ℕ
  is : many (value_separator then v) m to
  ends : end to b

module _ {A : Type 0} (v : Rule) (item : A → Rule) (end : Rule) (g : Texts item v) where
  reads_others : (xs : List A) (m b : List ℕ) → others item end xs m b → Many v end m b
  unfolding others ◌then◌
  reads_others [] m b e = record { to = m; is = none; ends = e }
  reads_others (x ∷ xs) m b (k, (s, (n, (p, o)))) =
      let t = reads_others xs n b o in
      record { to = t.to; is = more (k, (s, g x k n p)) t.is; ends = t.ends }

  pub reads_items : (xs : List A) (a b : List ℕ) → items item end xs a b → (option (v then many (value_separator then v)) then end) a b
  unfolding items ◌then◌ option
  reads_items [] a b e = (a, (inl refl, e))
  reads_items (x ∷ xs) a b (k, (p, o)) =
      let t = reads_others xs k b o in (t.to, (inr (k, (g x a k p, t.is)), t.ends))

module _ {A : Type 0} (v : Rule) (read : A → Rule) (f : Reads v read) where
  member_reads_by : (a b : List ℕ) → member v a b → (m : List ℕ × A) × member_of read m a b
  unfolding member member_of ◌then◌ spelt
  member_reads_by a b (m, (s, (k, (n, p)))) =
      let t = f_string a m s in
      let x = f k b p in
      ((t.text, x.0), (m, ((s, t.is), (k, (n, x.1)))))

  object_reads_by : (a b : List ℕ) → object v a b → (ms : List (List ℕ × A)) × object_of read ms a b
  unfolding object object_of ◌then◌
  object_reads_by a b (k, (s, p)) =
      let t = items_reads (member v) (member_of read) end_object member_reads_by k b p in (t.0, (k, (s, t.1)))

  array_reads_by : (a b : List ℕ) → array v a b → (vs : List A) × array_of read vs a b
  unfolding array array_of ◌then◌
  array_reads_by a b (k, (s, p)) = let t = items_reads v read end_array f k b p in (t.0, (k, (s, t.1)))

module _ {A : Type 0} (v : Rule) (read : A → Rule) (g : Texts read v) where
  reads_member_by : (m : List ℕ × A) (a b : List ℕ) → member_of read m a b → member v a b
  unfolding member member_of ◌then◌ spelt
  reads_member_by m a b (k, ((s, e), (l, (n, p)))) = (k, (s, (l, (n, g m.1 l b p))))

  reads_object_by : (ms : List (List ℕ × A)) (a b : List ℕ) → object_of read ms a b → object v a b
  unfolding object object_of ◌then◌
  reads_object_by ms a b (k, (s, p)) = (k, (s, reads_items (member v) (member_of read) end_object reads_member_by ms k b p))

  reads_array_by : (vs : List A) (a b : List ℕ) → array_of read vs a b → array v a b
  unfolding array array_of ◌then◌
  reads_array_by vs a b (k, (s, p)) = (k, (s, reads_items v read end_array g vs k b p))

-- ---- from a reading to the text

pub reads_value : (d : ℕ) (j : Json d) (a b : List ℕ) → value_of d j a b → value d a b
unfolding value value_of form_of spelt ◌or◌
reads_value zero t a b (p, e) = p
reads_value (suc d) (plain t) a b (p, e) = inl p
reads_value (suc d) (Form.object ms) a b p = inr (inl (reads_object_by (value d) (value_of d) (reads_value d) ms a b p))
reads_value (suc d) (Form.array vs) a b p = inr (inr (reads_array_by (value d) (value_of d) (reads_value d) vs a b p))

pub reads_member : (d : ℕ) (m : List ℕ × Json d) (a b : List ℕ) → member_of (value_of d) m a b → member (value d) a b
reads_member d m a b p = reads_member_by (value d) (value_of d) (reads_value d) m a b p

pub reads_object : (d : ℕ) (ms : List (List ℕ × Json d)) (a b : List ℕ) → object_of (value_of d) ms a b → object (value d) a b
reads_object d ms a b p = reads_object_by (value d) (value_of d) (reads_value d) ms a b p

pub reads_array : (d : ℕ) (vs : List (Json d)) (a b : List ℕ) → array_of (value_of d) vs a b → array (value d) a b
reads_array d vs a b p = reads_array_by (value d) (value_of d) (reads_value d) vs a b p

-- ---- from a text to a reading

pub value_reads : (d : ℕ) (a b : List ℕ) → value d a b → (j : Json d) × value_of d j a b
unfolding value value_of form_of spelt ◌or◌
value_reads zero a b p = let t = value_text 0 a b p in (t.text, (p, t.is))
value_reads (suc d) a b (inl p) = let t = value_text 0 a b p in (plain t.text, (p, t.is))
value_reads (suc d) a b (inr (inl p)) = let t = object_reads_by (value d) (value_of d) (value_reads d) a b p in (Form.object t.0, t.1)
value_reads (suc d) a b (inr (inr p)) = let t = array_reads_by (value d) (value_of d) (value_reads d) a b p in (Form.array t.0, t.1)

pub member_reads : (d : ℕ) (a b : List ℕ) → member (value d) a b → (m : List ℕ × Json d) × member_of (value_of d) m a b
member_reads d a b p = member_reads_by (value d) (value_of d) (value_reads d) a b p

pub object_reads : (d : ℕ) (a b : List ℕ) → object (value d) a b → (ms : List (List ℕ × Json d)) × object_of (value_of d) ms a b
object_reads d a b p = object_reads_by (value d) (value_of d) (value_reads d) a b p

pub array_reads : (d : ℕ) (a b : List ℕ) → array (value d) a b → (vs : List (Json d)) × array_of (value_of d) vs a b
array_reads d a b p = array_reads_by (value d) (value_of d) (value_reads d) a b p

-- ---- lists of items between brackets

-- items between brackets, told with what they are
unfoldable pub Bracketed : {A : Type 0} → ℕ → ℕ → (A → Rule) → List A → Rule
Bracketed left close item xs = (byte left then ws) then items item (ws then byte close) xs

-- lists of items between brackets, which objects and arrays are
pub record Listing {A : Type 0} (left close : ℕ) (item : A → Rule) (P : List A → Rule) : Type 0 where
  pub pos : 0 < left
  pub closes : Closes close
  pub headed : (x : A) → Headed close (item x)
  pub to : (xs : List A) (a b : List ℕ) → P xs a b → Bracketed left close item xs a b
  pub back : (xs : List A) (a b : List ℕ) → Bracketed left close item xs a b → P xs a b

pub objects : (d : ℕ) → Listing 123 125 (member_of (value_of d)) (object_of (value_of d))
unfolding Bracketed object_of begin_object end_object Headed
objects d = record {
  pos = omega arith;
  closes = closes_object;
  headed = λ m a b p. member_headed (value d) a b (reads_member d m a b p);
  to = λ xs a b p. p;
  back = λ xs a b p. p;
}

pub arrays : (d : ℕ) → Listing 91 93 (value_of d) (array_of (value_of d))
unfolding Bracketed array_of begin_array end_array Headed
arrays d = record {
  pos = omega arith;
  closes = closes_array;
  headed = λ j a b p. value_headed d a b (reads_value d j a b p);
  to = λ xs a b p. p;
  back = λ xs a b p. p;
}

-- one reading and one end where a value can end
abbrev pub One : {A : Type 0} → (A → Rule) → Type 0
One {A} item = (x y : A) (a b c : List ℕ) → item x a b → Ends b → item y a c → Ends c → (x ≡ y) × (b ≡ c)

-- what follows an item can follow a value
pub others_ends : {A : Type 0} (close : ℕ) (item : A → Rule) → Closes close → (xs : List A) (a b : List ℕ) → others item (ws then byte close) xs a b → Ends a
unfolding others ◌then◌ value_separator ws byte Ends Follow
others_ends close item C [] a b (n, (w, e)) = ws_ends w (rw e C.follow)
others_ends close item C (x ∷ xs) a b (k, ((n, (w, (y, (e, u)))), p)) = ws_ends w (rw e (inr (inr (inr (inr (inl refl))))))

module _ {A : Type 0} (close : ℕ) (item : A → Rule) (C : Closes close) (H : (x : A) → Headed close (item x)) (F : One item) where
  others_one : (xs ys : List A) (a b c : List ℕ) → others item (ws then byte close) xs a b → others item (ws then byte close) ys a c → (xs ≡ ys) × (b ≡ c)
  unfolding others ◌then◌ value_separator ws byte Headed
  others_one [] [] a b c (k, (w, e)) (l, (u, f)) =
      let s : k ≡ l = ws_only w (rw e (solid_byte b C.dark)) u (rw f (solid_byte c C.dark)) in
      (refl, tail_eq (sym e ∙ (s ∙ f)))
  others_one [] (y ∷ ys) a b c (k, (w, e)) (n, ((o, (t, (z, (g, h)))), q)) =
      let s : k ≡ o = ws_only w (rw e (solid_byte b C.dark)) t (rw g (solid_byte z dark_comma)) in
      absurd (C.comma (head_eq (sym e ∙ (s ∙ g))))
  others_one (x ∷ xs) [] a b c (n, ((o, (t, (z, (g, h)))), q)) (k, (w, e)) =
      let s : k ≡ o = ws_only w (rw e (solid_byte c C.dark)) t (rw g (solid_byte z dark_comma)) in
      absurd (C.comma (head_eq (sym e ∙ (s ∙ g))))
  others_one (x ∷ xs) (y ∷ ys) a b c (n, ((o, (t, (z, (g, h)))), (i, (p, r)))) (n', ((o', (t', (z', (g', h')))), (i', (p', r')))) =
      let s : o ≡ o' = ws_only t (rw g (solid_byte z dark_comma)) t' (rw g' (solid_byte z' dark_comma)) in
      let zs : z ≡ z' = tail_eq (sym g ∙ (s ∙ g')) in
      let ns : n ≡ n' = ws_only (rw zs at h) (H x n i p).0 h' (H y n' i' p').0 in
      let m = F x y n' i i' (rw ns at p) (others_ends close item C xs i b r) p' (others_ends close item C ys i' c r') in
      let js : i' ≡ i = sym m.1 in
      let rest = others_one xs ys i b c r (rw js at r') in
      (rw (m.0, rest.0) refl, rest.1)

  items_one : (left : ℕ) (xs ys : List A) (a b c : List ℕ) → Bracketed left close item xs a b → Bracketed left close item ys a c → (xs ≡ ys) × (b ≡ c)
  unfolding Bracketed items ◌then◌ ws byte Headed
  items_one left [] [] a b c (k, ((y, (e, w)), (n, (u, g)))) (k', ((y', (e', w')), (n', (u', g')))) =
      let ys : y ≡ y' = tail_eq (sym e ∙ e') in
      let s : n ≡ n' = ws_only (many_join (rw ys at w) u) (rw g (solid_byte b C.dark)) (many_join w' u') (rw g' (solid_byte c C.dark)) in
      (refl, tail_eq (sym g ∙ (s ∙ g')))
  items_one left [] (v ∷ vs) a b c (k, ((y, (e, w)), (n, (u, g)))) (k', ((y', (e', w')), (i, (p, r)))) =
      let ys : y ≡ y' = tail_eq (sym e ∙ e') in
      let s : n ≡ k' = ws_only (many_join (rw ys at w) u) (rw g (solid_byte b C.dark)) w' (H v k' i p).0 in
      absurd ((H v k' i p).1 b (sym s ∙ g))
  items_one left (v ∷ vs) [] a b c (k', ((y', (e', w')), (i, (p, r)))) (k, ((y, (e, w)), (n, (u, g)))) =
      let ys : y ≡ y' = tail_eq (sym e ∙ e') in
      let s : n ≡ k' = ws_only (many_join (rw ys at w) u) (rw g (solid_byte c C.dark)) w' (H v k' i p).0 in
      absurd ((H v k' i p).1 c (sym s ∙ g))
  items_one left (v ∷ vs) (x ∷ xs) a b c (k, ((y, (e, w)), (i, (p, r)))) (k', ((y', (e', w')), (i', (p', r')))) =
      let ys : y ≡ y' = tail_eq (sym e ∙ e') in
      let ks : k ≡ k' = ws_only (rw ys at w) (H v k i p).0 w' (H x k' i' p').0 in
      let m = F v x k' i i' (rw ks at p) (others_ends close item C vs i b r) p' (others_ends close item C xs i' c r') in
      let js : i' ≡ i = sym m.1 in
      let rest = others_one vs xs i b c r (rw js at r') in
      (rw (m.0, rest.0) refl, rest.1)

-- the bracket ends a list, whatever follows
pub listing_one : {A : Type 0} (left close : ℕ) (item : A → Rule) (P : List A → Rule) → Listing left close item P → One item
    → (xs ys : List A) (a b c : List ℕ) → P xs a b → P ys a c → (xs ≡ ys) × (b ≡ c)
listing_one left close item P L F xs ys a b c p q = items_one close item L.closes L.headed F left xs ys a b c (L.to xs a b p) (L.to ys a c q)

-- ---- one reading

spelt_one : (P : Rule) (t u a b c : List ℕ) → spelt P t a b → spelt P u a c → b ≡ c → t ≡ u
unfolding spelt
spelt_one P t u a b c (p, e) (q, f) k = append_cancel_right t u c (sym (rw k at e) ∙ f)

spelt_is : (P : Rule) (t a b : List ℕ) → spelt P t a b → P a b
unfolding spelt
spelt_is P t a b (p, e) = p

pair_eq : {A B : Type 0} (x y : A) (u w : B) → x ≡ y → u ≡ w → ◌≡◌ {A = A × B} (x, u) (y, w)
pair_eq x y u w e f = rw (e, f) refl

member_one_by : (d : ℕ) → One (value_of d) → One (member_of (value_of d))
unfolding member_of ◌then◌ name_separator ws byte Headed
member_one_by d F m n a b c (x, (s, (y, ((o, (t, (z, (g, h)))), p)))) k (x', (s', (y', ((o', (t', (z', (g', h')))), p')))) l =
    let xs : x ≡ x' = alone_string a x x' (spelt_is string m.0 a x s) (spelt_is string n.0 a x' s') in
    let os : o ≡ o' = ws_only (rw xs at t) (rw g (solid_byte z dark_colon)) t' (rw g' (solid_byte z' dark_colon)) in
    let zs : z ≡ z' = tail_eq (sym g ∙ (os ∙ g')) in
    let ys : y ≡ y' = ws_only (rw zs at h) (value_headed d y b (reads_value d m.1 y b p)).0 h' (value_headed d y' c (reads_value d n.1 y' c p')).0 in
    let v = F m.1 n.1 y' b c (rw ys at p) k p' l in
    (pair_eq m.0 n.0 m.1 n.1 (spelt_one string m.0 n.0 a x x' s s' xs) v.0, v.1)

-- by the first byte, a reading is of one kind
no_both : {A : Type 0} (v : Rule) (read : A → Rule) → Texts read v → (ms : List (List ℕ × A)) (vs : List A) (a b c : List ℕ) → object_of read ms a b → array_of read vs a c → ⊥
no_both v read g ms vs a b c p q = 91-123 (array_first v a c (reads_array_by v read g vs a c q)).1 (object_first v a b (reads_object_by v read g ms a b p)).1

no_object : {A : Type 0} (v : Rule) (read : A → Rule) → Texts read v → (t : List ℕ) (ms : List (List ℕ × A)) (a b c : List ℕ) → spelt scalar t a b → object_of read ms a c → ⊥
no_object v read g t ms a b c p q = starts_not (scalar_starts a b (spelt_is scalar t a b p)) (λ k. k.no123 refl) (object_first v a c (reads_object_by v read g ms a c q)).1

no_array : {A : Type 0} (v : Rule) (read : A → Rule) → Texts read v → (t : List ℕ) (vs : List A) (a b c : List ℕ) → spelt scalar t a b → array_of read vs a c → ⊥
no_array v read g t vs a b c p q = starts_not (scalar_starts a b (spelt_is scalar t a b p)) (λ k. k.no91 refl) (array_first v a c (reads_array_by v read g vs a c q)).1

plain_one : (t u a b c : List ℕ) → spelt scalar t a b → Ends b → spelt scalar u a c → Ends c → (t ≡ u) × (b ≡ c)
unfolding value
plain_one t u a b c p k q l =
    let e : b ≡ c = value_ended 0 a b c (spelt_is scalar t a b p) k (spelt_is scalar u a c q) l in
    (spelt_one scalar t u a b c p q e, e)

pub value_one : (d : ℕ) → One (value_of d)
unfolding value_of form_of
value_one zero t u a b c p k q l = plain_one t u a b c p k q l
value_one (suc d) (plain t) (plain u) a b c p k q l = let z = plain_one t u a b c p k q l in (ap plain z.0, z.1)
value_one (suc d) (plain t) (Form.object ns) a b c p k q l = absurd (no_object (value d) (value_of d) (reads_value d) t ns a b c p q)
value_one (suc d) (plain t) (Form.array ns) a b c p k q l = absurd (no_array (value d) (value_of d) (reads_value d) t ns a b c p q)
value_one (suc d) (Form.object ms) (plain u) a b c p k q l = absurd (no_object (value d) (value_of d) (reads_value d) u ms a c b q p)
value_one (suc d) (Form.object ms) (Form.object ns) a b c p k q l =
    let z = listing_one 123 125 (member_of (value_of d)) (object_of (value_of d)) (objects d) (member_one_by d (value_one d)) ms ns a b c p q in
    (ap Form.object z.0, z.1)
value_one (suc d) (Form.object ms) (Form.array ns) a b c p k q l = absurd (no_both (value d) (value_of d) (reads_value d) ms ns a b c p q)
value_one (suc d) (Form.array ms) (plain u) a b c p k q l = absurd (no_array (value d) (value_of d) (reads_value d) u ms a c b q p)
value_one (suc d) (Form.array ms) (Form.object ns) a b c p k q l = absurd (no_both (value d) (value_of d) (reads_value d) ns ms a c b q p)
value_one (suc d) (Form.array ms) (Form.array ns) a b c p k q l =
    let z = listing_one 91 93 (value_of d) (array_of (value_of d)) (arrays d) (value_one d) ms ns a b c p q in
    (ap Form.array z.0, z.1)

pub member_one : (d : ℕ) → One (member_of (value_of d))
member_one d = member_one_by d (value_one d)

pub object_one : (d : ℕ) (ms ns : List (List ℕ × Json d)) (a b c : List ℕ) → object_of (value_of d) ms a b → object_of (value_of d) ns a c → (ms ≡ ns) × (b ≡ c)
object_one d ms ns a b c p q = listing_one 123 125 (member_of (value_of d)) (object_of (value_of d)) (objects d) (member_one d) ms ns a b c p q

pub array_one : (d : ℕ) (vs us : List (Json d)) (a b c : List ℕ) → array_of (value_of d) vs a b → array_of (value_of d) us a c → (vs ≡ us) × (b ≡ c)
array_one d vs us a b c p q = listing_one 91 93 (value_of d) (array_of (value_of d)) (arrays d) (value_one d) vs us a b c p q

-- ---- a line

pub line_reads : (s : List ℕ) → line s [] → (ms : List (List ℕ × Json 15)) × line_of ms s
unfolding line line_of ◌then◌
line_reads s (a, (w, (b, (p, u)))) = let t = object_reads 15 a b p in (t.0, (a, (w, (b, (t.1, u)))))

pub reads_line : (ms : List (List ℕ × Json 15)) (s : List ℕ) → line_of ms s → line s []
unfolding line line_of ◌then◌
reads_line ms s (a, (w, (b, (p, u)))) = (a, (w, (b, (reads_object 15 ms a b p, u))))

object_solid : (v : Rule) (a b : List ℕ) → object v a b → Solid a
object_solid v a b p =
    let t = object_first v a b p in
    rw t.1 (solid_byte t.0 (record { space = λ e. omega arith; tab = λ e. omega arith; feed = λ e. omega arith; return = λ e. omega arith }))

-- A line holds one list of members.
pub line_one : (ms ns : List (List ℕ × Json 15)) (s : List ℕ) → line_of ms s → line_of ns s → ms ≡ ns
unfolding line_of ◌then◌ ws
line_one ms ns s (a, (w, (b, (p, u)))) (a', (w', (b', (p', u')))) =
    let e : a ≡ a' = ws_only w (object_solid (value 15) a b (reads_object 15 ms a b p)) w' (object_solid (value 15) a' b' (reads_object 15 ns a' b' p')) in
    (object_one 15 ms ns a' b b' (rw e at p) p').0

-- The same of a line as RFC 8259 writes it.
pub rfc_reads : (s : List ℕ) → rfc.line s [] → (ms : List (List ℕ × Json 15)) × line_of ms s
rfc_reads s l = line_reads s (line_from_rfc s [] l)

pub reads_rfc : (ms : List (List ℕ × Json 15)) (s : List ℕ) → line_of ms s → rfc.line s []
reads_rfc ms s l = line_to_rfc s [] (reads_line ms s l)
