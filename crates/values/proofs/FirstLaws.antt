-- What a value's first byte says of its reading, and what a string's text is. Assumes nothing.
use mathlib.Core.Path.{◌≡◌, refl, sym, ap, ◌∙◌}
use mathlib.Core.List.{List, [], ◌∷◌, ◌++◌, append_assoc, append_cancel_right}
use mathlib.Core.Logic.{◌⊎◌, inl, inr}
use Prim.Native.Nat.{ℕ, suc, ◌+◌, ◌-◌, ◌≤◌, ◌<◌}
use native.Mathlib.Omega.{arith}
use lib.ListN.{length, get_or, take, drop, length-append, length-drop}
use Rattle.json_text.specs.Grammar.{byte, range, ◌then◌, ◌or◌, many, none, more, unescaped, char, string, scalar}
use Rattle.json_text.specs.Tight.{value}
use Rattle.json_text.specs.Members.{Form, plain, Json, spelt, object_of, array_of, form_of, value_of}
use Rattle.json_text.specs.Skips.{OnlyAt}
use Rattle.values.specs.Reading.{ItemAt}
use lib.Seq.{drop-drop, drop-append_seam, take-append_seam}
use Rattle.json_text.proofs.WsLaws.{lt_or_ge, stands, at_byte, byte_at, head_eq, tail_eq}
use Rattle.json_text.proofs.ScalarLaws.{literal_first, number_first, string_first, scalar_starts}
use Rattle.values.proofs.ValueLaws.{array_first, object_first, starts_not, 91-123}
use Rattle.values.proofs.TextLaws.{f_many, f_char}
use Rattle.values.proofs.OnlyLaws.{alone_string}
use Rattle.values.proofs.ReadingLaws.{reads_object, reads_array}
use Rattle.values.proofs.ItemLaws.{cut, cut_is}

-- ---- by the first byte

scalar_no_91 : (a b z : List ℕ) → scalar a b → a ≡ 91 ∷ z → ⊥
scalar_no_91 a b z p e = starts_not (scalar_starts a b p) (λ k. k.no91 refl) e

scalar_no_123 : (a b z : List ℕ) → scalar a b → a ≡ 123 ∷ z → ⊥
scalar_no_123 a b z p e = starts_not (scalar_starts a b p) (λ k. k.no123 refl) e

pub first_object : (d : ℕ) (j : Json (suc d)) (a b z : List ℕ) → a ≡ 123 ∷ z → value_of (suc d) j a b
    → (ms : List (List ℕ × Json d)) × (j ≡ Form.object ms) × object_of (value_of d) ms a b
unfolding value_of form_of spelt
first_object d (plain t) a b z e (p, q) = absurd (scalar_no_123 a b z p e)
first_object d (Form.object ms) a b z e p = (ms, refl, p)
first_object d (Form.array vs) a b z e p = absurd (91-123 (array_first (value d) a b (reads_array d vs a b p)).1 e)

pub first_array : (d : ℕ) (j : Json (suc d)) (a b z : List ℕ) → a ≡ 91 ∷ z → value_of (suc d) j a b
    → (vs : List (Json d)) × (j ≡ Form.array vs) × array_of (value_of d) vs a b
unfolding value_of form_of spelt
first_array d (plain t) a b z e (p, q) = absurd (scalar_no_91 a b z p e)
first_array d (Form.object ms) a b z e p = absurd (91-123 e (object_first (value d) a b (reads_object d ms a b p)).1)
first_array d (Form.array vs) a b z e p = (vs, refl, p)

-- what is neither is plain
pub record PlainRead {A : Type 0} (j : Form A) (a b : List ℕ) : Type 0 where
  pub text : List ℕ
  pub is : j ≡ plain text
  pub spells : a ≡ text ++ b
  pub scalar_is : scalar a b

pub first_plain : (d : ℕ) (j : Json (suc d)) (a b : List ℕ) → ((z : List ℕ) → a ≡ 91 ∷ z → ⊥) → ((z : List ℕ) → a ≡ 123 ∷ z → ⊥)
    → value_of (suc d) j a b → PlainRead j a b
unfolding value_of form_of spelt
first_plain d (plain t) a b f g (p, q) = record { text = t; is = refl; spells = q; scalar_is = p }
first_plain d (Form.object ms) a b f g p = let t = object_first (value d) a b (reads_object d ms a b p) in absurd (g t.0 t.1)
first_plain d (Form.array vs) a b f g p = let t = array_first (value d) a b (reads_array d vs a b p) in absurd (f t.0 t.1)

-- the same at places of a text
pub object_at : (d : ℕ) (j : Json (suc d)) (s : List ℕ) (v e : ℕ) → get_or s v 0 ≡ 123 → value_of (suc d) j (drop v s) (drop e s)
    → (ms : List (List ℕ × Json d)) × (j ≡ Form.object ms) × object_of (value_of d) ms (drop v s) (drop e s)
object_at d j s v e c p = first_object d j (drop v s) (drop e s) (drop (v + 1) s) (at_byte s v 123 c (omega arith)) p

pub array_at : (d : ℕ) (j : Json (suc d)) (s : List ℕ) (v e : ℕ) → get_or s v 0 ≡ 91 → value_of (suc d) j (drop v s) (drop e s)
    → (vs : List (Json d)) × (j ≡ Form.array vs) × array_of (value_of d) vs (drop v s) (drop e s)
array_at d j s v e c p = first_array d j (drop v s) (drop e s) (drop (v + 1) s) (at_byte s v 91 c (omega arith)) p

pub plain_at : (d : ℕ) (j : Json (suc d)) (s : List ℕ) (v e : ℕ) → v ≤ e → (get_or s v 0 ≡ 91 → ⊥) → (get_or s v 0 ≡ 123 → ⊥)
    → value_of (suc d) j (drop v s) (drop e s) → (j ≡ plain (take (e - v) (drop v s))) × scalar (drop v s) (drop e s)
plain_at d j s v e h f g p =
    let t = first_plain d j (drop v s) (drop e s) (λ z q. f (byte_at s v 91 z q)) (λ z q. g (byte_at s v 123 z q)) p in
    (t.is ∙ ap plain (cut_is s t.text v e h t.spells), t.scalar_is)

-- ---- strings

pub scalar_is_string : (a b z : List ℕ) → a ≡ 34 ∷ z → scalar a b → string a b
unfolding scalar ◌or◌
scalar_is_string a b z e (inl p) = let f = literal_first a b p in let h = head_eq (sym f.is ∙ e) in absurd (omega (arith, f.low))
scalar_is_string a b z e (inr (inl p)) = let f = number_first a b p in let h = head_eq (sym f.is ∙ e) in absurd (omega (arith, f.low))
scalar_is_string a b z e (inr (inr p)) = p

-- a string's text: characters between quotation marks
pub record QuotedRead (a b : List ℕ) : Type 0 where
  pub body : List ℕ
  pub spells : a ≡ 34 ∷ (body ++ (34 ∷ b))
  pub chars : many char (body ++ (34 ∷ b)) (34 ∷ b)

quoted_by : (a b m n body : List ℕ) → a ≡ 34 ∷ m → many char m n → n ≡ 34 ∷ b → m ≡ body ++ n → QuotedRead a b
quoted_by a b m n body e p f q =
    let k : m ≡ body ++ (34 ∷ b) = q ∙ ap (λ (l : List ℕ). body ++ l) f in
    let c : many char m (34 ∷ b) = rw f at p in
    record { body = body; spells = e ∙ ap (λ (l : List ℕ). 34 ∷ l) k; chars = rw k at c }

pub string_quoted : (a b : List ℕ) → string a b → QuotedRead a b
unfolding string ◌then◌ byte
string_quoted a b (m, (e, (n, (p, f)))) = let t = f_many char f_char p in quoted_by a b m n t.text e p f t.is

-- the text of a string that is told by its reading
pub string_text : (t a b : List ℕ) → string a b → a ≡ t ++ b → (body : List ℕ) × (t ≡ 34 ∷ (body ++ (34 ∷ [])))
string_text t a b p e =
    let q = string_quoted a b p in
    let f : 34 ∷ (q.body ++ (34 ∷ b)) ≡ (34 ∷ (q.body ++ (34 ∷ []))) ++ b = ap (λ (l : List ℕ). 34 ∷ l) (sym (append_assoc q.body (34 ∷ []) b)) in
    (q.body, append_cancel_right t (34 ∷ (q.body ++ (34 ∷ []))) b (sym e ∙ (q.spells ∙ f)))

-- a string from v to e: its quotation marks, and what stands between them
pub record QuotedAt (s : List ℕ) (v e : ℕ) : Type 0 where
  pub wide : v + 2 ≤ e
  pub opens : get_or s v 0 ≡ 34
  pub closes : get_or s (e - 1) 0 ≡ 34
  pub text : take (e - v) (drop v s) ≡ 34 ∷ (take (e - 1 - (v + 1)) (drop (v + 1) s) ++ (34 ∷ []))
  pub chars : many char (drop (v + 1) s) (drop (e - 1) s)

pub quoted_at : (s : List ℕ) (v e : ℕ) → v ≤ e → e ≤ length s → string (drop v s) (drop e s) → QuotedAt s v e
quoted_at s v e h k p =
    let q = string_quoted (drop v s) (drop e s) p in
    let t = q.body in
    let o : get_or s v 0 ≡ 34 = byte_at s v 34 (t ++ (34 ∷ drop e s)) q.spells in
    let f : drop (v + 1) s ≡ t ++ (34 ∷ drop e s) = tail_eq (sym (at_byte s v 34 o (omega arith)) ∙ q.spells) in
    let n : length s - (v + 1) ≡ length t + suc (length s - e) = simp (length-drop, length-append) at (ap length f) in
    let w : v + 1 < length s + 1 = omega (arith, stands s v 34 o (omega arith)) in
    let m : v + 1 + length t ≡ e - 1 = omega arith in
    let u : v + 2 ≤ e = omega arith in
    let l : drop (e - 1) s ≡ 34 ∷ drop e s =
    ap (λ (i : ℕ). drop i s) (sym m) ∙ (sym (drop-drop (length t) (v + 1) s) ∙ (ap (λ (x : List ℕ). drop (length t) x) f ∙ drop-append_seam t (34 ∷ drop e s))) in
    let i : length t ≡ e - 1 - (v + 1) = omega arith in
    let b : take (e - 1 - (v + 1)) (drop (v + 1) s) ≡ t =
    ap (λ (x : ℕ). take x (drop (v + 1) s)) (sym i) ∙ (ap (λ (x : List ℕ). take (length t) x) f ∙ take-append_seam t (34 ∷ drop e s)) in
    let y : drop v s ≡ (34 ∷ (t ++ (34 ∷ []))) ++ drop e s =
    q.spells ∙ ap (λ (x : List ℕ). 34 ∷ x) (sym (append_assoc t (34 ∷ []) (drop e s))) in
    record {
      wide = u;
      opens = o;
      closes = byte_at s (e - 1) 34 (drop e s) l;
      text = rw b (sym (cut_is s (34 ∷ (t ++ (34 ∷ []))) v e h y));
      chars = rw (f, l) q.chars;
    }

-- ---- a string as an item of a walk, whatever follows it

pub string_item : (d : ℕ) {s : List ℕ} {v e : ℕ} → OnlyAt string s v e → ItemAt (value_of (suc d)) (plain (take (e - v) (drop v s))) s v e
unfolding value_of form_of spelt scalar ◌or◌
string_item d {s} {v} {e} h =
    let le : v ≤ e = omega (arith, h.from) in
    record {
      from = le;
      within = h.within;
      is = (inr (inr h.is), cut s v e le);
      only = λ y r p k. only y r p;
    }
  where
    only : (y : Json (suc d)) (r : List ℕ) → value_of (suc d) y (drop v s) r → (y ≡ plain (take (e - v) (drop v s))) × (r ≡ drop e s)
    only y r p =
        let f = string_first (drop v s) (drop e s) h.is in
        let c : drop v s ≡ f.first ∷ f.after = f.is in
        let b : f.first ≡ 34 = omega (arith, f.low, f.high) in
        let a : drop v s ≡ 34 ∷ f.after = c ∙ ap (λ (x : ℕ). x ∷ f.after) b in
        let t = first_plain d y (drop v s) r (λ z q. no 91 z a q (omega arith)) (λ z q. no 123 z a q (omega arith)) p in
        let g : r ≡ drop e s = h.only r (scalar_is_string (drop v s) r f.after a t.scalar_is) in
        let u : drop v s ≡ t.text ++ drop e s = t.spells ∙ ap (λ (l : List ℕ). t.text ++ l) g in
        (t.is ∙ ap plain (cut_is s t.text v e (omega (arith, h.from)) u), g)
      where
        no : (c : ℕ) {x : List ℕ} (z : List ℕ) → drop v s ≡ 34 ∷ x → drop v s ≡ c ∷ z → 34 < c → ⊥
        no c z p q k = let m = head_eq (sym p ∙ q) in omega arith

-- ---- strings of bytes that need no escape

pub record PlainByte (c : ℕ) : Type 0 where
  pub low : 32 ≤ c
  pub high : c ≤ 126
  pub no_quote : c ≡ 34 → ⊥
  pub no_escape : c ≡ 92 → ⊥

abbrev pub PlainBytes : List ℕ → Type 0
PlainBytes [] = Unit {0}
PlainBytes (c ∷ t) = PlainByte c × PlainBytes t

past : (n c : ℕ) → n ≤ c → (c ≡ n → ⊥) → suc n ≤ c
past n c h f = go (lt_or_ge n c)
  where
    go : (n < c) ⊎ (c ≤ n) → suc n ≤ c
    go (inl k) = k
    go (inr k) = absurd (f (omega arith))

plain_char : (c : ℕ) (b : List ℕ) → PlainByte c → char (c ∷ b) b
unfolding char unescaped ◌or◌ range
plain_char c b p = go (lt_or_ge c 34) (lt_or_ge c 92)
  where
    go : (c < 34) ⊎ (34 ≤ c) → (c < 92) ⊎ (92 ≤ c) → char (c ∷ b) b
    go (inl h) k = inl (inl (c, (p.low, (omega arith, refl))))
    go (inr h) (inl k) = inl (inr (inl (c, (past 34 c h p.no_quote, (omega arith, refl)))))
    go (inr h) (inr k) = inl (inr (inr (inl (c, (past 92 c k p.no_escape, (omega (arith, p.high), refl))))))

pub plain_chars : (t b : List ℕ) → PlainBytes t → many char (t ++ b) b
plain_chars [] b p = none
plain_chars (c ∷ t) b p = more (plain_char c (t ++ b) p.0) (plain_chars t b p.1)

pub plain_string : (t b : List ℕ) → PlainBytes t → string (34 ∷ (t ++ (34 ∷ b))) b
unfolding string ◌then◌ byte
plain_string t b p = (t ++ (34 ∷ b), (refl, (34 ∷ b, (plain_chars t (34 ∷ b) p, refl))))

pub plain_string_at : (s : List ℕ) (v e : ℕ) → v + 2 ≤ e → e ≤ length s → get_or s v 0 ≡ 34 → get_or s (e - 1) 0 ≡ 34
    → PlainBytes (take (e - 1 - (v + 1)) (drop (v + 1) s)) → OnlyAt string s v e
plain_string_at s v e h k o c p =
    let t = take (e - 1 - (v + 1)) (drop (v + 1) s) in
    let n : e - 1 + 1 ≡ e = omega arith in
    let f : drop (e - 1) s ≡ 34 ∷ drop e s = at_byte s (e - 1) 34 c (omega arith) ∙ ap (λ (i : ℕ). 34 ∷ drop i s) n in
    let g : drop (v + 1) s ≡ t ++ (34 ∷ drop e s) = cut s (v + 1) (e - 1) (omega arith) ∙ ap (λ (l : List ℕ). t ++ l) f in
    let q : drop v s ≡ 34 ∷ (t ++ (34 ∷ drop e s)) = at_byte s v 34 o (omega arith) ∙ ap (λ (l : List ℕ). 34 ∷ l) g in
    let is : string (drop v s) (drop e s) = rw q (plain_string t (drop e s) p) in
    record { from = omega arith; within = k; is = is; only = λ r z. alone_string (drop v s) r (drop e s) z is }
