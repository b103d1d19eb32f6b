-- Laws of places in a text and of white space. Assumes nothing.
use mathlib.Core.Path.{◌≡◌, refl, sym, ap, ◌∙◌}
use mathlib.Core.List.{List, [], ◌∷◌}
use mathlib.Core.Logic.{◌⊎◌, inl, inr}
use Prim.Native.Nat.{ℕ, ◌+◌, ◌≤◌, ◌<◌}
use native.Mathlib.Omega.{arith}
use native.Mathlib.Numerals.{add-one}
use mathlib.Core.Bool.{Bool, true, false}
use lib.Dec.{ltb}
use borrow.Author.Tests.{ltb-true, ltb-false}
use lib.ListN.{length, get_or, drop, get_or-eq_default, drop_of_length-le}
use lib.Seq.{drop-cons}
use Rattle.json_text.specs.Grammar.{Rule, byte, ◌or◌, many, none, more, white}
use Rattle.json_text.specs.Skips.{Not, Solid, Follow, Ends}

pub lt_or_ge : (i n : ℕ) → (i < n) ⊎ (n ≤ i)
lt_or_ge i n = go (ltb i n) refl
  where
    go : (b : Bool) → ltb i n ≡ b → (i < n) ⊎ (n ≤ i)
    go true e = inl (ltb-true i n e)
    go false e = inr (ltb-false i n e)

-- a byte that is not 0 stands before the end
pub stands : (s : List ℕ) (i c : ℕ) → get_or s i 0 ≡ c → 0 < c → i < length s
stands s i c e h = go (lt_or_ge i (length s))
  where
    go : (i < length s) ⊎ (length s ≤ i) → i < length s
    go (inl k) = k
    go (inr k) = let d : get_or s i 0 ≡ 0 = get_or-eq_default s 0 k in absurd (omega arith)

pub at_byte : (s : List ℕ) (i c : ℕ) → get_or s i 0 ≡ c → 0 < c → drop i s ≡ c ∷ drop (i + 1) s
at_byte s i c e h =
    let k : i < length s = stands s i c e h in
    drop-cons s i 0 k ∙ rw (e, add-one) refl

pub head_eq : {c d : ℕ} {a b : List ℕ} → c ∷ a ≡ d ∷ b → c ≡ d
head_eq e = cc

pub tail_eq : {c d : ℕ} {a b : List ℕ} → c ∷ a ≡ d ∷ b → a ≡ b
tail_eq e = cc

-- what stands at i begins with the byte at i
pub byte_at : (s : List ℕ) (i c : ℕ) (a : List ℕ) → drop i s ≡ c ∷ a → get_or s i 0 ≡ c
byte_at s i c a e = go (lt_or_ge i (length s))
  where
    go : (i < length s) ⊎ (length s ≤ i) → get_or s i 0 ≡ c
    go (inl k) = head_eq (sym (drop-cons s i 0 k) ∙ e)
    go (inr k) = let d : drop i s ≡ [] = drop_of_length-le s k in let z : ◌≡◌ {A = ℕ} 0 1 = cc in absurd (omega arith)

unfoldable pub tail : List ℕ → List ℕ
tail [] = []
tail (c ∷ a) = a

white_tail : (a b : List ℕ) → white a b → tail a ≡ b
unfolding white ◌or◌ byte tail
white_tail a b (inl e) = ap tail e
white_tail a b (inr (inl e)) = ap tail e
white_tail a b (inr (inr (inl e))) = ap tail e
white_tail a b (inr (inr (inr e))) = ap tail e

pub many_join : {P : Rule} {a b c : List ℕ} → many P a b → many P b c → many P a c
many_join none n = n
many_join (more p m) n = more p (many_join m n)

-- all the bytes of P are one run
pub run_only : (P : Rule) → ((a b : List ℕ) → P a b → tail a ≡ b) → {a b c : List ℕ} → many P a b → Not P b → many P a c → Not P c → b ≡ c
unfolding Not
run_only P t none p none q = refl
run_only P t none p (more w n) q = absurd (p _ w)
run_only P t (more w m) p none q = absurd (q _ w)
run_only P t {a = a} (more {b = x} w m) p (more {b = y} v n) q =
    let e : x ≡ y = sym (t a x w) ∙ t a y v in run_only P t m p (rw (sym e) at n) q

pub ws_only : {a b c : List ℕ} → many white a b → Solid b → many white a c → Solid c → b ≡ c
ws_only m p n q = run_only white white_tail m p n q

pub white_ends : (a b : List ℕ) → white a b → Ends a
unfolding white ◌or◌ byte Ends Follow
white_ends a b (inl e) = rw e (inl refl)
white_ends a b (inr (inl e)) = rw e (inr (inl refl))
white_ends a b (inr (inr (inl e))) = rw e (inr (inr (inl refl)))
white_ends a b (inr (inr (inr e))) = rw e (inr (inr (inr (inl refl))))

pub ws_ends : {a b : List ℕ} → many white a b → Ends b → Ends a
ws_ends none h = h
ws_ends (more {a = a} {b = b} w m) h = white_ends a b w

-- white space from the byte that stands there
pub white_yes : (s : List ℕ) (i c : ℕ) → get_or s i 0 ≡ c → 0 < c → (c ≡ 32) ⊎ ((c ≡ 9) ⊎ ((c ≡ 10) ⊎ (c ≡ 13)))
    → (i < length s) × white (drop i s) (drop (i + 1) s)
unfolding white ◌or◌ byte
white_yes s i c e h (inl k) = (stands s i c e h, inl (rw k at (at_byte s i c e h)))
white_yes s i c e h (inr (inl k)) = (stands s i c e h, inr (inl (rw k at (at_byte s i c e h))))
white_yes s i c e h (inr (inr (inl k))) = (stands s i c e h, inr (inr (inl (rw k at (at_byte s i c e h)))))
white_yes s i c e h (inr (inr (inr k))) = (stands s i c e h, inr (inr (inr (rw k at (at_byte s i c e h)))))

pub white_no : (s : List ℕ) (i : ℕ) → (get_or s i 0 ≡ 32 → ⊥) → (get_or s i 0 ≡ 9 → ⊥) → (get_or s i 0 ≡ 10 → ⊥) → (get_or s i 0 ≡ 13 → ⊥) → Solid (drop i s)
unfolding white ◌or◌ byte Not
white_no s i f g h k b (inl e) = f (byte_at s i 32 b e)
white_no s i f g h k b (inr (inl e)) = g (byte_at s i 9 b e)
white_no s i f g h k b (inr (inr (inl e))) = h (byte_at s i 10 b e)
white_no s i f g h k b (inr (inr (inr e))) = k (byte_at s i 13 b e)

pub white_high : (s : List ℕ) (i : ℕ) → 32 < get_or s i 0 → Solid (drop i s)
white_high s i h = white_no s i (λ e. omega arith) (λ e. omega arith) (λ e. omega arith) (λ e. omega arith)
