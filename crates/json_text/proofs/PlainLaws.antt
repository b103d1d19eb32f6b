-- Laws of plain bytes, of which most strings are made. Assumes nothing.
use mathlib.Core.Path.{◌≡◌, refl}
use Rattle.std.specs.Prelude.{Option, Some}
use mathlib.Core.List.{List}
use mathlib.Core.Logic.{◌⊎◌, inl, inr}
use mathlib.Core.Bool.{Bool, true, false, not, ◌&&◌}
use Prim.Native.Nat.{ℕ, zero, suc, ◌+◌, ◌-◌, ◌≤◌, ◌<◌}
use native.Mathlib.Omega.{arith}
use lib.Dec.{leb, eqb}
use borrow.Author.Tests.{leb-true, leb-false, eqb-true, eqb-false}
use lib.ListN.{length, get_or}
use Rattle.json_text.specs.Grammar.{byte, ◌then◌, many, char, string}
use Rattle.json_text.specs.Skips.{Exact, OnlyAt, PlainByte, PlainTo, IfSo, Whether}
use Rattle.json_text.proofs.WsLaws.{stands, lt_or_ge}
use Rattle.json_text.proofs.StepLaws.{Leads}
use Rattle.json_text.proofs.CharLaws.{leads_trans, leads_here, char_plain, string_more}

-- ---- a byte

-- a test that holds if both do
both : (P Q : Type 0) (x y : Bool) → Whether P x → Whether Q y → Whether (P × Q) (x && y)
both P Q true true p q = (p, q)
both P Q true false p f = λ w. f w.1
both P Q false y f q = λ w. f w.0

at_most : (a b : ℕ) → Whether (a ≤ b) (leb a b)
at_most a b = go (leb a b) refl
  where
    go : (x : Bool) → leb a b ≡ x → Whether (a ≤ b) x
    go true e = leb-true a b e
    go false e = λ h. let k = leb-false a b e in omega arith

other : (a b : ℕ) → Whether (a ≡ b → ⊥) (not (eqb a b))
other a b = go (eqb a b) refl
  where
    go : (x : Bool) → eqb a b ≡ x → Whether (a ≡ b → ⊥) (not x)
    go true e = λ f. f (eqb-true a b e)
    go false e = eqb-false a b e

pub plain_test : (b : ℕ) (x : Bool) → x ≡ ((leb 32 b && leb b 127) && (not (eqb b 34) && not (eqb b 92))) → Whether (PlainByte b) x
plain_test b x e = rw e (go ((leb 32 b && leb b 127) && (not (eqb b 34) && not (eqb b 92))) all)
  where
    all : Whether (((32 ≤ b) × (b ≤ 127)) × ((b ≡ 34 → ⊥) × (b ≡ 92 → ⊥))) ((leb 32 b && leb b 127) && (not (eqb b 34) && not (eqb b 92)))
    all =
        both ((32 ≤ b) × (b ≤ 127)) ((b ≡ 34 → ⊥) × (b ≡ 92 → ⊥)) (leb 32 b && leb b 127) (not (eqb b 34) && not (eqb b 92))
        (both (32 ≤ b) (b ≤ 127) (leb 32 b) (leb b 127) (at_most 32 b) (at_most b 127))
        (both (b ≡ 34 → ⊥) (b ≡ 92 → ⊥) (not (eqb b 34)) (not (eqb b 92)) (other b 34) (other b 92))

    go : (x : Bool) → Whether (((32 ≤ b) × (b ≤ 127)) × ((b ≡ 34 → ⊥) × (b ≡ 92 → ⊥))) x → Whether (PlainByte b) x
    go true h = record { low = h.0.0; high = h.0.1; no_quote = h.1.0; no_backslash = h.1.1 }
    go false f = λ p. f ((p.low, p.high), (p.no_quote, p.no_backslash))

-- ---- several

pub plain_none : (s : List ℕ) (at e : ℕ) → e ≡ at → at ≤ length s → PlainTo s at e
plain_none s at e q h = record { from = omega arith; within = omega arith; plain = λ k l m. absurd (omega arith) }

pub plain_join : (s : List ℕ) (at i e : ℕ) → PlainTo s at i → PlainTo s i e → PlainTo s at e
plain_join s at i e p q =
    record { from = omega (arith, p.from, q.from); within = q.within; plain = λ k l m. go k l m (lt_or_ge k i) }
  where
    go : (k : ℕ) → at ≤ k → k < e → (k < i) ⊎ (i ≤ k) → PlainByte (get_or s k 0)
    go k l m (inl h) = p.plain k l h
    go k l m (inr h) = q.plain k h m

pub plain_more : (s : List ℕ) (at i e : ℕ) → e ≡ i + 1 → PlainTo s at i → PlainByte (get_or s i 0) → PlainTo s at e
plain_more s at i e q p z =
    let h : i < length s = stands s i (get_or s i 0) refl (omega (arith, z.low)) in
    plain_join s at i e p (record { from = omega arith; within = omega arith; plain = λ k l m. go k (omega arith) })
  where
    go : (k : ℕ) → k ≡ i → PlainByte (get_or s k 0)
    go k d = rw d z

-- by the answer of a test
pub plain_next : (s : List ℕ) (at i b : ℕ) → PlainTo s at i → b ≡ get_or s i 0 → (x : Bool) → Whether (PlainByte b) x → x ≡ true → PlainTo s at (i + 1)
plain_next s at i b p e x w q = let y : PlainByte b = rw q at w in plain_more s at i (i + 1) refl p (rw e at y)

-- ---- a block

pub so : (P : Type 0) (x : Bool) → IfSo P x → x ≡ true → P
so P x h q = rw q at h

pub block_next : (s : List ℕ) (at k : ℕ) (x y z : Bool) → z ≡ (x && y) → IfSo (PlainTo s at (at + k)) x → Whether (PlainByte (get_or s (at + k) 0)) y
    → IfSo (PlainTo s at (at + (k + 1))) z
block_next s at k true true z e p w = rw e (plain_more s at (at + k) (at + (k + 1)) (omega arith) p w)
block_next s at k true false z e p w = rw e tt
block_next s at k false y z e p w = rw e tt

-- ---- in a string

plain_leads : (s : List ℕ) (at n j : ℕ) → j ≡ at + n → ((k : ℕ) → at ≤ k → k < j → PlainByte (get_or s k 0))
    → Leads (many char then byte 34) (many char then byte 34) s at j
plain_leads s at zero j e f = let d : j ≡ at = omega arith in rw d (leads_here (many char then byte 34) s at)
plain_leads s at (suc n) j e f =
    let d : j ≡ at + n + 1 = omega arith in
    let b = f (at + n) (omega arith) (omega arith) in
    let c : OnlyAt char s (at + n) (at + n + 1) = char_plain s (at + n) b.low b.high b.no_quote b.no_backslash in
    rw d (leads_trans _ _ _ s at (at + n) (at + n + 1) (plain_leads s at n (at + n) refl (λ k l h. f k l (omega arith)))
    (string_more s (at + n) (at + n + 1) b.no_quote c))

pub plain_string : (s : List ℕ) (at i e : ℕ) → Leads string (many char then byte 34) s at i → PlainTo s i e → Leads string (many char then byte 34) s at e
plain_string s at i e g p =
    let n : e ≡ i + (e - i) = omega (arith, p.from) in
    leads_trans _ _ _ s at i e g (plain_leads s i (e - i) e n p.plain)

-- a character and plain bytes passed over
pub string_step : (s : List ℕ) (at i e j : ℕ) → Leads string (many char then byte 34) s at i → (get_or s i 0 ≡ 34 → ⊥)
    → OnlyAt char s i e → PlainTo s e j → Leads string (many char then byte 34) s at j
string_step s at i e j g f h p = plain_string s at e j (leads_trans _ _ _ s at i e g (string_more s i e f h)) p
