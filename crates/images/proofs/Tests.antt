-- Laws of tests: what an "or" or an "and" that fails says of its parts. Assumes nothing.
use mathlib.Core.Path.{◌≡◌, refl, sym, ap₂}
use mathlib.Core.Bool.{Bool, true, false, ◌&&◌, ◌||◌}
use mathlib.Core.List.{List, [], ◌∷◌}
use Prim.Native.Nat.{ℕ, zero, suc}
use native.Mathlib.Omega.{arith}
use lib.Dec.{eqb}
use lib.ListN.{length, replicate}
use borrow.Author.Tests.{eqb-true}
use Rattle.rules.specs.Bytes.{all_zero}
use Rattle.images.proofs.Lists.{Each}

pub true≢false : true ≡ false → ⊥
true≢false e = let z : ◌≡◌ {A = ℕ} 0 1 = cc in omega arith

pub or_none : (a b : Bool) → a ≡ false → b ≡ false → (a || b) ≡ false
or_none a b p q = rw p q

pub or_left : (a b : Bool) → (a || b) ≡ false → a ≡ false
or_left true b e = e
or_left false b e = refl

pub or_right : (a b : Bool) → (a || b) ≡ false → b ≡ false
or_right true b e = absurd (true≢false e)
or_right false b e = e

-- five and seven tests of which none holds
abbrev pub None5 : Bool → Bool → Bool → Bool → Bool → Type 0
None5 a b c d e = (a ≡ false) × (b ≡ false) × (c ≡ false) × (d ≡ false) × (e ≡ false)

pub none5 : (a b c d e : Bool) → (a || (b || (c || (d || e)))) ≡ false → None5 a b c d e
none5 a b c d e p =
    let q = or_right a (b || (c || (d || e))) p in
    let r = or_right b (c || (d || e)) q in
    let s = or_right c (d || e) r in
    (or_left a (b || (c || (d || e))) p, or_left b (c || (d || e)) q, or_left c (d || e) r, or_left d e s, or_right d e s)

pub all5 : (a b c d e : Bool) → None5 a b c d e → (a || (b || (c || (d || e)))) ≡ false
all5 a b c d e n =
    or_none a (b || (c || (d || e))) n.0
    (or_none b (c || (d || e)) n.1 (or_none c (d || e) n.2 (or_none d e n.3 n.4)))

abbrev pub None7 : Bool → Bool → Bool → Bool → Bool → Bool → Bool → Type 0
None7 a b c d e f g =
    (a ≡ false) × (b ≡ false) × (c ≡ false) × (d ≡ false) × (e ≡ false) × (f ≡ false) × (g ≡ false)

pub none7 : (a b c d e f g : Bool) → (a || (b || (c || (d || (e || (f || g)))))) ≡ false → None7 a b c d e f g
none7 a b c d e f g p =
    let m : Bool = c || (d || (e || (f || g))) in
    let q = or_right a (b || m) p in
    let n = none5 c d e f g (or_right b m q) in
    (or_left a (b || m) p, or_left b m q, n.0, n.1, n.2, n.3, n.4)

pub all7 : (a b c d e f g : Bool) → None7 a b c d e f g → (a || (b || (c || (d || (e || (f || g)))))) ≡ false
all7 a b c d e f g n =
    let m : Bool = c || (d || (e || (f || g))) in
    or_none a (b || m) n.0 (or_none b m n.1 (all5 c d e f g (n.2, n.3, n.4, n.5, n.6)))

pub both_none : (a b : Bool) → (a ≡ true → b ≡ false) → (a && b) ≡ false
both_none true b f = f refl
both_none false b f = refl

pub and_none : (a b : Bool) → (a && b) ≡ false → a ≡ true → b ≡ false
and_none true b e p = e
and_none false b e p = absurd (true≢false (sym p))

pub and_left : (a b : Bool) → (a && b) ≡ true → a ≡ true
and_left true b e = refl
and_left false b e = e

pub and_right : (a b : Bool) → (a && b) ≡ true → b ≡ true
and_right true b e = e
and_right false b e = absurd (true≢false (sym e))

-- none of the tests holds
abbrev pub AllFalse : List Bool → Type 0
AllFalse bs = Each (λ b. b ≡ false) bs

-- ---- zeros

pub zeros : (l : List ℕ) → all_zero l ≡ true → l ≡ replicate (length l) 0
unfolding all_zero
zeros [] e = refl
zeros (x ∷ l) e = ap₂ {C = List ℕ} (λ a b. a ∷ b) (eqb-true x 0 (and_left (eqb x 0) (all_zero l) e)) (zeros l (and_right (eqb x 0) (all_zero l) e))

pub all_zeros : (n : ℕ) → all_zero (replicate n 0) ≡ true
unfolding all_zero
all_zeros zero = refl
all_zeros (suc n) = all_zeros n
