-- The orders are total: a comparison with its laws, for numbers, bytes and revisions. Assumes nothing.
use mathlib.Core.Path.{◌≡◌, refl, sym, ap, ap₂, ◌∙◌, subst}
use Rattle.std.specs.declared.cmp.Ordering.TheVariants.{Less, Equal, Greater}
use Rattle.std.specs.declared.cmp.Ordering.{Ordering}
use mathlib.Core.Bool.{true, true≢false}
use mathlib.Core.List.{List, [], ◌∷◌}
use Prim.Native.Nat.compare
use Prim.Native.Nat.{ℕ, zero, suc, ◌<◌}
use native.Mathlib.Omega.{arith}
use Rattle.rules.specs.declared.Revision.{Revision}
use Rattle.rules.specs.Order.{from_ordering, order_n, and_then, order_bytes, order_rev, is_equal, same_rev}

pub less≢equal : Less ≡ Equal → ⊥
less≢equal e = let z : ◌≡◌ {A = ℕ} 0 1 = cc in omega arith

pub less≢greater : Less ≡ Greater → ⊥
less≢greater e = let z : ◌≡◌ {A = ℕ} 0 1 = cc in omega arith

pub equal≢greater : Equal ≡ Greater → ⊥
equal≢greater e = let z : ◌≡◌ {A = ℕ} 0 1 = cc in omega arith

-- a comparison that is a strict total order
pub record TotalOrder (K : Type 0) : Type 0 where
  pub cmp : K → K → Ordering
  pub same : (a b : K) → cmp a b ≡ Equal → a ≡ b
  pub self : (a : K) → cmp a a ≡ Equal
  pub trans : (a b c : K) → cmp a b ≡ Less → cmp b c ≡ Less → cmp a c ≡ Less
  pub turn : (a b : K) → cmp a b ≡ Greater → cmp b a ≡ Less

pub no_less_self : {K : Type 0} (O : TotalOrder K) (a : K) → O.cmp a a ≡ Less → ⊥
no_less_self O a e = less≢equal (sym e ∙ O.self a)

pub turn_less : {K : Type 0} (O : TotalOrder K) (a b : K) → O.cmp a b ≡ Less → O.cmp b a ≡ Greater
turn_less {K} O a b e = go (O.cmp b a) refl
  where
    go : (o : Ordering) → O.cmp b a ≡ o → o ≡ Greater
    go Less p = absurd (no_less_self O a (O.trans a b a e p))
    go Equal p = absurd (no_less_self O a (subst (λ (x : K). O.cmp a x ≡ Less) (O.same b a p) e))
    go Greater p = refl

-- ---- numbers
order_n_zz : order_n zero zero ≡ Equal
unfolding order_n
order_n_zz = ap from_ordering compare.zero-zero

order_n_zs : (n : ℕ) → order_n zero (suc n) ≡ Less
unfolding order_n
order_n_zs n = ap from_ordering (compare.zero-suc n)

order_n_sz : (n : ℕ) → order_n (suc n) zero ≡ Greater
unfolding order_n
order_n_sz n = ap from_ordering (compare.suc-zero n)

order_n_ss : (m n : ℕ) → order_n (suc m) (suc n) ≡ order_n m n
unfolding order_n
order_n_ss m n = ap from_ordering (compare.suc-suc m n)

pub order_n_same : (a b : ℕ) → order_n a b ≡ Equal → a ≡ b
order_n_same zero zero e = refl
order_n_same zero (suc b) e = absurd (less≢equal (sym (order_n_zs b) ∙ e))
order_n_same (suc a) zero e = absurd (equal≢greater (sym e ∙ order_n_sz a))
order_n_same (suc a) (suc b) e = ap suc (order_n_same a b (sym (order_n_ss a b) ∙ e))

pub order_n_self : (a : ℕ) → order_n a a ≡ Equal
order_n_self zero = order_n_zz
order_n_self (suc a) = order_n_ss a a ∙ order_n_self a

pub order_n_less : (a b : ℕ) → order_n a b ≡ Less → a < b
order_n_less zero zero e = absurd (less≢equal (sym e ∙ order_n_zz))
order_n_less zero (suc b) e = omega arith
order_n_less (suc a) zero e = absurd (less≢greater (sym e ∙ order_n_sz a))
order_n_less (suc a) (suc b) e = let h = order_n_less a b (sym (order_n_ss a b) ∙ e) in omega arith

pub less_order_n : (a b : ℕ) → a < b → order_n a b ≡ Less
less_order_n zero zero h = absurd (omega arith)
less_order_n zero (suc b) h = order_n_zs b
less_order_n (suc a) zero h = absurd (omega arith)
less_order_n (suc a) (suc b) h = order_n_ss a b ∙ less_order_n a b (omega arith)

pub order_n_turn : (a b : ℕ) → order_n a b ≡ Greater → order_n b a ≡ Less
order_n_turn zero zero e = absurd (equal≢greater (sym order_n_zz ∙ e))
order_n_turn zero (suc b) e = absurd (less≢greater (sym (order_n_zs b) ∙ e))
order_n_turn (suc a) zero e = order_n_zs a
order_n_turn (suc a) (suc b) e = order_n_ss b a ∙ order_n_turn a b (sym (order_n_ss a b) ∙ e)

-- ---- lists of numbers
-- how a lexicographic answer comes about
data Lex (o r : Ordering) : Type 0 where
  first : o ≡ Less → Lex o r
  rest : o ≡ Equal → r ≡ Less → Lex o r

lex_lt : (o r : Ordering) → and_then o r ≡ Less → Lex o r
lex_lt Less r e = first refl
lex_lt Equal r e = rest refl e
lex_lt Greater r e = absurd (less≢greater (sym e))

data LexEq (o r : Ordering) : Type 0 where
  both : o ≡ Equal → r ≡ Equal → LexEq o r

lex_eq : (o r : Ordering) → and_then o r ≡ Equal → LexEq o r
lex_eq Less r e = absurd (less≢equal e)
lex_eq Equal r e = both refl e
lex_eq Greater r e = absurd (equal≢greater (sym e))

then_lt : (o r : Ordering) → o ≡ Less → and_then o r ≡ Less
then_lt o r e = rw e refl

then_eq : (o r : Ordering) → o ≡ Equal → and_then o r ≡ r
then_eq o r e = rw e refl

both_cons : (a b : ℕ) (xs ys : List ℕ) → LexEq (order_n a b) (order_bytes xs ys) → (order_bytes xs ys ≡ Equal → xs ≡ ys) → ◌≡◌ {A = List ℕ} (a ∷ xs) (b ∷ ys)
both_cons a b xs ys (both p q) f = ap₂ ◌∷◌ (order_n_same a b p) (f q)

pub order_bytes_same : (a b : List ℕ) → order_bytes a b ≡ Equal → a ≡ b
unfolding order_bytes
order_bytes_same [] [] e = refl
order_bytes_same [] (b ∷ ys) e = absurd (less≢equal e)
order_bytes_same (a ∷ xs) [] e = absurd (equal≢greater (sym e))
order_bytes_same (a ∷ xs) (b ∷ ys) e = both_cons a b xs ys (lex_eq (order_n a b) (order_bytes xs ys) e) (λ q. order_bytes_same xs ys q)

pub order_bytes_self : (a : List ℕ) → order_bytes a a ≡ Equal
unfolding order_bytes
order_bytes_self [] = refl
order_bytes_self (a ∷ xs) = then_eq (order_n a a) (order_bytes xs xs) (order_n_self a) ∙ order_bytes_self xs

trans_cons : (a b c : ℕ) (x y z : Ordering) → Lex (order_n a b) x → Lex (order_n b c) y → (x ≡ Less → y ≡ Less → z ≡ Less) → and_then (order_n a c) z ≡ Less
trans_cons a b c x y z (first p) (first q) f =
    let h = order_n_less a b p in let k = order_n_less b c q in then_lt (order_n a c) z (less_order_n a c (omega arith))
trans_cons a b c x y z (first p) (rest q r) f =
    let h = order_n_less a b p in let k = order_n_same b c q in then_lt (order_n a c) z (less_order_n a c (omega arith))
trans_cons a b c x y z (rest p r) (first q) f =
    let h = order_n_same a b p in let k = order_n_less b c q in then_lt (order_n a c) z (less_order_n a c (omega arith))
trans_cons a b c x y z (rest p r) (rest q t) f =
    let h : a ≡ c = order_n_same a b p ∙ order_n_same b c q in
    then_eq (order_n a c) z (subst (λ (n : ℕ). order_n a n ≡ Equal) h (order_n_self a)) ∙ f r t

pub order_bytes_trans : (a b c : List ℕ) → order_bytes a b ≡ Less → order_bytes b c ≡ Less → order_bytes a c ≡ Less
unfolding order_bytes
order_bytes_trans [] [] c p q = absurd (less≢equal (sym p))
order_bytes_trans [] (b ∷ ys) [] p q = absurd (less≢greater (sym q))
order_bytes_trans [] (b ∷ ys) (c ∷ zs) p q = refl
order_bytes_trans (a ∷ xs) [] c p q = absurd (less≢greater (sym p))
order_bytes_trans (a ∷ xs) (b ∷ ys) [] p q = absurd (less≢greater (sym q))
order_bytes_trans (a ∷ xs) (b ∷ ys) (c ∷ zs) p q =
    trans_cons a b c (order_bytes xs ys) (order_bytes ys zs) (order_bytes xs zs) (lex_lt (order_n a b) (order_bytes xs ys) p) (lex_lt (order_n b c) (order_bytes ys zs) q)
    (λ r t. order_bytes_trans xs ys zs r t)

turn_cons : (a b : ℕ) (x y o : Ordering) → order_n a b ≡ o → (x ≡ Greater → y ≡ Less) → and_then o x ≡ Greater → and_then (order_n b a) y ≡ Less
turn_cons a b x y Less e f p = absurd (less≢greater p)
turn_cons a b x y Equal e f p = then_eq (order_n b a) y (subst (λ (n : ℕ). order_n n a ≡ Equal) (order_n_same a b e) (order_n_self a)) ∙ f p
turn_cons a b x y Greater e f p = then_lt (order_n b a) y (order_n_turn a b e)

pub order_bytes_turn : (a b : List ℕ) → order_bytes a b ≡ Greater → order_bytes b a ≡ Less
unfolding order_bytes
order_bytes_turn [] [] e = absurd (equal≢greater e)
order_bytes_turn [] (b ∷ ys) e = absurd (less≢greater e)
order_bytes_turn (a ∷ xs) [] e = refl
order_bytes_turn (a ∷ xs) (b ∷ ys) e = turn_cons a b (order_bytes xs ys) (order_bytes ys xs) (order_n a b) refl (λ p. order_bytes_turn xs ys p) e

-- ids go byte by byte
abbrev pub bytes_order : TotalOrder (List ℕ)
bytes_order = record {
  cmp = order_bytes;
  same = order_bytes_same;
  self = order_bytes_self;
  trans = order_bytes_trans;
  turn = order_bytes_turn;
}

-- a revision compares as the list of its number and its hash's bytes
pub rev_as_bytes : (a b : Revision) → order_rev a b ≡ order_bytes (a.number.0 ∷ a.hash) (b.number.0 ∷ b.hash)
unfolding order_rev order_bytes
rev_as_bytes a b = refl

pub rev_path : (a b : Revision) → a.number.0 ≡ b.number.0 → a.hash ≡ b.hash → a ≡ b
rev_path a b p q = λ i. record { number = record { 0 = p i }; hash = q i }

pub order_rev_same : (a b : Revision) → order_rev a b ≡ Equal → a ≡ b
unfolding order_rev
order_rev_same a b e = go (lex_eq (order_n a.number.0 b.number.0) (order_bytes a.hash b.hash) e)
  where
    go : LexEq (order_n a.number.0 b.number.0) (order_bytes a.hash b.hash) → a ≡ b
    go (both p q) = rev_path a b (order_n_same _ _ p) (order_bytes_same _ _ q)

-- "its order proved total": revisions by number, then hash
abbrev pub rev_order : TotalOrder Revision
rev_order = record {
  cmp = order_rev;
  same = order_rev_same;
  self = λ a. rev_as_bytes a a ∙ order_bytes_self (a.number.0 ∷ a.hash);
  trans = λ a b c p q. rev_as_bytes a c ∙ order_bytes_trans (a.number.0 ∷ a.hash) (b.number.0 ∷ b.hash) (c.number.0 ∷ c.hash) (sym (rev_as_bytes a b) ∙ p) (sym (rev_as_bytes b c) ∙ q);
  turn = λ a b e. rev_as_bytes b a ∙ order_bytes_turn (a.number.0 ∷ a.hash) (b.number.0 ∷ b.hash) (sym (rev_as_bytes a b) ∙ e);
}

-- ---- the test for the same revision

is_equal_lem : (o : Ordering) → is_equal o ≡ true → o ≡ Equal
is_equal_lem Less e = absurd (true≢false (sym e))
is_equal_lem Equal e = refl
is_equal_lem Greater e = absurd (true≢false (sym e))

pub same_equal : {K : Type 0} (O : TotalOrder K) (a b : K) → a ≡ b → is_equal (O.cmp a b) ≡ true
same_equal {K} O a b e = rw (subst (λ (z : K). O.cmp a z ≡ Equal) e (O.self a)) refl

pub same_rev_true : (a b : Revision) → same_rev a b ≡ true → a ≡ b
unfolding same_rev
same_rev_true a b e = order_rev_same a b (is_equal_lem (order_rev a b) e)

pub true_same_rev : (a b : Revision) → a ≡ b → same_rev a b ≡ true
unfolding same_rev
true_same_rev a b e = same_equal rev_order a b e
