-- Laws of decimal numbers and hex, and of one text written after another. Assumes nothing.
use Rattle.std.proofs.Common.{◌≡◌, refl, sym, ap, ◌∙◌, subst, Bool, true, false, List, [], ◌∷◌, ◌++◌, append_assoc, ◌⊎◌, inl, inr, ℕ, zero, suc, ◌+◌, ◌*◌, ◌/◌, ◌%◌, ◌^◌, ◌≤◌, ◌<◌, pow-suc, Option, Some, None, IfSome, IfNone, unwrap_or, arith, add-one, eqb, ltb, length, take, get_or, set, length-append, length-take, take-suc, ne_eqb, eqb-true, ltb-true, ltb-false}
use Rattle.rules.specs.declared.Revision.{Revision}
use Rattle.rules.specs.Choice.{pick}
use Rattle.rules.specs.Report.{digits, trim, decimal, hex_digit, hex, text, dash, rev_text}
use Rattle.octets.specs.Splice.{splice}
use Rattle.octets.proofs.SpliceLaws.{splice_behind, splice_none, length-splice, chain}
use Rattle.text.specs.Text.{decimal_most, Put}

-- what a u64 holds
abbrev Fits : ℕ → Type 0
Fits v = v < 18446744073709551616

-- one more than the greatest number of n digits
tens : ℕ → ℕ
tens zero = 1
tens (suc n) = 10 * tens n

-- a number of at most n decimal digits
Below : ℕ → ℕ → Type 0
Below zero v = v ≡ 0
Below (suc n) v = Below n (v / 10)

below_tens : (n v : ℕ) → v < tens n → Below n v
unfolding Below tens
below_tens zero v h = omega arith
below_tens (suc n) v h = below_tens n (v / 10) (omega arith)

-- one digit more is a zero in front
digits_pad : (n v : ℕ) → Below n v → digits (suc n) v ≡ 48 ∷ digits n v
unfolding digits Below
digits_pad zero v b = rw b refl
digits_pad (suc n) v b = ap (λ (l : List ℕ). l ++ ((48 + v % 10) ∷ [])) (digits_pad n (v / 10) b)

-- some digit is not zero
NonZero : List ℕ → Type 0
NonZero [] = ⊥
NonZero (c ∷ cs) = (c ≡ 48 → ⊥) ⊎ NonZero cs

nonzero_left : (a b : List ℕ) → NonZero a → NonZero (a ++ b)
unfolding NonZero
nonzero_left [] b h = absurd h
nonzero_left (c ∷ cs) b (inl h) = inl h
nonzero_left (c ∷ cs) b (inr h) = inr (nonzero_left cs b h)

nonzero_right : (a b : List ℕ) → NonZero b → NonZero (a ++ b)
unfolding NonZero
nonzero_right [] b h = h
nonzero_right (c ∷ cs) b h = inr (nonzero_right cs b h)

digits_nonzero : (n v : ℕ) → 0 < v → Below n v → NonZero (digits n v)
unfolding digits Below NonZero
digits_nonzero zero v h b = absurd (omega arith)
digits_nonzero (suc n) v h b = go (v / 10) refl (λ k. digits_nonzero n (v / 10) k b)
  where
    go : (u : ℕ) → v / 10 ≡ u → (0 < v / 10 → NonZero (digits n (v / 10))) → NonZero (digits n (v / 10) ++ ((48 + v % 10) ∷ []))
    go zero e f = nonzero_right (digits n (v / 10)) ((48 + v % 10) ∷ []) (inl (λ z. omega arith))
    go (suc u) e f = nonzero_left (digits n (v / 10)) ((48 + v % 10) ∷ []) (f (omega arith))

trim_more : (xs : List ℕ) (c : ℕ) → NonZero xs → trim (xs ++ (c ∷ [])) ≡ trim xs ++ (c ∷ [])
unfolding trim NonZero
trim_more [] c h = absurd h
trim_more (x ∷ []) c (inl h) = rw (ne_eqb x 48 h) refl
trim_more (x ∷ []) c (inr h) = absurd h
trim_more (x ∷ y ∷ ys) c h = go (eqb x 48) refl (λ z. trim_more (y ∷ ys) c z) h
  where
    go : (b : Bool) → eqb x 48 ≡ b → (NonZero (y ∷ ys) → trim ((y ∷ ys) ++ (c ∷ [])) ≡ trim (y ∷ ys) ++ (c ∷ []))
        → NonZero (x ∷ y ∷ ys) → trim ((x ∷ y ∷ ys) ++ (c ∷ [])) ≡ trim (x ∷ y ∷ ys) ++ (c ∷ [])
    go true e ih (inl z) = absurd (z (eqb-true x 48 e))
    go true e ih (inr z) = rw e (ih z)
    go false e ih z = rw e refl

length_digits : (n v : ℕ) → length (digits n v) ≡ n
unfolding digits
length_digits zero v = refl
length_digits (suc n) v = rw (length-append (digits n (v / 10)) ((48 + v % 10) ∷ []), length_digits n (v / 10)) (omega arith)

length-trim : (cs : List ℕ) → length (trim cs) ≤ length cs
unfolding trim
length-trim [] = omega arith
length-trim (c ∷ []) = omega arith
length-trim (c ∷ e ∷ cs) = go (eqb c 48) (length-trim (e ∷ cs))
  where
    go : (b : Bool) → length (trim (e ∷ cs)) ≤ length (e ∷ cs) → length (pick b (trim (e ∷ cs)) (c ∷ e ∷ cs)) ≤ length (c ∷ e ∷ cs)
    go true h = omega arith
    go false h = omega arith

pub decimal_longest : (v : ℕ) → length (decimal v) ≤ 20
unfolding decimal
decimal_longest v = omega (arith, length-trim (digits 20 v), length_digits 20 v)

-- a number below ten is its digit
pub decimal_digit : (v : ℕ) → v < 10 → decimal v ≡ (48 + v) ∷ []
unfolding decimal digits trim
decimal_digit v h = let e : v / 10 ≡ 0 = omega arith in let m : v % 10 ≡ v = omega arith in rw (e, m) refl

-- any other is the decimal of a tenth of it, and then its last digit
pub decimal_more : (v : ℕ) → 10 ≤ v → Fits v → decimal v ≡ decimal (v / 10) ++ ((48 + v % 10) ∷ [])
unfolding decimal digits trim
decimal_more v h k =
    trim_more (digits 19 (v / 10)) (48 + v % 10) (digits_nonzero 19 (v / 10) (omega arith) below)
    ∙ ap (λ (l : List ℕ). l ++ ((48 + v % 10) ∷ [])) (ap trim (sym (digits_pad 19 (v / 10) below)))
  where
    below : Below 19 (v / 10)
    below = below_tens 19 (v / 10) (unfold tens in omega arith)

hex_more : (bs : List ℕ) (b : ℕ) → hex (bs ++ (b ∷ [])) ≡ hex bs ++ (hex_digit (b / 16) ∷ hex_digit (b % 16) ∷ [])
unfolding hex
hex_more [] b = refl
hex_more (c ∷ bs) b = ap (λ (l : List ℕ). hex_digit (c / 16) ∷ hex_digit (c % 16) ∷ l) (hex_more bs b)

-- the hex of one byte more
pub hex_take : (bs : List ℕ) (i : ℕ) → i < length bs
    → hex (take (i + 1) bs) ≡ (hex (take i bs) ++ (hex_digit (get_or bs i 0 / 16) ∷ [])) ++ (hex_digit (get_or bs i 0 % 16) ∷ [])
hex_take bs i h = rw (add-one, take-suc bs i 0) (hex_more (take i bs) (get_or bs i 0) ∙ sym (append_assoc (hex (take i bs)) _ _))

pub length-hex : (bs : List ℕ) → length (hex bs) ≡ 2 * length bs
unfolding hex
length-hex [] = refl
length-hex (b ∷ bs) = let e = length-hex bs in omega arith

length_hex_take : (bs : List ℕ) (i : ℕ) → i ≤ length bs → length (hex (take i bs)) ≡ 2 * i
length_hex_take bs i h = length-hex (take i bs) ∙ simp length-take (omega arith)

-- one turn of the loop that writes hex
pub hex_step : (s₀ bs : List ℕ) (at i : ℕ) {s : List ℕ} {next x y : ℕ} → i < length bs → next ≡ at + 2 * i → at + 2 * length bs ≤ length s₀
    → s ≡ splice s₀ at (hex (take i bs)) → x ≡ hex_digit (get_or bs i 0 / 16) → y ≡ hex_digit (get_or bs i 0 % 16)
    → set (set s next x) (next + 1) y ≡ splice s₀ at (hex (take (i + 1) bs))
hex_step s₀ bs at i {s} {next} {x} {y} h n f e p q =
    let l = length_hex_take bs i (omega arith) in
    let m : length (hex (take i bs) ++ (x ∷ [])) ≡ 2 * i + 1 = simp length-append (omega arith) in
    let first = splice_behind s₀ at next x (hex (take i bs)) (omega arith) (omega arith) in
    let second = splice_behind s₀ at (next + 1) y (hex (take i bs) ++ (x ∷ [])) (omega arith) (omega arith) in
    rw (e, first, second, p, q)
    (ap (splice s₀ at) (sym (hex_take bs i h)))

-- ---- the digits as they are written

pub length-digit : (v : ℕ) → v < 10 → length (decimal v) ≡ 1
length-digit v h = rw (decimal_digit v h) refl

pub length_more : (v : ℕ) → 10 ≤ v → Fits v → length (decimal v) ≡ length (decimal (v / 10)) + 1
length_more v h k = rw (decimal_more v h k) (simp length-append (omega arith))

digits_most : (n v : ℕ) → v < 10 * tens n → Fits v → length (decimal v) ≤ suc n
unfolding tens
digits_most zero v h k = omega (arith, length-digit v (omega arith))
digits_most (suc n) v h k = go (ltb v 10) refl (digits_most n (v / 10) (omega arith) (omega arith))
  where
    go : (b : Bool) → ltb v 10 ≡ b → length (decimal (v / 10)) ≤ suc n → length (decimal v) ≤ suc (suc n)
    go true e ih = omega (arith, length-digit v (ltb-true v 10 e))
    go false e ih = omega (arith, length_more v (ltb-false v 10 e) k)

-- a number of 32 bits has at most ten digits
pub decimal_most_lem : (v : ℕ) → v < 4294967296 → length (decimal v) ≤ decimal_most
unfolding tens
decimal_most_lem v h = digits_most 9 v (omega arith) (omega arith)

decimal_log : (k v : ℕ) → 10 ^ k ≤ v → v < 10 * 10 ^ k → Fits v → length (decimal v) ≡ k + 1
decimal_log zero v h m f = length-digit v (omega arith)
decimal_log (suc k) v h m f =
    let e = pow-suc 10 k in
    let p : 0 < 10 ^ k = pow-pos k in
    let l = length_more v (omega arith) f in
    let r = decimal_log k (v / 10) (omega arith) (omega arith) (omega arith) in
    omega arith
  where
    pow-pos : (n : ℕ) → 0 < 10 ^ n
    pow-pos zero = omega arith
    pow-pos (suc n) = let q = pow-pos n in let e = pow-suc 10 n in omega arith

-- how many digits a number has, by its logarithm
pub length_log : (r : Option ℕ) {v : ℕ} → IfNone r (v ≡ 0) → IfSome r (λ k. 10 ^ k ≤ v) → IfSome r (λ k. v < 10 * 10 ^ k) → Fits v
    → unwrap_or r 0 + 1 ≡ length (decimal v)
length_log None {v} z h m f = sym (length-digit v (omega arith))
length_log (Some k) {v} z h m f = sym (decimal_log k v h m f)

pub put_digit : {s : List ℕ} {at v : ℕ} → v < 10 → at < length s → Put (decimal v) s at (at + 1) (set s at (48 + v))
put_digit {s} {at} {v} h k = record {
  is =
      ap (λ (l : List ℕ). set l at (48 + v)) (sym (splice_none s at))
      ∙ (splice_behind s at at (48 + v) [] (omega arith) k ∙ ap (splice s at) (sym (decimal_digit v h)));
  ends = rw (decimal_digit v h) refl;
}

module _ {s s' : List ℕ} {at n v : ℕ} (h : 10 ≤ v) (k : Fits v) (f : at + length (decimal v) ≤ length s) (p : Put (decimal (v / 10)) s at n s') where
  pub put_last : Put (decimal v) s at (n + 1) (set s' n (48 + v % 10))
  put_last =
      let l = length_more v h k in
      let e = p.ends in
      record {
        is =
            ap (λ (u : List ℕ). set u n (48 + v % 10)) p.is
            ∙ (splice_behind s at n (48 + v % 10) (decimal (v / 10)) e (omega arith) ∙ ap (splice s at) (sym (decimal_more v h k)));
        ends = omega arith;
      }

  pub in_last : n < length s'
  in_last =
      let l = length_more v h k in
      let e = p.ends in
      let m : length s' ≡ length s = ap length p.is ∙ length-splice s at (decimal (v / 10)) (omega arith) in
      omega arith

-- ---- one text written after another

pub put_then : {a b s t u : List ℕ} {at m n : ℕ} → Put a s at m t → Put b t m n u → n ≤ length s → Put (a ++ b) s at n u
put_then {a} {b} {s} {t} {u} {at} {m} {n} p q h =
    let e = p.ends in
    let f = q.ends in
    record {
      is = q.is ∙ (ap (λ (l : List ℕ). splice l m b) p.is ∙ chain s a b at m (sym e) (omega arith));
      ends = omega (arith, length-append a b);
    }

pub put_as : {a b s t : List ℕ} {at n : ℕ} → a ≡ b → Put a s at n t → Put b s at n t
put_as {a} {b} {s} {t} {at} {n} e p = subst (λ (l : List ℕ). Put l s at n t) e p

pub rev_joined : (v : Revision) → (decimal v.number.0 ++ text dash) ++ hex v.hash ≡ rev_text v
unfolding rev_text
rev_joined v = append_assoc (decimal v.number.0) (text dash) (hex v.hash)
