-- What is put out as text is read back: numbers, hashes and revisions; and what a read number or hash is. Assumes nothing.
use mathlib.Core.Path.{◌≡◌, refl, sym, ap, ◌∙◌}
use mathlib.Core.Bool.{Bool, true, false, not, ◌&&◌, ◌||◌, true≢false}
use mathlib.Core.List.{List, [], ◌∷◌, ◌++◌}
use mathlib.Core.Logic.{◌⊎◌, inl, inr}
use Rattle.std.specs.Prelude.{None, Some}
use Prim.Native.Nat.{ℕ, zero, suc, ◌+◌, ◌*◌, ◌-◌, ◌/◌, ◌%◌, ◌^◌, ◌≤◌, ◌<◌}
use native.Mathlib.Nat.{pow-suc}
use native.Mathlib.Omega.{arith}
use lib.Dec.{eqb, leb, ltb}
use lib.ListN.{length, get_or}
use borrow.Author.Tests.{eq-eqb, ne_eqb, eqb-true, le-leb, lt-leb, leb-true, ltb-true, ltb-false}
use Rattle.rules.specs.declared.Revision.{Revision}
use Rattle.rules.specs.Bytes.{Bytes}
use Rattle.rules.specs.Choice.{pick}
use Rattle.rules.specs.Replica.{Hash}
use Rattle.rules.specs.Report.{digits, trim, decimal, hex_digit, hex, text, rev_text}
use Rattle.rules.specs.Room.{hash_size, number_most}
use Rattle.rules.proofs.MapLaws.{none≢some, some_inj}
use Rattle.lines.specs.Said.{all, is_digit, decimal_from, decimal_value, is_empty, spare_zero, read_number, is_hex_digit, hex_digit_value, hex_value, read_hash, dash_byte, before_dash, after_dash, read_rev}

-- ---- tests

pub and_left : (a b : Bool) → (a && b) ≡ true → a ≡ true
and_left true b e = refl
and_left false b e = e

pub and_right : (a b : Bool) → (a && b) ≡ true → b ≡ true
and_right true b e = e
and_right false b e = absurd (true≢false (sym e))

module _ {A : Type 0} (p : A → Bool) where
  pub all_append : (a b : List A) → all p a ≡ true → all p b ≡ true → all p (a ++ b) ≡ true
  unfolding all
  all_append [] b e f = f
  all_append (x ∷ a) b e f = rw (and_left (p x) (all p a) e) (all_append a b (and_right (p x) (all p a) e) f)

  pub all_at : (l : List A) (i : ℕ) (d : A) → all p l ≡ true → i < length l → p (get_or l i d) ≡ true
  unfolding all
  all_at [] i d e h = absurd (omega arith)
  all_at (x ∷ l) zero d e h = and_left (p x) (all p l) e
  all_at (x ∷ l) (suc i) d e h = all_at l i d (and_right (p x) (all p l) e) (omega arith)

-- ---- what was read

some_pick : {A : Type 0} (b : Bool) {x y : A} → pick b (Some x) None ≡ Some y → (b ≡ true) × (x ≡ y)
some_pick true e = (refl, some_inj e)
some_pick false e = absurd (none≢some e)

-- a number that was read is within its field
pub number_most_lem : (most : ℕ) (t : List ℕ) {n : ℕ} → read_number most t ≡ Some n → n ≤ most
unfolding read_number
number_most_lem most t {n} e =
    let p = some_pick (not (is_empty t) && (all is_digit t && (not (spare_zero t) && leb (decimal_value t) most))) e in
    let q = and_right (not (is_empty t)) (all is_digit t && (not (spare_zero t) && leb (decimal_value t) most)) p.0 in
    let r = and_right (all is_digit t) (not (spare_zero t) && leb (decimal_value t) most) q in
    let b = leb-true (decimal_value t) most (and_right (not (spare_zero t)) (leb (decimal_value t) most) r) in
    let m = p.1 in
    omega arith

-- a hash that was read is 32 hex digits
pub hash_is : (t : List ℕ) {h : Hash} → read_hash t ≡ Some h → (length t ≡ hash_size + hash_size) × ((all is_hex_digit t ≡ true) × (hex_value t ≡ h))
unfolding read_hash
hash_is t e =
    let p = some_pick (eqb (length t) (hash_size + hash_size) && all is_hex_digit t) e in
    let a = and_left (eqb (length t) (hash_size + hash_size)) (all is_hex_digit t) p.0 in
    let b = and_right (eqb (length t) (hash_size + hash_size)) (all is_hex_digit t) p.0 in
    (eqb-true (length t) (hash_size + hash_size) a, (b, p.1))

pub length-hex_value : (n : ℕ) (t : List ℕ) → length t ≡ n + n → length (hex_value t) ≡ n
unfolding hex_value
length-hex_value n [] e = omega arith
length-hex_value n (c ∷ []) e = absurd (omega arith)
length-hex_value zero (c ∷ d ∷ t) e = absurd (omega arith)
length-hex_value (suc n) (c ∷ d ∷ t) e = ap suc (length-hex_value n t (omega arith))

pub hash_size_lem : (t : List ℕ) {h : Hash} → read_hash t ≡ Some h → length h ≡ hash_size
hash_size_lem t e = let p = hash_is t e in ap length (sym p.1.1) ∙ length-hex_value hash_size t p.0

-- the value of a hex digit is below 16
pub hex_digit_range : (c : ℕ) → is_hex_digit c ≡ true → ((48 ≤ c) × (c ≤ 57)) ⊎ ((97 ≤ c) × (c ≤ 102))
unfolding is_hex_digit is_digit
hex_digit_range c e = go (leb 48 c && leb c 57) refl
  where
    go : (b : Bool) → (leb 48 c && leb c 57) ≡ b → ((48 ≤ c) × (c ≤ 57)) ⊎ ((97 ≤ c) × (c ≤ 102))
    go true q = inl (leb-true 48 c (and_left (leb 48 c) (leb c 57) q), leb-true c 57 (and_right (leb 48 c) (leb c 57) q))
    go false q =
        let f = rw q at e in
        inr (leb-true 97 c (and_left (leb 97 c) (leb c 102) f), leb-true c 102 (and_right (leb 97 c) (leb c 102) f))

pub low_value : (c : ℕ) → c ≤ 57 → hex_digit_value c ≡ c - 48
unfolding hex_digit_value
low_value c h = rw (le-leb c 57 h) refl

pub high_value : (c : ℕ) → 57 < c → hex_digit_value c ≡ c - 87
unfolding hex_digit_value
high_value c h = rw (lt-leb c 57 h) refl

pub hex_value_small : (c : ℕ) → is_hex_digit c ≡ true → hex_digit_value c < 16
hex_value_small c e = go (hex_digit_range c e)
  where
    go : ((48 ≤ c) × (c ≤ 57)) ⊎ ((97 ≤ c) × (c ≤ 102)) → hex_digit_value c < 16
    go (inl p) = let v = low_value c p.1 in let q = p.0 in let r = p.1 in omega arith
    go (inr p) = let q = p.0 in let r = p.1 in let v = high_value c (omega arith) in omega arith

bytes_hex_value : (t : List ℕ) → all is_hex_digit t ≡ true → Bytes (hex_value t)
unfolding hex_value all
bytes_hex_value [] e = tt
bytes_hex_value (c ∷ []) e = tt
bytes_hex_value (c ∷ d ∷ t) e =
    let a = hex_value_small c (and_left (is_hex_digit c) (is_hex_digit d && all is_hex_digit t) e) in
    let m = and_right (is_hex_digit c) (is_hex_digit d && all is_hex_digit t) e in
    let b = hex_value_small d (and_left (is_hex_digit d) (all is_hex_digit t) m) in
    (omega arith, bytes_hex_value t (and_right (is_hex_digit d) (all is_hex_digit t) m))

pub hash_bytes : (t : List ℕ) {h : Hash} → read_hash t ≡ Some h → Bytes h
hash_bytes t e = let p = hash_is t e in rw (sym p.1.1) (bytes_hex_value t p.1.0)

-- ---- decimal numbers read back

digit_is : (d : ℕ) → d < 10 → is_digit (48 + d) ≡ true
unfolding is_digit
digit_is d h = rw (le-leb 48 (48 + d) (omega arith), le-leb (48 + d) 57 (omega arith)) refl

all_digits : (n v : ℕ) → all is_digit (digits n v) ≡ true
unfolding digits all
all_digits zero v = refl
all_digits (suc n) v =
    all_append is_digit (digits n (v / 10)) ((48 + v % 10) ∷ []) (all_digits n (v / 10)) (rw (digit_is (v % 10) (omega arith)) refl)

from_append : (u : ℕ) (a b : List ℕ) → decimal_from u (a ++ b) ≡ decimal_from (decimal_from u a) b
unfolding decimal_from
from_append u [] b = refl
from_append u (c ∷ a) b = from_append (u * 10 + (c - 48)) a b

value_digits : (n v : ℕ) → v < 10 ^ n → decimal_from 0 (digits n v) ≡ v
unfolding digits decimal_from
value_digits zero v h = omega arith
value_digits (suc n) v h =
    let p = pow-suc 10 n in
    let e : decimal_from 0 (digits n (v / 10)) ≡ v / 10 = value_digits n (v / 10) (omega arith) in
    from_append 0 (digits n (v / 10)) ((48 + v % 10) ∷ []) ∙ rw e (omega arith)

value_trim : (l : List ℕ) → decimal_from 0 (trim l) ≡ decimal_from 0 l
unfolding trim decimal_from
value_trim [] = refl
value_trim (c ∷ []) = refl
value_trim (c ∷ d ∷ l) = go (eqb c 48) refl (value_trim (d ∷ l))
  where
    go : (b : Bool) → eqb c 48 ≡ b → decimal_from 0 (trim (d ∷ l)) ≡ decimal_from 0 (d ∷ l)
        → decimal_from 0 (pick b (trim (d ∷ l)) (c ∷ d ∷ l)) ≡ decimal_from 0 (c ∷ d ∷ l)
    go true e ih = let q = eqb-true c 48 e in ih ∙ rw q refl
    go false e ih = refl

all_trim : (l : List ℕ) → all is_digit l ≡ true → all is_digit (trim l) ≡ true
unfolding trim all
all_trim [] e = e
all_trim (c ∷ []) e = e
all_trim (c ∷ d ∷ l) e = go (eqb c 48) (all_trim (d ∷ l) (and_right (is_digit c) (is_digit d && all is_digit l) e))
  where
    go : (b : Bool) → all is_digit (trim (d ∷ l)) ≡ true → all is_digit (pick b (trim (d ∷ l)) (c ∷ d ∷ l)) ≡ true
    go true ih = ih
    go false ih = e

-- no spare zero is left, and one digit at least
trim_spare : (l : List ℕ) → spare_zero (trim l) ≡ false
unfolding trim spare_zero
trim_spare [] = refl
trim_spare (c ∷ []) = and_false (eqb c 48)
  where
    and_false : (b : Bool) → (b && false) ≡ false
    and_false true = refl
    and_false false = refl
trim_spare (c ∷ d ∷ l) = go (eqb c 48) refl (trim_spare (d ∷ l))
  where
    go : (b : Bool) → eqb c 48 ≡ b → spare_zero (trim (d ∷ l)) ≡ false → spare_zero (pick b (trim (d ∷ l)) (c ∷ d ∷ l)) ≡ false
    go true e ih = ih
    go false e ih = rw e refl

trim_some : (c : ℕ) (l : List ℕ) → is_empty (trim (c ∷ l)) ≡ false
unfolding trim
trim_some c [] = refl
trim_some c (d ∷ l) = go (eqb c 48) (trim_some d l)
  where
    go : (b : Bool) → is_empty (trim (d ∷ l)) ≡ false → is_empty (pick b (trim (d ∷ l)) (c ∷ d ∷ l)) ≡ false
    go true ih = ih
    go false ih = refl

empty_trim : (l : List ℕ) → 0 < length l → is_empty (trim l) ≡ false
empty_trim [] h = absurd (omega arith)
empty_trim (c ∷ l) h = trim_some c l

digits_some : (n v : ℕ) → 0 < length (digits (suc n) v)
unfolding digits
digits_some n v = go (digits n (v / 10))
  where
    go : (l : List ℕ) → 0 < length (l ++ ((48 + v % 10) ∷ []))
    go [] = omega arith
    go (x ∷ l) = omega arith

-- a number of at most n + 1 digits
read_digits : (n most v : ℕ) → v ≤ most → v < 10 ^ suc n → read_number most (trim (digits (suc n) v)) ≡ Some v
unfolding read_number decimal_value
read_digits n most v h k =
    let l : List ℕ = digits (suc n) v in
    let e = empty_trim l (digits_some n v) in
    let a = all_trim l (all_digits (suc n) v) in
    let s = trim_spare l in
    let w : decimal_from 0 (trim l) ≡ v = value_trim l ∙ value_digits (suc n) v k in
    rw (e, a, s, w, le-leb v most h) refl

pub read_decimal : (most v : ℕ) → v ≤ most → v < 10 ^ 20 → read_number most (decimal v) ≡ Some v
unfolding decimal
read_decimal most v h k = read_digits 19 most v h k

-- a decimal is all digits, one at least
pub decimal_digits : (v : ℕ) → all is_digit (decimal v) ≡ true
unfolding decimal
decimal_digits v = all_trim (digits 20 v) (all_digits 20 v)

pub decimal_some : (v : ℕ) → is_empty (decimal v) ≡ false
unfolding decimal
decimal_some v = empty_trim (digits 20 v) (digits_some 19 v)

pub decimal_no_spare : (v : ℕ) → spare_zero (decimal v) ≡ false
unfolding decimal
decimal_no_spare v = trim_spare (digits 20 v)

-- ---- hashes read back

hex_digit_is : (n : ℕ) → n < 16 → is_hex_digit (hex_digit n) ≡ true
unfolding hex_digit is_hex_digit is_digit
hex_digit_is n h = go (ltb n 10) refl
  where
    go : (b : Bool) → ltb n 10 ≡ b → ((leb 48 (pick b (48 + n) (87 + n)) && leb (pick b (48 + n) (87 + n)) 57) || (leb 97 (pick b (48 + n) (87 + n)) && leb (pick b (48 + n) (87 + n)) 102)) ≡ true
    go true e = let k = ltb-true n 10 e in rw (le-leb 48 (48 + n) (omega arith), le-leb (48 + n) 57 (omega arith)) refl
    go false e =
        let k = ltb-false n 10 e in
        rw (le-leb 48 (87 + n) (omega arith), lt-leb (87 + n) 57 (omega arith), le-leb 97 (87 + n) (omega arith), le-leb (87 + n) 102 (omega arith)) refl

hex_digit_back : (n : ℕ) → n < 16 → hex_digit_value (hex_digit n) ≡ n
unfolding hex_digit hex_digit_value
hex_digit_back n h = go (ltb n 10) refl
  where
    go : (b : Bool) → ltb n 10 ≡ b → pick (leb (pick b (48 + n) (87 + n)) 57) (pick b (48 + n) (87 + n) - 48) (pick b (48 + n) (87 + n) - 87) ≡ n
    go true e = let k = ltb-true n 10 e in rw (le-leb (48 + n) 57 (omega arith)) (omega arith)
    go false e = let k = ltb-false n 10 e in rw (lt-leb (87 + n) 57 (omega arith)) (omega arith)

pub hex_digits : (h : List ℕ) → Bytes h → all is_hex_digit (hex h) ≡ true
unfolding hex all
hex_digits [] p = refl
hex_digits (b ∷ h) p =
    let k = p.0 in
    rw (hex_digit_is (b / 16) (omega arith), hex_digit_is (b % 16) (omega arith)) (hex_digits h p.1)

pub hex_back : (h : List ℕ) → Bytes h → hex_value (hex h) ≡ h
unfolding hex hex_value
hex_back [] p = refl
hex_back (b ∷ h) p =
    let k = p.0 in
    let e : b / 16 * 16 + b % 16 ≡ b = omega arith in
    rw (hex_digit_back (b / 16) (omega arith), hex_digit_back (b % 16) (omega arith), e, hex_back h p.1) refl

pub length_of_hex : (h : List ℕ) → length (hex h) ≡ length h + length h
unfolding hex
length_of_hex [] = refl
length_of_hex (b ∷ h) = let e = length_of_hex h in omega arith

pub read_hex : (h : Hash) → Bytes h → length h ≡ hash_size → read_hash (hex h) ≡ Some h
unfolding read_hash
read_hex h p n =
    let l : length (hex h) ≡ hash_size + hash_size = let e = length_of_hex h in omega arith in
    rw (eq-eqb (length (hex h)) (hash_size + hash_size) l, hex_digits h p, hex_back h p) refl

-- ---- revisions read back

digit_no_dash : (c : ℕ) → is_digit c ≡ true → eqb c dash_byte ≡ false
unfolding is_digit
digit_no_dash c e = let k = leb-true 48 c (and_left (leb 48 c) (leb c 57) e) in ne_eqb c dash_byte (λ q. omega arith)

before_dash_lem : (a b : List ℕ) → all is_digit a ≡ true → before_dash (a ++ (dash_byte ∷ b)) ≡ a
unfolding before_dash all
before_dash_lem [] b e = refl
before_dash_lem (c ∷ a) b e =
    rw (digit_no_dash c (and_left (is_digit c) (all is_digit a) e)) (ap (λ (l : List ℕ). c ∷ l) (before_dash_lem a b (and_right (is_digit c) (all is_digit a) e)))

after_dash_lem : (a b : List ℕ) → all is_digit a ≡ true → after_dash (a ++ (dash_byte ∷ b)) ≡ b
unfolding after_dash all
after_dash_lem [] b e = refl
after_dash_lem (c ∷ a) b e =
    rw (digit_no_dash c (and_left (is_digit c) (all is_digit a) e)) (after_dash_lem a b (and_right (is_digit c) (all is_digit a) e))

pub read_rev_text : (v : Revision) → v.number.0 ≤ number_most → Bytes v.hash → length v.hash ≡ hash_size → read_rev (rev_text v) ≡ Some v
unfolding read_rev rev_text text
read_rev_text v m p n =
    let d = decimal_digits v.number.0 in
    rw (
      before_dash_lem (decimal v.number.0) (hex v.hash) d,
      after_dash_lem (decimal v.number.0) (hex v.hash) d,
      read_decimal number_most v.number.0 m (omega arith),
      read_hex v.hash p n,
    ) refl
