-- How loops over hex digits meet the hash that they are. Assumes nothing.
use mathlib.Core.Path.{◌≡◌, refl, sym, ap, ◌∙◌}
use mathlib.Core.Bool.{Bool, true, false, ◌&&◌}
use mathlib.Core.List.{List, [], ◌∷◌, ◌++◌, map}
use Rattle.std.specs.Prelude.{None, Some}
use mathlib.Core.Logic.{◌⊎◌, inl, inr}
use Prim.Native.Nat.{ℕ, zero, suc, ◌+◌, ◌*◌, ◌≤◌, ◌<◌}
use native.Mathlib.Numerals.{add-one}
use native.Mathlib.Omega.{arith}
use lib.ListN.{length, get_or, set, take, drop, length-take}
use lib.Seq.{drop-cons, take-suc, take-suc-set, take_all}
use borrow.Author.Tests.{eq-eqb, ne_eqb, le-leb, lt-leb}
use Rattle.rules.specs.Room.{hash_size}
use Rattle.octets.specs.Splice.{splice}
use Rattle.lines.specs.Said.{all, is_digit, is_hex_digit, hex_digit_value, hex_value, read_hash}
use Rattle.lines.proofs.SaidLaws.{and_left, and_right, hex_digit_range, hex_value_small}
use Rattle.fields.specs.Fields.{pairs, Small, HexValues, HashTaken}

-- ---- one digit

pub a_letter : (c : ℕ) → 97 ≤ c → c ≤ 102 → is_hex_digit c ≡ true
unfolding is_hex_digit is_digit
a_letter c h k = rw (le-leb 48 c (omega arith), lt-leb c 57 (omega arith), le-leb 97 c h, le-leb c 102 k) refl

pub low_digit : (c : ℕ) → is_hex_digit c ≡ true → 48 ≤ c
low_digit c e = go (hex_digit_range c e)
  where
    go : ((48 ≤ c) × (c ≤ 57)) ⊎ ((97 ≤ c) × (c ≤ 102)) → 48 ≤ c
    go (inl p) = p.0
    go (inr p) = let q = p.0 in omega arith

pub high_digit : (c : ℕ) → is_hex_digit c ≡ true → 57 < c → 97 ≤ c
high_digit c e h = go (hex_digit_range c e)
  where
    go : ((48 ≤ c) × (c ≤ 57)) ⊎ ((97 ≤ c) × (c ≤ 102)) → 97 ≤ c
    go (inl p) = let q = p.1 in absurd (omega arith)
    go (inr p) = p.0

-- ---- all digits

and_assoc : (a b c : Bool) → (a && (b && c)) ≡ ((a && b) && c)
and_assoc true b c = refl
and_assoc false b c = refl

pub and_true : (a : Bool) → (a && true) ≡ a
and_true true = refl
and_true false = refl

-- one byte more
pub all_more : (t : List ℕ) (i : ℕ) (a : Bool) → i < length t
    → (a && all is_hex_digit (drop i t)) ≡ ((a && is_hex_digit (get_or t i 0)) && all is_hex_digit (drop (i + 1) t))
unfolding all
all_more t i a h = rw (drop-cons t i 0 h, add-one i) (and_assoc a (is_hex_digit (get_or t i 0)) (all is_hex_digit (drop (suc i) t)))

-- ---- the values of the digits

pub pairs_values : (t : List ℕ) → pairs (map hex_digit_value t) ≡ hex_value t
unfolding pairs hex_value
pairs_values [] = refl
pairs_values (c ∷ []) = refl
pairs_values (c ∷ d ∷ t) = ap (λ (l : List ℕ). (hex_digit_value c * 16 + hex_digit_value d) ∷ l) (pairs_values t)

values_small : (t : List ℕ) (i : ℕ) → all is_hex_digit t ≡ true → get_or (map hex_digit_value t) i 0 < 16
unfolding all
values_small [] i e = omega arith
values_small (c ∷ t) zero e = hex_value_small c (and_left (is_hex_digit c) (all is_hex_digit t) e)
values_small (c ∷ t) (suc i) e = values_small t i (and_right (is_hex_digit c) (all is_hex_digit t) e)

map_more : (a : List ℕ) (c : ℕ) → map hex_digit_value (a ++ (c ∷ [])) ≡ map hex_digit_value a ++ (hex_digit_value c ∷ [])
map_more [] c = refl
map_more (x ∷ a) c = ap (λ (l : List ℕ). hex_digit_value x ∷ l) (map_more a c)

-- one value more
pub values_more : (t vs : List ℕ) (i : ℕ) {x : ℕ} → i < length t → i < length vs → take i vs ≡ map hex_digit_value (take i t)
    → x ≡ hex_digit_value (get_or t i 0) → take (i + 1) (set vs i x) ≡ map hex_digit_value (take (i + 1) t)
values_more t vs i {x} h k e f =
    rw (add-one i, take-suc-set vs i x k, take-suc t i 0 h, e, f) (sym (map_more (take i t) (get_or t i 0)))

pub values_done : (t vs : List ℕ) (i : ℕ) → length t ≤ i → length vs ≤ i → all is_hex_digit t ≡ true → take i vs ≡ map hex_digit_value (take i t) → HexValues t vs
unfolding Small
values_done t vs i h k a e =
    let q : vs ≡ map hex_digit_value t = sym (take_all i vs k) ∙ (e ∙ ap (map hex_digit_value) (take_all i t h)) in
    record { is = q; small = λ j. rw q (values_small t j a) }

-- ---- the bytes of two values each

pairs_more : (a : List ℕ) (n c d : ℕ) → length a ≡ n + n → pairs (a ++ (c ∷ d ∷ [])) ≡ pairs a ++ ((c * 16 + d) ∷ [])
unfolding pairs
pairs_more [] n c d e = refl
pairs_more (x ∷ []) n c d e = absurd (omega arith)
pairs_more (x ∷ y ∷ a) zero c d e = absurd (omega arith)
pairs_more (x ∷ y ∷ a) (suc n) c d e = ap (λ (l : List ℕ). (x * 16 + y) ∷ l) (pairs_more a n c d (omega arith))

pairs_take : (vs : List ℕ) (i : ℕ) → i + i + 1 < length vs
    → pairs (take (i + 1 + (i + 1)) vs) ≡ pairs (take (i + i) vs) ++ ((get_or vs (i + i) 0 * 16 + get_or vs (i + i + 1) 0) ∷ [])
pairs_take vs i h =
    let k : i + 1 + (i + 1) ≡ suc (suc (i + i)) = omega arith in
    let m : i + i + 1 ≡ suc (i + i) = omega arith in
    let x = get_or vs (i + i) 0 in
    let y = get_or vs (suc (i + i)) 0 in
    let s : take (suc (suc (i + i))) vs ≡ take (i + i) vs ++ (x ∷ y ∷ [])
    = take-suc vs (suc (i + i)) 0 (omega arith)
    ∙ (ap (λ (l : List ℕ). l ++ (y ∷ [])) (take-suc vs (i + i) 0 (omega arith)) ∙ snoc (take (i + i) vs) x y) in
    rw (k, m, s) (pairs_more (take (i + i) vs) i x y (simp length-take (omega arith)))
  where
    snoc : (l : List ℕ) (x y : ℕ) → (l ++ (x ∷ [])) ++ (y ∷ []) ≡ l ++ (x ∷ y ∷ [])
    snoc [] x y = refl
    snoc (z ∷ l) x y = ap (λ (r : List ℕ). z ∷ r) (snoc l x y)

-- one byte more
pub lay_more : (vs bytes : List ℕ) (i : ℕ) → length vs ≡ hash_size + hash_size → length bytes ≡ hash_size → i < hash_size
    → take i bytes ≡ pairs (take (i + i) vs)
    → take (i + 1) (set bytes i (get_or vs (i + i) 0 * 16 + get_or vs (i + i + 1) 0)) ≡ pairs (take (i + 1 + (i + 1)) vs)
lay_more vs bytes i n m h e =
    rw (add-one i, take-suc-set bytes i (get_or vs (i + i) 0 * 16 + get_or vs (i + i + 1) 0) (omega arith), e)
    (sym (rw (sym (add-one i)) (pairs_take vs i (omega arith))))

pub lay_done : (vs bytes : List ℕ) (i : ℕ) → length vs ≤ i + i → length bytes ≤ i → take i bytes ≡ pairs (take (i + i) vs) → bytes ≡ pairs vs
lay_done vs bytes i n m e = sym (take_all i bytes m) ∙ (e ∙ ap pairs (take_all (i + i) vs n))

-- ---- a hash or none

pub no_hash_size : (t : List ℕ) → (length t ≡ hash_size + hash_size → ⊥) → read_hash t ≡ None
unfolding read_hash
no_hash_size t h = rw (ne_eqb (length t) (hash_size + hash_size) h) refl

pub no_hash_digits : (t : List ℕ) → length t ≡ hash_size + hash_size → all is_hex_digit t ≡ false → read_hash t ≡ None
unfolding read_hash
no_hash_digits t n e = rw (eq-eqb (length t) (hash_size + hash_size) n, e) refl

pub a_hash : (t vs h : List ℕ) → length t ≡ hash_size + hash_size → all is_hex_digit t ≡ true → HexValues t vs → h ≡ pairs vs → Some h ≡ read_hash t
unfolding read_hash
a_hash t vs h n e p q = rw (eq-eqb (length t) (hash_size + hash_size) n, e) (ap Some (q ∙ (ap pairs p.is ∙ pairs_values t)))

-- ---- a hash laid down

pub none_taken : {t s : List ℕ} {at : ℕ} → read_hash t ≡ None → HashTaken t s at false s
none_taken e = record { is = rw e refl; left = rw e refl }

pub some_taken : {t h s s' : List ℕ} {at : ℕ} → read_hash t ≡ Some h → s' ≡ splice s at h → HashTaken t s at true s'
some_taken e p = record { is = rw e refl; left = rw e p }
