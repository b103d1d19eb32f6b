-- Laws of numbers in bytes, as the library reads and writes them. Assumes nothing.
use Rattle.std.proofs.Common.{◌≡◌, refl, sym, ap, ◌∙◌, List, [], ◌∷◌, ◌++◌, ℕ, zero, suc, ◌+◌, ◌-◌, ◌*◌, ◌/◌, ◌%◌, ◌^◌, ◌≤◌, ◌<◌, pow-suc, arith, length, get_or, take, take-suc, take_all, Fits, w8}
use native.Mathlib.Nat.{div-div-eq-div-mul, pow-succ'}
use Rattle.std.specs.Int.{byte_at, byte_worth, bytes_high_first, sum_through}
use Rattle.rules.specs.Bytes.{be, value, value_from, part, Bytes}
use Rattle.rules.proofs.ByteLaws.{bytes_part, length_part}
use Rattle.octets.specs.Octets.{IsNumber, NumberPut}
use Rattle.octets.specs.Splice.{splice}

-- ---- numbers read

-- the number that the library makes of k + 1 bytes
abbrev pub number : ℕ → List ℕ → ℕ
number k bs = sum_through (λ i. byte_worth (k - i) (get_or bs i 0)) k

-- one place up, each byte is worth 256 times as much
worth_up : (m b : ℕ) → byte_worth (suc m) b ≡ 256 * byte_worth m b
worth_up zero b = omega arith
worth_up (suc m) b = rw (pow-suc 256 (suc m)) (omega arith)

sum_up : (bs : List ℕ) (k j : ℕ) → j ≤ k
    → sum_through (λ i. byte_worth (suc k - i) (get_or bs i 0)) j ≡ 256 * sum_through (λ i. byte_worth (k - i) (get_or bs i 0)) j
sum_up bs k zero h =
    let e : suc k - 0 ≡ suc k = omega arith in
    let f : k - 0 ≡ k = omega arith in
    rw (e, f) (worth_up k (get_or bs 0 0))
sum_up bs k (suc j) h =
    let e : suc k - suc j ≡ suc (k - suc j) = omega arith in
    let s = sum_up bs k j (omega arith) in
    let w = worth_up (k - suc j) (get_or bs (suc j) 0) in
    rw (e, s, w) (omega arith)

value_from_more : (v : ℕ) (bs : List ℕ) (b : ℕ) → value_from v (bs ++ (b ∷ [])) ≡ value_from v bs * 256 + b
unfolding value_from
value_from_more v [] b = refl
value_from_more v (x ∷ bs) b = value_from_more (v * 256 + x) bs b

value_sum : (bs : List ℕ) (k : ℕ) → k < length bs → value (take (suc k) bs) ≡ number k bs
unfolding value value_from
value_sum bs zero h = rw (take-suc bs 0 0 h) (omega arith)
value_sum bs (suc k) h =
    let e : suc k - suc k ≡ 0 = omega arith in
    rw (take-suc bs (suc k) 0 h, value_from_more 0 (take (suc k) bs) (get_or bs (suc k) 0), value_sum bs k (omega arith), sum_up bs k k (omega arith), e) (omega arith)

pub value_number : (bs : List ℕ) (k : ℕ) → length bs ≡ suc k → value bs ≡ number k bs
value_number bs k e = rw (take_all (suc k) bs (omega arith)) at (value_sum bs k (omega arith))

pub bytes_all : (s : List ℕ) → ((i : ℕ) → Fits w8 (get_or s i 0)) → Bytes s
bytes_all [] h = tt
bytes_all (x ∷ s) h = (omega (arith, h 0), bytes_all s (λ i. h (suc i)))

-- that of the k + 1 bytes at `at`
pub number_read : (s : List ℕ) (at k : ℕ) {limit n : ℕ} {bs : List ℕ} → at + suc k ≤ length s → ((i : ℕ) → Fits w8 (get_or s i 0))
    → bs ≡ part at (suc k) s → n ≡ number k bs → n < limit → IsNumber (suc k) limit s at n
number_read s at k {limit} {n} {bs} h b e p m =
    let l : length bs ≡ suc k = rw e (length_part at (suc k) s h) in
    record {
      is = p ∙ (sym (value_number bs k l) ∙ ap value e);
      small = m;
      bytes = bytes_part at (suc k) s (bytes_all s b);
    }

-- ---- numbers written

byte_down : (k v : ℕ) → byte_at (suc k) v ≡ byte_at k (v / 256)
byte_down zero v = omega arith
byte_down (suc k) v = rw (pow-succ' 256 (suc k), div-div-eq-div-mul v 256 (256 ^ suc k))

high_more : (k v : ℕ) → bytes_high_first (suc k) v ≡ bytes_high_first k (v / 256) ++ (v % 256 ∷ [])
high_more zero v = refl
high_more (suc k) v = rw (byte_down k v, high_more k v)

-- the bytes that the library makes of a number
pub be_bytes : (k v : ℕ) → bytes_high_first k v ≡ be k v
unfolding be
be_bytes zero v = refl
be_bytes (suc k) v = high_more k v ∙ ap (λ (l : List ℕ). l ++ (v % 256 ∷ [])) (be_bytes k (v / 256))

pub number_put : (s : List ℕ) (at k : ℕ) {limit v : ℕ} {bs after : List ℕ} → after ≡ splice s at bs → bs ≡ bytes_high_first k v → v < limit
    → NumberPut k limit s at v after
number_put s at k {limit} {v} e p m = record { is = e ∙ ap (splice s at) (p ∙ be_bytes k v); small = m }

-- two bytes are those of what the number leaves
pub be_two : (v : ℕ) → be 2 (v % 65536) ≡ be 2 v
unfolding be
be_two v =
    let e : v % 65536 % 256 ≡ v % 256 = omega arith in
    let f : v % 65536 / 256 % 256 ≡ v / 256 % 256 = omega arith in
    rw (e, f)
