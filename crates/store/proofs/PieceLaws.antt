-- Numbers and pieces among other bytes. Assumes nothing.
use mathlib.Core.Path.{◌≡◌, sym}
use Prim.Native.Nat.{ℕ, zero, suc, ◌+◌, ◌*◌, ◌<◌, ◌^◌}
use native.Mathlib.Nat.{not-suc-le-zero, le_of_suc-le-suc}
use native.Mathlib.Omega.{arith}
use mathlib.Core.List.{List, [], ◌∷◌, ◌++◌, append_assoc}
use lib.ListN.{length, drop, get_or}
use lib.Seq.{drop-append-add}
use Rattle.rules.specs.Bytes.{be, value, part, join}
use Rattle.rules.proofs.ByteLaws.{length-be, value_be, part-front, part-past, Sized}

pub drop_past : (a b : List ℕ) (n k : ℕ) → length a ≡ n → drop (n + k) (a ++ b) ≡ drop k b
drop_past a b n k e = rw (sym e) (drop-append-add a b k)

pub number_front : (n v : ℕ) (b : List ℕ) → v < 256 ^ n → value (part 0 n (be n v ++ b)) ≡ v
number_front n v b h = rw (part-front (be n v) b n (length-be n v)) (value_be n v h)

-- one of many pieces
pub piece_at : (w : ℕ) (ps : List (List ℕ)) (T x : List ℕ) (i : ℕ) → Sized w ps → i < length ps → part (w * i) w (join ps ++ T) ≡ get_or ps i x
unfolding join
piece_at w [] T x i h l = absurd (not-suc-le-zero l)
piece_at w (p ∷ ps) T x zero h l =
    let e : w * 0 ≡ 0 = omega arith in
    rw (e, append_assoc p (join ps) T) (part-front p (join ps ++ T) w h.0)
piece_at w (p ∷ ps) T x (suc i) h l =
    let e : w * suc i ≡ w + w * i = omega arith in
    rw (e, append_assoc p (join ps) T, part-past p (join ps ++ T) w (w * i) w h.0) (piece_at w ps T x i h.1 (le_of_suc-le-suc l))
