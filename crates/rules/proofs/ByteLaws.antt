-- Laws of numbers and pieces in a list of bytes: what is written reads back, and what is read writes back. Assumes nothing.
use mathlib.Core.Path.{◌≡◌, refl, sym, ap, ap₂, ◌∙◌, subst}
use mathlib.Core.List.{List, [], ◌∷◌, ◌++◌, append_assoc, append-nil}
use Prim.Native.Nat.{ℕ, zero, suc, ◌+◌, ◌-◌, ◌*◌, ◌/◌, ◌%◌, ◌^◌, ◌≤◌, ◌<◌}
use native.Mathlib.Nat.{add-zero, zero-add, suc-add, mul-le-mul_right, pow-suc}
use native.Mathlib.Omega.{arith}
use lib.ListN.{length, get_or, take, drop, replicate, length-append, length-take, length-drop, take-append-drop}
use lib.Seq.{drop-length, take_at, drop_at, take-add, drop-drop, length-take-le, take_all, take-take, get_or-append-add, drop-cons, take-nil}
use Rattle.rules.specs.Bytes.{be, value_from, value, part, pieces, join, Bytes}

-- ---- bytes

pub bytes_append : (a b : List ℕ) → Bytes a → Bytes b → Bytes (a ++ b)
bytes_append [] b p q = q
bytes_append (x ∷ a) b p q = (p.0, bytes_append a b p.1 q)

bytes_left : (a b : List ℕ) → Bytes (a ++ b) → Bytes a
bytes_left [] b p = tt
bytes_left (x ∷ a) b p = (p.0, bytes_left a b p.1)

bytes_right : (a b : List ℕ) → Bytes (a ++ b) → Bytes b
bytes_right [] b p = p
bytes_right (x ∷ a) b p = bytes_right a b p.1

pub bytes_take : (n : ℕ) (s : List ℕ) → Bytes s → Bytes (take n s)
bytes_take n s p = bytes_left (take n s) (drop n s) (subst Bytes (sym (take-append-drop n s)) p)

pub bytes_drop : (n : ℕ) (s : List ℕ) → Bytes s → Bytes (drop n s)
bytes_drop n s p = bytes_right (take n s) (drop n s) (subst Bytes (sym (take-append-drop n s)) p)

pub bytes_part : (k n : ℕ) (s : List ℕ) → Bytes s → Bytes (part k n s)
unfolding part
bytes_part k n s p = bytes_take n (drop k s) (bytes_drop k s p)

pub bytes_zeros : (n : ℕ) → Bytes (replicate n 0)
bytes_zeros zero = tt
bytes_zeros (suc n) = (omega arith, bytes_zeros n)

pub bytes_at : (s : List ℕ) (i : ℕ) → Bytes s → get_or s i 0 < 256
bytes_at [] i p = omega arith
bytes_at (x ∷ s) zero p = p.0
bytes_at (x ∷ s) (suc i) p = bytes_at s i p.1

-- ---- numbers

pub length-be : (n v : ℕ) → length (be n v) ≡ n
unfolding be
length-be zero v = refl
length-be (suc n) v = length-append (be n (v / 256)) (v % 256 ∷ []) ∙ (let e = length-be n (v / 256) in omega arith)

pub bytes_be : (n v : ℕ) → Bytes (be n v)
unfolding be
bytes_be zero v = tt
bytes_be (suc n) v = bytes_append (be n (v / 256)) (v % 256 ∷ []) (bytes_be n (v / 256)) (omega arith, tt)

be_zero : (n : ℕ) → be n 0 ≡ replicate n 0
unfolding be
be_zero zero = refl
be_zero (suc n) = ap (λ (l : List ℕ). l ++ (0 ∷ [])) (be_zero n) ∙ snoc n
  where
    snoc : (m : ℕ) → ◌++◌ {A = ℕ} (replicate m 0) (0 ∷ []) ≡ 0 ∷ replicate m 0
    snoc zero = refl
    snoc (suc m) = ap {B = List ℕ} (λ l. 0 ∷ l) (snoc m)

value_from_append : (v : ℕ) (a b : List ℕ) → value_from v (a ++ b) ≡ value_from (value_from v a) b
unfolding value_from
value_from_append v [] b = refl
value_from_append v (x ∷ a) b = value_from_append (v * 256 + x) a b

-- a number that has room in n bytes is read back from them
pub value_be : (n v : ℕ) → v < 256 ^ n → value (be n v) ≡ v
unfolding value value_from be
value_be zero v h = omega arith
value_be (suc n) v h =
    let e : value (be n (v / 256)) ≡ v / 256 = value_be n (v / 256) (omega arith) in
    value_from_append 0 (be n (v / 256)) (v % 256 ∷ []) ∙ omega arith

be_step : (n v b : ℕ) → b < 256 → be (suc n) (v * 256 + b) ≡ be n v ++ (b ∷ [])
unfolding be
be_step n v b h =
    let q : (v * 256 + b) / 256 ≡ v = omega arith in
    let m : (v * 256 + b) % 256 ≡ b = omega arith in
    ap₂ (λ (x y : ℕ). be n x ++ (y ∷ [])) q m

be_from : (n v : ℕ) (bs : List ℕ) → Bytes bs → be (n + length bs) (value_from v bs) ≡ be n v ++ bs
unfolding value_from
be_from n v [] p = ap (λ (k : ℕ). be k v) (add-zero n) ∙ sym (append-nil (be n v))
be_from n v (b ∷ bs) p =
    let k : n + suc (length bs) ≡ suc n + length bs = omega arith in
    ap (λ (m : ℕ). be m (value_from (v * 256 + b) bs)) k
    ∙ (be_from (suc n) (v * 256 + b) bs p.1
    ∙ (ap (λ (l : List ℕ). l ++ bs) (be_step n v b p.0) ∙ append_assoc (be n v) (b ∷ []) bs))

-- bytes are those of the number that they are
be_value : (bs : List ℕ) → Bytes bs → be (length bs) (value bs) ≡ bs
unfolding value be
be_value bs p = ap (λ (k : ℕ). be k (value_from 0 bs)) (sym (zero-add (length bs))) ∙ be_from 0 0 bs p

be_value_of : (n : ℕ) (bs : List ℕ) → length bs ≡ n → Bytes bs → be n (value bs) ≡ bs
be_value_of n bs e p = ap (λ (k : ℕ). be k (value bs)) (sym e) ∙ be_value bs p

value_from_most : (v : ℕ) (bs : List ℕ) → Bytes bs → value_from v bs < (v + 1) * 256 ^ length bs
unfolding value_from
value_from_most v [] p = omega arith
value_from_most v (b ∷ bs) p =
    let h = value_from_most (v * 256 + b) bs p.1 in
    let m = mul-le-mul_right {m = v * 256 + b + 1} {n = v * 256 + 256} (256 ^ length bs) (let q = p.0 in omega arith) in
    rw (pow-suc 256 (length bs)) (omega arith)

-- and n bytes are a number below 256 to the n
value_most : (bs : List ℕ) → Bytes bs → value bs < 256 ^ length bs
unfolding value
value_most bs p = let h = value_from_most 0 bs p in omega arith

pub value_below : (n : ℕ) (bs : List ℕ) → length bs ≡ n → Bytes bs → value bs < 256 ^ n
value_below n bs e p = rw e at (value_most bs p)

-- ---- parts

pub length_part : (k n : ℕ) (s : List ℕ) → k + n ≤ length s → length (part k n s) ≡ n
unfolding part
length_part k n s h = simp (length-take, length-drop) (omega arith)

-- the part at the front
pub part-front : (a b : List ℕ) (n : ℕ) → length a ≡ n → part 0 n (a ++ b) ≡ a
unfolding part
part-front a b n e = take_at a b n e

pub part_whole : (a : List ℕ) (n : ℕ) → length a ≡ n → part 0 n a ≡ a
unfolding part
part_whole a n e = take_all n a (omega arith)

-- a part past the front
pub part-past : (a b : List ℕ) (m k n : ℕ) → length a ≡ m → part (m + k) n (a ++ b) ≡ part k n b
unfolding part
part-past a b m k n e = ap (take n) (sym (drop-drop k m (a ++ b)) ∙ ap (drop k) (drop_at a b m e))

pub get_d_past : (a b : List ℕ) (m k : ℕ) → length a ≡ m → get_or (a ++ b) (m + k) 0 ≡ get_or b k 0
get_d_past a b m k e = ap (λ (i : ℕ). get_or (a ++ b) (i + k) 0) (sym e) ∙ get_or-append-add a b k 0

-- what is left from k on is a part and what is left after it
pub part-next : (k n m : ℕ) (s : List ℕ) → k + n ≡ m → drop k s ≡ part k n s ++ drop m s
unfolding part
part-next k n m s e =
    sym (take-append-drop n (drop k s))
    ∙ ap (λ (l : List ℕ). take n (drop k s) ++ l) (drop-drop n k s ∙ ap (λ (i : ℕ). drop i s) e)

pub byte_next : (k m : ℕ) (s : List ℕ) → k + 1 ≡ m → k < length s → drop k s ≡ get_or s k 0 ∷ drop m s
byte_next k m s e h =
    let n : suc k ≡ m = omega arith in
    drop-cons s k 0 h ∙ ap (λ (i : ℕ). get_or s k 0 ∷ drop i s) n

-- the same where the part is read as a number and written again
pub number_next : (k n m : ℕ) (s : List ℕ) → Bytes s → k + n ≡ m → m ≤ length s → be n (value (part k n s)) ++ drop m s ≡ drop k s
number_next k n m s p e h =
    ap (λ (l : List ℕ). l ++ drop m s)
    (be_value_of n (part k n s) (length_part k n s (omega arith)) (bytes_part k n s p))
    ∙ sym (part-next k n m s e)

pub number_last : (k n : ℕ) (s : List ℕ) → Bytes s → k + n ≡ length s → be n (value (part k n s)) ≡ drop k s
number_last k n s p e =
    let v : List ℕ = be n (value (part k n s)) in
    sym (append-nil v)
    ∙ (ap (λ (l : List ℕ). v ++ l) (sym (drop-length s)) ∙ number_next k n (length s) s p e (omega arith))

pub part-part : (i m k n : ℕ) (s : List ℕ) → i + m ≤ n → part i m (part k n s) ≡ part (k + i) m s
unfolding part
part-part i m k n s h =
    ap (take m) (drop-take i n (drop k s))
    ∙ (take-take m (n - i) (drop i (drop k s)) (omega arith) ∙ ap (take m) (drop-drop i k s))
  where
    drop-take : (a b : ℕ) (l : List ℕ) → drop a (take b l) ≡ take (b - a) (drop a l)
    drop-take zero b l = let z : b ≡ b - 0 = omega arith in ap (λ (j : ℕ). take j l) z
    drop-take (suc a) zero l = let z : 0 - suc a ≡ 0 = omega arith in ap (λ (j : ℕ). take j (drop (suc a) l)) (sym z)
    drop-take (suc a) (suc b) [] = sym (take-nil (suc b - suc a))
    drop-take (suc a) (suc b) (x ∷ l) = let z : suc b - suc a ≡ b - a = omega arith in drop-take a b l ∙ ap (λ (j : ℕ). take j (drop a l)) (sym z)

-- ---- pieces

-- each has w bytes
abbrev pub Sized : ℕ → List (List ℕ) → Type 0
Sized w [] = Unit {0}
Sized w (p ∷ ps) = (length p ≡ w) × Sized w ps

pub length-pieces : (n w : ℕ) (s : List ℕ) → length (pieces n w s) ≡ n
unfolding pieces
length-pieces zero w s = refl
length-pieces (suc n) w s = ap suc (length-pieces n w (drop w s))

pub sized_pieces : (n w : ℕ) (s : List ℕ) → n * w ≤ length s → Sized w (pieces n w s)
unfolding pieces
sized_pieces zero w s h = tt
sized_pieces (suc n) w s h =
    let k : w + n * w ≤ length s = omega arith in
    (length-take-le w s (omega arith), sized_pieces n w (drop w s) (simp length-drop (omega arith)))

pub length-join : (w : ℕ) (ps : List (List ℕ)) → Sized w ps → length (join ps) ≡ length ps * w
unfolding join
length-join w [] z = omega arith
length-join w (p ∷ ps) z =
    let h = length-join w ps z.1 in let e = z.0 in length-append p (join ps) ∙ omega arith

pub join_append : (ps qs : List (List ℕ)) → join (ps ++ qs) ≡ join ps ++ join qs
unfolding join
join_append [] qs = refl
join_append (p ∷ ps) qs = ap (λ (l : List ℕ). p ++ l) (join_append ps qs) ∙ sym (append_assoc p (join ps) (join qs))

-- pieces put together, whatever follows, are cut into the same pieces
pub pieces_join : (w : ℕ) (ps : List (List ℕ)) (t : List ℕ) → Sized w ps → pieces (length ps) w (join ps ++ t) ≡ ps
unfolding pieces join
pieces_join w [] t z = refl
pieces_join w (p ∷ ps) t z =
    let e : (p ++ join ps) ++ t ≡ p ++ (join ps ++ t) = append_assoc p (join ps) t in
    ap₂ {C = List (List ℕ)} (λ a b. a ∷ b) (ap (take w) e ∙ take_at p (join ps ++ t) w z.0)
    (ap (λ (l : List ℕ). pieces (length ps) w (drop w l)) e
    ∙ (ap (pieces (length ps) w) (drop_at p (join ps ++ t) w z.0) ∙ pieces_join w ps t z.1))

pub pieces_join_all : (w : ℕ) (ps : List (List ℕ)) → Sized w ps → pieces (length ps) w (join ps) ≡ ps
pieces_join_all w ps z = ap (pieces (length ps) w) (sym (append-nil (join ps))) ∙ pieces_join w ps [] z

-- what was cut into pieces is put together again
pub join_pieces : (n w : ℕ) (s : List ℕ) → join (pieces n w s) ≡ take (n * w) s
unfolding pieces join
join_pieces zero w s = let z : 0 ≡ 0 * w = omega arith in ap (λ (k : ℕ). take k s) z
join_pieces (suc n) w s =
    let k : w + n * w ≡ suc n * w = omega arith in
    ap (λ (l : List ℕ). take w s ++ l) (join_pieces n w (drop w s))
    ∙ (sym (take-add w (n * w) s) ∙ ap (λ (j : ℕ). take j s) k)

join_pieces_all : (n w : ℕ) (s : List ℕ) → length s ≡ n * w → join (pieces n w s) ≡ s
join_pieces_all n w s e = join_pieces n w s ∙ take_all (n * w) s (omega arith)

-- the pieces of a run and of what follows it
pub pieces_add : (m n w : ℕ) (s : List ℕ) → pieces (m + n) w s ≡ pieces m w s ++ pieces n w (drop (m * w) s)
unfolding pieces
pieces_add zero n w s =
    let z : 0 * w ≡ 0 = omega arith in
    ap (λ (k : ℕ). pieces k w s) (zero-add n) ∙ ap (λ (k : ℕ). pieces n w (drop k s)) (sym z)
pieces_add (suc m) n w s =
    let k : w + m * w ≡ suc m * w = omega arith in
    ap (λ (j : ℕ). pieces j w s) (suc-add m n)
    ∙ ap {B = List (List ℕ)} (λ l. take w s ∷ l)
    (pieces_add m n w (drop w s)
    ∙ ap (λ (l : List ℕ). pieces m w (drop w s) ++ pieces n w l) (drop-drop (m * w) w s ∙ ap (λ (j : ℕ). drop j s) k))

-- pieces don't look past their end
pub pieces_front : (n w : ℕ) (a b : List ℕ) → length a ≡ n * w → pieces n w (a ++ b) ≡ pieces n w a
pieces_front n w a b e =
    let p : join (pieces n w a) ≡ a = join_pieces_all n w a e in
    let l : length (pieces n w a) ≡ n = length-pieces n w a in
    ap (λ (x : List ℕ). pieces n w (x ++ b)) (sym p)
    ∙ (ap (λ (k : ℕ). pieces k w (join (pieces n w a) ++ b)) (sym l)
    ∙ pieces_join w (pieces n w a) b (sized_pieces n w a (omega arith)))

-- the i-th piece
pub get_d_pieces : (n w i : ℕ) (s : List ℕ) → i < n → get_or (pieces n w s) i [] ≡ part (i * w) w s
unfolding pieces part
get_d_pieces zero w i s h = absurd (omega arith)
get_d_pieces (suc n) w zero s h = let z : 0 * w ≡ 0 = omega arith in ap (λ (k : ℕ). take w (drop k s)) (sym z)
get_d_pieces (suc n) w (suc i) s h =
    let k : w + i * w ≡ suc i * w = omega arith in
    get_d_pieces n w i (drop w s) (omega arith) ∙ ap (take w) (drop-drop (i * w) w s ∙ ap (λ (j : ℕ). drop j s) k)

pub take-pieces : (k n w : ℕ) (s : List ℕ) → k ≤ n → take k (pieces n w s) ≡ pieces k w s
unfolding pieces
take-pieces zero n w s h = refl
take-pieces (suc k) zero w s h = absurd (omega arith)
take-pieces (suc k) (suc n) w s h = ap {B = List (List ℕ)} (λ l. take w s ∷ l) (take-pieces k n w (drop w s) (omega arith))

pub drop-pieces : (k n w : ℕ) (s : List ℕ) → drop k (pieces (k + n) w s) ≡ pieces n w (drop (k * w) s)
drop-pieces k n w s =
    ap (drop k) (pieces_add k n w s) ∙ drop_at (pieces k w s) (pieces n w (drop (k * w) s)) k (length-pieces k w s)

-- each is bytes
abbrev pub AllBytes : List (List ℕ) → Type 0
AllBytes [] = Unit {0}
AllBytes (p ∷ ps) = Bytes p × AllBytes ps

pub bytes_join : (ps : List (List ℕ)) → AllBytes ps → Bytes (join ps)
unfolding join
bytes_join [] h = tt
bytes_join (p ∷ ps) h = bytes_append p (join ps) h.0 (bytes_join ps h.1)

pub bytes_pieces : (n w : ℕ) (s : List ℕ) → Bytes s → AllBytes (pieces n w s)
unfolding pieces
bytes_pieces zero w s h = tt
bytes_pieces (suc n) w s h = (bytes_take w s h, bytes_pieces n w (drop w s) (bytes_drop w s h))
