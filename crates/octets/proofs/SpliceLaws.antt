-- Laws of splice. Assumes nothing.
use Rattle.std.proofs.Common.{◌≡◌, refl, sym, ◌∙◌, List, [], ◌∷◌, ◌++◌, append_assoc, append-nil, ℕ, suc, ◌+◌, ◌-◌, ◌≤◌, ◌<◌, add_assoc, zero-add, add-zero, add-one, arith, length, get_or, set, take, drop, replicate, length-append, length-take, length-drop, take-append-drop, take_at, drop_at, drop-drop, drop-cons, take-suc, get_or-take}
use lib.ListN.{length-replicate, get_or-append}
use native.Mathlib.Nat.{sub-zero}
use lib.Seq.{set_at, sets, sets-eq, drop-length, drop-append-le, take-append-le, take-append-add, drop-append-add}
use Rattle.std.proofs.lemmas.List.Edits.{paste_all}
use Rattle.std.proofs.lemmas.Slice.{put_mid-paste}
use borrow.Rule.Slice.PartMut.{put_mid}
use Rattle.rules.specs.Bytes.{part}
use Rattle.octets.specs.Splice.{splice}

pub length-splice : (s : List ℕ) (at : ℕ) (vs : List ℕ) → at + length vs ≤ length s → length (splice s at vs) ≡ length s
unfolding splice
length-splice s at vs h = simp (length-append, length-take, length-drop) (omega arith)

pub splice_none : (s : List ℕ) (at : ℕ) → splice s at [] ≡ s
unfolding splice
splice_none s at = rw (add-zero at) (take-append-drop at s)

-- the whole list is replaced
pub splice_whole : (s vs : List ℕ) → length vs ≡ length s → splice s 0 vs ≡ vs
unfolding splice
splice_whole s vs e = rw (zero-add, e) (rw (drop-length s, append-nil vs))

-- one splice after the other is both at once
pub splice-splice : (s : List ℕ) (at : ℕ) (a b : List ℕ) → at + length a + length b ≤ length s
    → splice (splice s at a) (at + length a) b ≡ splice s at (a ++ b)
unfolding splice
splice-splice s at a b h =
    let n : length (take at s ++ a) ≡ at + length a = simp (length-append, length-take) (omega arith) in
    let rest : List ℕ = drop (at + length a) s in
    let e : drop (at + length a + length b) (take at s ++ (a ++ rest)) ≡ drop (at + length a + length b) s
    = rw (sym (append_assoc (take at s) a rest)) (sym (drop-drop (length b) (at + length a) (take at s ++ a ++ rest)) ∙ rw (drop_at (take at s ++ a) rest (at + length a) n) (drop-drop (length b) (at + length a) s)) in
    let t : take (at + length a) (take at s ++ (a ++ rest)) ≡ take at s ++ a
    = rw (sym (append_assoc (take at s) a rest)) (take_at (take at s ++ a) rest (at + length a) n) in
    rw (t, e) (simp (length-append, append_assoc, add_assoc))

-- the same, where the second's place is known by an equation
pub chain : (s a b : List ℕ) (at i : ℕ) → at + length a ≡ i → i + length b ≤ length s → splice (splice s at a) i b ≡ splice s at (a ++ b)
chain s a b at i e h = rw (sym e) (splice-splice s at a b (omega arith))

-- five runs, one after the other
pub five : (s a b c d e : List ℕ) (at i j k m : ℕ) → at + length a ≡ i → i + length b ≡ j → j + length c ≡ k → k + length d ≡ m → m + length e ≤ length s
    → splice (splice (splice (splice (splice s at a) i b) j c) k d) m e ≡ splice s at (a ++ (b ++ (c ++ (d ++ e))))
five s a b c d e at i j k m p q r t h =
    let s1 : List ℕ = splice s at a in
    let s2 : List ℕ = splice s1 i b in
    let s3 : List ℕ = splice s2 j c in
    let n1 : length s1 ≡ length s = length-splice s at a (omega arith) in
    let n2 : length s2 ≡ length s = length-splice s1 i b (omega arith) ∙ n1 in
    let n3 : length s3 ≡ length s = length-splice s2 j c (omega arith) ∙ n2 in
    chain s3 d e k m t (omega arith)
    ∙ (chain s2 c (d ++ e) j k r (simp length-append (omega arith))
    ∙ (chain s1 b (c ++ (d ++ e)) i j q (simp length-append (omega arith))
    ∙ chain s a (b ++ (c ++ (d ++ e))) at i p (simp length-append (omega arith))))

-- a run is replaced by one as long
pub replace : (A X B Y : List ℕ) (p : ℕ) → length A ≡ p → length X ≡ length Y → splice (A ++ (X ++ B)) p Y ≡ A ++ (Y ++ B)
unfolding splice
replace A X B Y p a e =
    let d : drop (p + length Y) (A ++ (X ++ B)) ≡ B = rw (sym (append_assoc A X B)) (drop_at (A ++ X) B (p + length Y) (simp length-append (omega arith))) in
    rw (take_at A (X ++ B) p a, d)

-- past a run
pub splice-past : (a b vs : List ℕ) (n q : ℕ) → length a ≡ n → splice (a ++ b) (n + q) vs ≡ a ++ splice b q vs
unfolding splice
splice-past a b vs n q e =
    let t : take (n + q) (a ++ b) ≡ a ++ take q b = rw (sym e) (take-append-add a b q) in
    let d : drop (n + q + length vs) (a ++ b) ≡ drop (q + length vs) b = rw (add_assoc n q (length vs), sym e) (drop-append-add a b (q + length vs)) in
    rw (t, d) (append_assoc a (take q b) (vs ++ drop (q + length vs) b))

-- within the first run
pub splice_in : (a b vs : List ℕ) (q : ℕ) → q + length vs ≤ length a → splice (a ++ b) q vs ≡ splice a q vs ++ b
unfolding splice
splice_in a b vs q h =
    rw (take-append-le q a b (omega arith), drop-append-le (q + length vs) a b h)
    (simp append_assoc)

-- ---- what is read from a splice

-- from its start on
pub drop_splice_at : (s : List ℕ) (at : ℕ) (vs : List ℕ) → at ≤ length s → drop at (splice s at vs) ≡ vs ++ drop (at + length vs) s
unfolding splice
drop_splice_at s at vs h = drop_at (take at s) (vs ++ drop (at + length vs) s) at (simp length-take (omega arith))

pub part_splice_at : (s : List ℕ) (at : ℕ) (vs : List ℕ) (n : ℕ) → at ≤ length s → n ≡ length vs → part at n (splice s at vs) ≡ vs
unfolding part
part_splice_at s at vs n h e = rw (drop_splice_at s at vs h) (take_at vs (drop (at + length vs) s) n (sym e))

-- ---- how code writes a splice

-- stores one after the other
pub stores : (vs s : List ℕ) (at : ℕ) → at + length vs ≤ length s → sets s at vs ≡ splice s at vs
unfolding splice
stores vs s at h = sets-eq vs s at h ∙ append_assoc (take at s) vs (drop (at + length vs) s)

-- one more behind a run
pub splice_behind : (s : List ℕ) (at q v : ℕ) (vs : List ℕ) → q ≡ at + length vs → q < length s → set (splice s at vs) q v ≡ splice s at (vs ++ (v ∷ []))
splice_behind s at q v vs e h =
    let n : length (splice s at vs) ≡ length s = length-splice s at vs (omega arith) in
    let o : set (splice s at vs) q v ≡ splice (splice s at vs) q (v ∷ []) = stores (v ∷ []) (splice s at vs) q (omega arith) in
    o ∙ rw e (splice-splice s at vs (v ∷ []) (omega arith))

-- a run that code has replaced
pub put_run : (s : List ℕ) (at k : ℕ) (new vs : List ℕ) → new ≡ vs → k ≡ length vs → put_mid at k s new ≡ splice s at vs
unfolding splice
put_run s at k new vs e n = put_mid-paste at k s new vs k e refl n ∙ rw n (paste_all s at vs (length vs) refl)

pub cleared : (s : List ℕ) (at k n m : ℕ) (new : List ℕ) → new ≡ replicate m 0 → m ≡ n → k ≡ n → put_mid at k s new ≡ splice s at (replicate n 0)
cleared s at k n m new e p q = put_run s at k new (replicate n 0) (rw p at e) (q ∙ sym (length-replicate n 0))

-- one more in front of a run
pub splice_front : (s : List ℕ) (p q v : ℕ) (vs : List ℕ) → q ≡ p + 1 → q ≤ length s → set (splice s q vs) p v ≡ splice s p (v ∷ vs)
unfolding splice
splice_front s p q v vs e h =
    let b : p < length s = omega arith in
    let n : length (take p s) ≡ p = simp length-take (omega arith) in
    let m : p + suc (length vs) ≡ suc p + length vs = omega arith in
    rw (e, add-one p, take-suc s p 0 b, append_assoc (take p s) (get_or s p 0 ∷ []) (vs ++ drop (suc p + length vs) s), set_at (take p s) (get_or s p 0) (vs ++ drop (suc p + length vs) s) v p n, m)

-- ---- moving a run up, from its end down

-- s, with the elements from `at + k` up to `at + len` moved up by `by`
unfoldable pub moved : List ℕ → ℕ → ℕ → ℕ → ℕ → List ℕ
moved s at len by k = splice s (at + by + k) (part (at + k) (len - k) s)

pub moved_start : (s : List ℕ) (at len by : ℕ) → s ≡ moved s at len by len
unfolding moved part
moved_start s at len by =
    let z : len - len ≡ 0 = omega arith in
    rw z (sym (splice_none s (at + by + len)))

pub moved_end : (s : List ℕ) (at len by k : ℕ) → k ≡ 0 → moved s at len by k ≡ splice s (at + by) (part at len s)
unfolding moved
moved_end s at len by k e = rw (e, add-zero (at + by), add-zero at, sub-zero len)

pub get_d_splice_before : (s : List ℕ) (at : ℕ) (vs : List ℕ) (i : ℕ) → i < at → at ≤ length s → get_or (splice s at vs) i 0 ≡ get_or s i 0
unfolding splice
get_d_splice_before s at vs i h k =
    rw (get_or-append (take at s) (vs ++ drop (at + length vs) s) 0 i (simp length-take (omega arith)), get_or-take at s i 0 h)

pub moved_step : (s : List ℕ) (at len by k j : ℕ) → k ≡ j + 1 → k ≤ len → at + len + by ≤ length s
    → set (moved s at len by k) (at + by + j) (get_or (moved s at len by k) (at + j) 0) ≡ moved s at len by j
unfolding moved part
moved_step s at len by k j e h r =
    let vs : List ℕ = take (len - k) (drop (at + k) s) in
    let g : get_or (splice s (at + by + k) vs) (at + j) 0 ≡ get_or s (at + j) 0 = get_d_splice_before s (at + by + k) vs (at + j) (omega arith) (omega arith) in
    let f : set (splice s (at + by + k) vs) (at + by + j) (get_or s (at + j) 0) ≡ splice s (at + by + j) (get_or s (at + j) 0 ∷ vs) = splice_front s (at + by + j) (at + by + k) (get_or s (at + j) 0) vs (omega arith) (omega arith) in
    let d : len - j ≡ suc (len - k) = omega arith in
    let m : at + k ≡ suc (at + j) = omega arith in
    rw (g, f, d, drop-cons s (at + j) 0 (omega arith), m)

-- a run moves up and another takes its place
pub gap : (A C z Z x : List ℕ) (p len w : ℕ) → length A ≡ p → length C ≡ len → length x ≡ w → length z ≡ w
    → splice (splice (A ++ (C ++ (z ++ Z))) (p + w) (part p len (A ++ (C ++ (z ++ Z))))) p x ≡ A ++ (x ++ (C ++ Z))
unfolding splice part
gap A C z Z x p len w a c e f =
    let B : List ℕ = A ++ (C ++ (z ++ Z)) in
    let m : take len (drop p B) ≡ C = rw (drop_at A (C ++ (z ++ Z)) p a) (take_at C (z ++ Z) len c) in
    let r : drop (p + w + length C) B ≡ Z
    = rw (sym (append_assoc C z Z), sym (append_assoc A (C ++ z) Z)) (drop_at (A ++ (C ++ z)) Z (p + w + length C) (simp length-append (omega arith))) in
    let lB : length B ≡ p + (len + (w + length Z)) = simp length-append (omega arith) in
    let n1 : length (take (p + w) B) ≡ p + w = simp length-take (omega arith) in
    let t : take p (take (p + w) B ++ (C ++ Z)) ≡ A
    = rw (take-append-le p (take (p + w) B) (C ++ Z) (omega arith)) up in
    let d : drop (p + length x) (take (p + w) B ++ (C ++ Z)) ≡ C ++ Z
    = drop_at (take (p + w) B) (C ++ Z) (p + length x) (omega arith) in
    rw (m, r, t, d)
  where
    up : take p (take (p + w) (A ++ (C ++ (z ++ Z)))) ≡ A
    up = rw (sym a, take-append-add A (C ++ (z ++ Z)) w) (take_at A (take w (C ++ (z ++ Z))) (length A) refl)
