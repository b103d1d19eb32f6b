-- Hashes laid down one after the other, and the write of them. Assumes nothing.
use mathlib.Core.Bool.{Bool, true, false, not, ◌||◌}
use Rattle.std.specs.Prelude.{Err}
use mathlib.Core.List.{List, [], ◌∷◌, ◌++◌, append-nil, append_assoc}
use mathlib.Core.Logic.{◌⊎◌, inl, inr}
use Rattle.std.specs.Prelude.{Option, None, Some}
use mathlib.Core.Path.{◌≡◌, refl, sym, ap, ◌∙◌}
use Prim.Native.Nat.{ℕ, zero, suc, ◌+◌, ◌*◌, ◌/◌, ◌%◌, ◌≤◌, ◌<◌, min}
use native.Mathlib.Omega.{arith}
use borrow.Author.Tests.{lt-ltb}
use lib.Dec.{eqb}
use lib.ListN.{length, take, drop, length-append}
use lib.Seq.{length-take-le, take-append-le, take-take}
use Rattle.json_text.proofs.WsLaws.{lt_or_ge}
use Rattle.rules.specs.declared.Content.{Content}
use Rattle.rules.specs.declared.Refusal.TheVariants.{BadId, BadPath}
use Rattle.rules.specs.declared.RevNumber.{RevNumber}
use Rattle.rules.specs.Bytes.{join}
use Rattle.rules.specs.Choice.{pick, first_that}
use Rattle.rules.specs.Read.{first_of}
use Rattle.rules.specs.Replica.{Id, Hash, Replica}
use Rattle.rules.specs.Room.{hash_size, hashes_most}
use Rattle.rules.specs.Write.{hashes, bad_id, bad_path, write_refusals, write}
use Rattle.rules.proofs.ByteLaws.{Sized, length-join, join_append, length-pieces}
use Rattle.octets.specs.Splice.{splice}
use Rattle.octets.proofs.SpliceLaws.{length-splice}
use Rattle.writes.specs.Path.{write_of}
use Rattle.takes.specs.Path.{laid_most, laid_room, Hashes, Laid}

as_sized : (hs : List Hash) → Hashes hs → Sized hash_size hs
as_sized [] k = tt
as_sized (h ∷ hs) k = (k.0, as_sized hs k.1)

hashes_more : (hs : List Hash) (h : Hash) → Hashes hs → length h ≡ hash_size → Hashes (hs ++ (h ∷ []))
hashes_more [] h k e = (e, tt)
hashes_more (x ∷ hs) h k e = (k.0, hashes_more hs h k.1 e)

-- ---- a splice and what stands before it

take-splice : (s : List ℕ) (at : ℕ) (vs : List ℕ) (n : ℕ) → at ≤ length s → n ≡ at + length vs → take n (splice s at vs) ≡ take at s ++ vs
unfolding splice
take-splice s at vs n h e =
    let k : length (take at s) ≡ at = length-take-le at s h in
    let m : n ≡ length (take at s ++ vs) = e ∙ sym (length-append (take at s) vs ∙ ap (λ (x : ℕ). x + length vs) k) in
    ap (λ (l : List ℕ). take n l) (sym (append_assoc (take at s) vs (drop (at + length vs) s)))
    ∙ (take-append-le n (take at s ++ vs) (drop (at + length vs) s) (omega arith) ∙ (ap (λ (x : ℕ). take x (take at s ++ vs)) m ∙ whole (take at s ++ vs)))
  where
    whole : (l : List ℕ) → take (length l) l ≡ l
    whole [] = refl
    whole (x ∷ l) = ap (λ (r : List ℕ). x ∷ r) (whole l)

take-before : (s : List ℕ) (at : ℕ) (vs : List ℕ) (n : ℕ) → n ≤ at → at ≤ length s → take n (splice s at vs) ≡ take n s
unfolding splice
take-before s at vs n h k =
    let e : length (take at s) ≡ at = length-take-le at s k in
    take-append-le n (take at s) (vs ++ drop (at + length vs) s) (omega arith) ∙ take-take n at s h

-- ---- laying down

pub laid_none : (path : List ℕ) → length path ≡ laid_room → Laid [] 0 path
unfolding join
laid_none path e = record {
  room = e;
  most = omega arith;
  sized = tt;
  «none_is» = λ k. refl;
  first = λ h k. absurd (no h k);
  held = inl (refl, refl);
}
  where
    no : (h : Hash) → ◌≡◌ {A = Option Hash} None (Some h) → ⊥
    no h k = let z : ◌≡◌ {A = ℕ} 0 1 = cc in omega arith

module _ (hs : List Hash) (n k : ℕ) (path after : List ℕ) (h : Hash)
    (l : Laid hs n path) (size : length h ≡ hash_size) (place : k ≡ min n hashes_most) (put : after ≡ splice path (k * hash_size) h) where
  small : k ≤ 512
  small = omega arith

  fits : k * hash_size + length h ≤ length path
  fits = let a = small in let r = l.room in omega arith

  next_first : (x : Hash) → first_of (hs ++ (h ∷ [])) ≡ Some x → take hash_size after ≡ x
  next_first x f = go hs refl l.held f
    where
      starts : k ≡ 0 → take hash_size after ≡ h
      starts z =
          let r = fits in
          ap (take hash_size) put ∙ take-splice path (k * hash_size) h hash_size (omega arith) (omega arith)
          ∙ ap (λ (i : ℕ). take (i * hash_size) path ++ h) z

      keeps : (y : Hash) → first_of hs ≡ Some y → 1 ≤ k → take hash_size after ≡ y
      keeps y g z =
          let r = fits in
          ap (take hash_size) put ∙ (take-before path (k * hash_size) h hash_size (omega arith) (omega arith) ∙ l.first y g)

      go : (ys : List Hash) → hs ≡ ys → ((length hs ≡ n) × (take (n * hash_size) path ≡ join hs)) ⊎ ((hashes_most < length hs) × (n ≡ laid_most))
          → first_of (ys ++ (h ∷ [])) ≡ Some x → take hash_size after ≡ x
      go [] e (inl p) g = let a : length hs ≡ 0 = ap length e in let b = p.0 in starts (omega arith) ∙ cc
      go [] e (inr p) g = let a : length hs ≡ 0 = ap length e in let b = p.0 in absurd (omega arith)
      go (y ∷ ys) e p g = keeps x (ap first_of e ∙ g) (positive n refl)
        where
          positive : (m : ℕ) → n ≡ m → 1 ≤ k
          positive zero q = let z : length hs ≡ 0 = ap length (l.«none_is» q) in let w : length hs ≡ suc (length ys) = ap length e in absurd (omega arith)
          positive (suc m) q = omega arith

  next_held : ((length hs ≡ n) × (take (n * hash_size) path ≡ join hs)) ⊎ ((hashes_most < length hs) × (n ≡ laid_most))
      → ((length (hs ++ (h ∷ [])) ≡ k + 1) × (take ((k + 1) * hash_size) after ≡ join (hs ++ (h ∷ [])))) ⊎ ((hashes_most < length (hs ++ (h ∷ []))) × (k + 1 ≡ laid_most))
  unfolding join
  next_held (inr p) = let a = p.0 in let b = p.1 in inr (simp length-append (omega arith), omega arith)
  next_held (inl p) = go (lt_or_ge n laid_most)
    where
      go : (n < laid_most) ⊎ (laid_most ≤ n)
          → ((length (hs ++ (h ∷ [])) ≡ k + 1) × (take ((k + 1) * hash_size) after ≡ join (hs ++ (h ∷ [])))) ⊎ ((hashes_most < length (hs ++ (h ∷ []))) × (k + 1 ≡ laid_most))
      go (inl m) =
          let a = p.0 in
          let e : k ≡ n = omega arith in
          let r = fits in
          let q : take ((k + 1) * hash_size) after ≡ take (k * hash_size) path ++ h
          = ap (take ((k + 1) * hash_size)) put ∙ take-splice path (k * hash_size) h ((k + 1) * hash_size) (omega arith) (omega arith) in
          let w : take (k * hash_size) path ≡ join hs = ap (λ (i : ℕ). take (i * hash_size) path) e ∙ p.1 in
          let u : join (hs ++ (h ∷ [])) ≡ join hs ++ h = join_append hs (h ∷ []) ∙ ap (λ (x : List ℕ). join hs ++ x) (append-nil h) in
          inl (simp length-append (omega arith), q ∙ (ap (λ (x : List ℕ). x ++ h) w ∙ sym u))
      go (inr m) = let a = p.0 in let b = l.most in inr (simp length-append (omega arith), omega arith)

  pub laid_more : Laid (hs ++ (h ∷ [])) (k + 1) after
  laid_more = record {
    room = ap length put ∙ (length-splice path (k * hash_size) h fits ∙ l.room);
    most = let a = small in omega arith;
    sized = hashes_more hs h l.sized size;
    «none_is» = λ z. absurd (omega arith);
    first = next_first;
    held = next_held l.held;
  }

-- one hash
pub laid_one : (path after : List ℕ) (h : Hash) → length path ≡ laid_room → length h ≡ hash_size → after ≡ splice path 0 h → Laid (h ∷ []) 1 after
laid_one path after h r e p = laid_more [] 0 0 path after h (laid_none path r) e (omega arith) p

-- ---- the write

module _ (r : Replica) (i : Id) (v : RevNumber) (c : Content) where
  bad_path_lem : (p : List ℕ) → hashes_most < length p / hash_size → bad_path (write_of i v p c) ≡ true
  unfolding bad_path hashes
  bad_path_lem p h = rw (length-pieces (length p / hash_size) hash_size p, lt-ltb hashes_most (length p / hash_size) h) (or (not (eqb (length p % hash_size) 0)) (eqb (length p / hash_size) 0))
    where
      or : (a b : Bool) → (a || (b || true)) ≡ true
      or true b = refl
      or false true = refl
      or false false = refl

  refused : (p : List ℕ) → bad_path (write_of i v p c) ≡ true → write r (write_of i v p c) ≡ pick (bad_id i) (Err BadId, r) (Err BadPath, r)
  unfolding write write_refusals first_that
  refused p f = go (bad_id i) refl
    where
      go : (a : Bool) → bad_id i ≡ a → write r (write_of i v p c) ≡ pick a (Err BadId, r) (Err BadPath, r)
      go true e = rw e
      go false e = rw (e, f)

  pub laid_write : {hs : List Hash} {n : ℕ} {path : List ℕ} → Laid hs n path → write r (write_of i v (take (n * hash_size) path) c) ≡ write r (write_of i v (join hs) c)
  laid_write {hs} {n} {path} l = go l.held
    where
      go : ((length hs ≡ n) × (take (n * hash_size) path ≡ join hs)) ⊎ ((hashes_most < length hs) × (n ≡ laid_most))
          → write r (write_of i v (take (n * hash_size) path) c) ≡ write r (write_of i v (join hs) c)
      go (inl p) = ap (λ (x : List ℕ). write r (write_of i v x c)) p.1
      go (inr p) =
          let a = p.0 in
          let b = p.1 in
          let d = l.room in
          let m : length (take (n * hash_size) path) ≡ n * hash_size = length-take-le (n * hash_size) path (omega arith) in
          let k : length (join hs) ≡ length hs * hash_size = length-join hash_size hs (as_sized hs l.sized) in
          refused (take (n * hash_size) path) (bad_path_lem (take (n * hash_size) path) (omega arith))
          ∙ sym (refused (join hs) (bad_path_lem (join hs) (omega arith)))
