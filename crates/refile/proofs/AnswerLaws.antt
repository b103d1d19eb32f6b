-- Numbers of four bytes, written one after the other to the front of an answer buffer. Assumes nothing.
use mathlib.Core.Path.{◌≡◌, refl, sym, ap, ◌∙◌}
use mathlib.Core.List.{List, [], ◌∷◌, ◌++◌, append_assoc, append-nil}
use Prim.Native.Nat.{ℕ, ◌+◌, ◌*◌, ◌%◌, ◌≤◌, ◌<◌}
use native.Mathlib.Numerals.{add-one}
use native.Mathlib.Omega.{arith}
use borrow.Author.Tests.{lt-ltb, le-ltb}
use lib.Dec.{ltb}
use lib.ListN.{length, get_or, take, length-append, length-take}
use lib.Seq.{take-suc, take-length}
use Rattle.rules.specs.Bytes.{be}
use Rattle.rules.specs.Choice.{pick}
use Rattle.rules.specs.Read.{front}
use Rattle.rules.proofs.ByteLaws.{length-be}
use Rattle.octets.specs.Splice.{splice}
use Rattle.octets.proofs.SpliceLaws.{chain, length-splice}
use Rattle.reads.proofs.AnswerLaws.{front_splice}
use Rattle.refile.specs.Boundary.{numbers}

numbers_more : (ns : List ℕ) (v : ℕ) → numbers (ns ++ (v ∷ [])) ≡ numbers ns ++ be 4 v
unfolding numbers
numbers_more [] v = append-nil (be 4 v)
numbers_more (n ∷ ns) v = rw (numbers_more ns v) (sym (append_assoc (be 4 n) (numbers ns) (be 4 v)))

length-numbers : (ns : List ℕ) → length (numbers ns) ≡ 4 * length ns
unfolding numbers
length-numbers [] = refl
length-numbers (n ∷ ns) = let h = length-numbers ns in simp (length-append, length-be) (omega arith)

-- four bytes hold what is below 2^32
be_low : (n : ℕ) → be 4 (n % 4294967296) ≡ be 4 n
unfolding be
be_low n = four (omega arith) (omega arith) (omega arith) (omega arith)
  where
    four : {a b c d w x y z : ℕ} → a ≡ w → b ≡ x → c ≡ y → d ≡ z → a ∷ b ∷ c ∷ d ∷ [] ≡ w ∷ x ∷ y ∷ z ∷ []
    four p q r s = λ i. p i ∷ q i ∷ r i ∷ s i ∷ []

-- ---- the loop that writes them

-- a buffer keeps its length while a number is put
pub put_length : (s t : List ℕ) (at v : ℕ) → t ≡ splice s at (be 4 v) → at + 4 ≤ length s → length t ≡ length s
put_length s t at v e h = rw e (length-splice s at (be 4 v) (rw (length-be 4 v) h))

pub put_none : (before : List ℕ) → before ≡ front (numbers []) before
unfolding front numbers
put_none before = refl

-- one number behind others
put_next : (ns : List ℕ) (s t u : List ℕ) (at v : ℕ) → t ≡ front (numbers ns) s → u ≡ splice t at (be 4 v)
    → at ≡ 4 * length ns → at + 4 ≤ length s → u ≡ front (numbers (ns ++ (v ∷ []))) s
put_next ns s t u at v e f p h =
    let n : length (numbers ns) ≡ 4 * length ns = length-numbers ns in
    let b : length (be 4 v) ≡ 4 = length-be 4 v in
    let g : t ≡ splice s 0 (numbers ns) = e ∙ sym (front_splice (numbers ns) s) in
    let k : splice t at (be 4 v) ≡ splice s 0 (numbers ns ++ be 4 v)
    = rw g (chain s (numbers ns) (be 4 v) 0 at (omega arith) (omega arith)) in
    f ∙ (k ∙ rw (numbers_more ns v) (front_splice (numbers ns ++ be 4 v) s))

module _ (ns before out : List ℕ) (i : ℕ) where
  pub put_more : (v : ℕ) (after : List ℕ) → i < length ns → 4 * length ns ≤ length before → out ≡ front (numbers (take i ns)) before
      → v ≡ get_or ns i 0 % 4294967296 → after ≡ splice out (4 * i) (be 4 v) → after ≡ front (numbers (take (i + 1) ns)) before
  put_more v after h room e g w =
      let n : length (take i ns) ≡ i = simp length-take (omega arith) in
      let b : be 4 v ≡ be 4 (get_or ns i 0) = ap (be 4) g ∙ be_low (get_or ns i 0) in
      rw (add-one i, take-suc ns i 0 h)
      (put_next (take i ns) before out after (4 * i) (get_or ns i 0) e (w ∙ ap (λ (l : List ℕ). splice out (4 * i) l) b) (ap (λ (k : ℕ). 4 * k) (sym n)) (omega arith))

  pub put_all : i ≡ length ns → out ≡ front (numbers (take i ns)) before → out ≡ front (numbers ns) before
  put_all e f =
      let a : take i ns ≡ ns = rw e (take-length ns) in
      f ∙ ap (λ (l : List ℕ). front (numbers l) before) a

-- ---- an answer buffer that is too short, and one that is not

pub short_answer_lem : {A : Type 0} (x y : A) (ns answer : List ℕ) → length answer < 4 * length ns → pick (ltb (length answer) (length (numbers ns))) x y ≡ x
short_answer_lem x y ns answer h = rw (length-numbers ns, lt-ltb (length answer) (4 * length ns) h)

pub room_answer : {A : Type 0} (x y : A) (ns answer : List ℕ) → 4 * length ns ≤ length answer → pick (ltb (length answer) (length (numbers ns))) x y ≡ y
room_answer x y ns answer h = rw (length-numbers ns, le-ltb (length answer) (4 * length ns) h)
