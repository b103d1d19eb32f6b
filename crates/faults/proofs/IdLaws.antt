-- The id of an entry, and what fills it, where they stand in the image. Assumes nothing.
use mathlib.Core.Path.{◌≡◌, refl, sym, ap, ap₂, ◌∙◌}
use mathlib.Core.Bool.{Bool, true, false, ◌&&◌}
use mathlib.Core.List.{List, [], ◌∷◌, ◌++◌}
use Prim.Native.Nat.{ℕ, suc, ◌+◌, ◌-◌, ◌≤◌}
use native.Mathlib.Omega.{arith}
use lib.Dec.{eqb}
use lib.ListN.{length, get_or, take, drop, length-take, length-drop}
use lib.Seq.{take_all, take-suc, get_or-drop}
use Rattle.rules.specs.Bytes.{part, all_zero}
use Rattle.rules.specs.Layout.{entry_of, entry_size, id_in, entry_zero_in, count_in}
use Rattle.rules.specs.Room.{id_most}
use Rattle.rules.proofs.ByteLaws.{part-part}
use Rattle.layout.specs.Fields.{entry_place}
use Rattle.layout.proofs.FieldLaws.{get_d_part}
use Rattle.faults.specs.Places.{entry_at}

drop-part : (m k n : ℕ) (s : List ℕ) → m ≤ n → drop m (part k n s) ≡ part (k + m) (n - m) s
unfolding part
drop-part m k n s h = sym (rest (part k n s) (most k n s)) ∙ part-part m (n - m) k n s (omega arith)
  where
    most : (k n : ℕ) (s : List ℕ) → length (part k n s) ≤ n
    most k n s = simp length-take (omega arith)

    rest : (l : List ℕ) → length l ≤ n → part m (n - m) l ≡ drop m l
    rest l q = take_all (n - m) (drop m l) (simp length-drop (omega arith))

module _ (i : ℕ) (s : List ℕ) where
  entry_fill : (entry_at i s).size ≤ id_most
      → (entry_at i s).fill ≡ part (entry_place i + id_in + (entry_at i s).size) (id_most - (entry_at i s).size) s
  unfolding entry_of
  entry_fill h = ap (drop (get_or (part (entry_place i) entry_size s) 0 0)) (part-part id_in id_most (entry_place i) entry_size s (omega arith)) ∙ drop-part _ (entry_place i + id_in) id_most s h

-- ---- what fills an id, and the byte after it, which is zero

zeros_append : (a : List ℕ) (b : ℕ) → all_zero (a ++ (b ∷ [])) ≡ (all_zero a && eqb b 0)
unfolding all_zero
zeros_append [] b = go (eqb b 0)
  where
    go : (x : Bool) → (x && true) ≡ x
    go true = refl
    go false = refl
zeros_append (c ∷ a) b = go (eqb c 0) (all_zero a) (eqb b 0) (zeros_append a b)
  where
    go : (x y z : Bool) {w : Bool} → w ≡ (y && z) → (x && w) ≡ ((x && y) && z)
    go true y z e = e
    go false y z e = refl

module _ (i : ℕ) (s : List ℕ) where
  abbrev filled : Bool
  filled = all_zero (entry_at i s).fill && eqb (entry_at i s).zero 0

  -- as a slice from a to e
  pub fill_slice : (a e : ℕ) → entry_place i + entry_size ≤ length s → (entry_at i s).size ≤ id_most
      → a ≡ entry_place i + id_in + (entry_at i s).size → e ≡ entry_place i + count_in → all_zero (take (e - a) (drop a s)) ≡ filled
  unfolding part entry_of
  fill_slice a e w m pa pe =
      let j : ℕ = id_most - (entry_at i s).size in
      let k : e - a ≡ suc j = omega arith in
      let p : a + j ≡ entry_place i + entry_zero_in = omega arith in
      let f : take j (drop a s) ≡ (entry_at i s).fill = ap (λ (n : ℕ). take j (drop n s)) pa ∙ sym (entry_fill i s m) in
      let z : get_or (drop a s) j 0 ≡ (entry_at i s).zero =
      get_or-drop a s j 0 ∙ (ap (λ (n : ℕ). get_or s n 0) p ∙ sym (get_d_part (entry_place i) entry_size entry_zero_in s (omega arith))) in
      ap (λ (n : ℕ). all_zero (take n (drop a s))) k
      ∙ (ap all_zero (take-suc (drop a s) j 0 (simp length-drop (omega arith)))
      ∙ (ap₂ (λ (x : List ℕ) (y : ℕ). all_zero (x ++ (y ∷ []))) f z ∙ zeros_append (entry_at i s).fill (entry_at i s).zero))
