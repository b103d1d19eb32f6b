-- What a walk over bytes in chunks of one size knows: how many chunks it has behind it, and what lies ahead. Assumes nothing.
use mathlib.Core.Path.{◌≡◌, sym, ap, ◌∙◌}
use mathlib.Core.List.{List, ◌++◌}
use Prim.Native.Nat.{ℕ, ◌+◌, ◌-◌, ◌*◌, ◌/◌, ◌≤◌, ◌<◌}
use native.Mathlib.Nat.{zero-mul}
use native.Mathlib.Omega.{arith}
use lib.ListN.{length, take, drop, length-append, length-drop}
use lib.Seq.{take_at, drop_at, drop-drop}
use Rattle.std.proofs.lemmas.Nat.{div-mul-add}
use Rattle.rules.specs.Bytes.{part}

-- i chunks of w of the bytes s are behind, and the rest is ahead
pub record Walked (w : ℕ) (s : List ℕ) (i size : ℕ) (rest : List ℕ) : Type 0 where
  pub same : size ≡ w
  pub is : rest ≡ drop (i * w) s
  pub within : i * w ≤ length s

pub walk_begins : (w : ℕ) (s : List ℕ) {i size : ℕ} {rest : List ℕ} → i ≡ 0 → size ≡ w → rest ≡ s → Walked w s i size rest
walk_begins w s e f g = rw e (record { same = f; is = rw (zero-mul w) g; within = rw (zero-mul w) (omega arith) })

module _ {w : ℕ} {s : List ℕ} {i size : ℕ} {rest : List ℕ} (h : Walked w s i size rest) where
  module _ (x rest' : List ℕ) (is : rest ≡ x ++ rest') (long : length x ≡ size) where
    pub chunk_is : x ≡ part (i * w) w s
    unfolding part
    chunk_is = sym (ap (take w) (sym h.is ∙ is) ∙ take_at x rest' w (long ∙ h.same))

    pub chunk_within : i * w + w ≤ length s
    chunk_within =
        let l = simp length-append at (ap length is) in
        let m = simp length-drop at (ap length h.is) in
        let n = h.within in
        let e = h.same in
        omega arith

    pub walk_goes_on : {j size' : ℕ} → j ≡ i + 1 → size' ≡ size → Walked w s j size' rest'
    walk_goes_on e f = rw e (record {
      same = f ∙ h.same;
      is =
          sym (drop_at x rest' w (long ∙ h.same))
          ∙ (ap (drop w) (sym is ∙ h.is) ∙ (drop-drop w (i * w) s ∙ ap (λ (j : ℕ). drop j s) (omega arith)));
      within = let l = chunk_within in omega arith;
    })

  pub walk_ends : length rest < size → i ≡ length s / w
  walk_ends l =
      let m = simp length-drop at (ap length h.is) in
      let n = h.within in
      let e = h.same in
      let b = length s - i * w in
      let all : length s ≡ i * w + b = omega arith in
      sym (ap (λ (k : ℕ). k / w) all ∙ div-mul-add i w b (omega arith))
