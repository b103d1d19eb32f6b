-- Laws of the literal names. Assumes nothing.
use mathlib.Core.Path.{◌≡◌, refl, sym, ap, ◌∙◌}
use lib.Dec.{eqb}
use Rattle.std.specs.List.{starts_with}
use lib.Pointwise.{bytes_decides}
use Rattle.std.proofs.lemmas.List.{drop-drop, take-append-drop}
use Rattle.std.proofs.Math.Seq.{take-append_seam, drop-append_seam}
use Rattle.std.specs.Prelude.{Option}
use mathlib.Core.List.{List, [], ◌∷◌, ◌++◌}
use mathlib.Core.Bool.{true, false, true≢false}
use mathlib.Core.Logic.{◌⊎◌, inl, inr}
use Prim.Native.Nat.{ℕ, ◌+◌, ◌-◌, ◌≤◌, ◌<◌}
use native.Mathlib.Omega.{arith}
use lib.ListN.{length, get_or, take, drop, length-append, length-drop}
use Rattle.json_text.specs.Grammar.{Rule, byte, ◌then◌, ◌or◌, literal}
use Rattle.json_text.specs.Skips.{EndsAt, NoText, Skips, spelling}
use Rattle.json_text.proofs.WsLaws.{stands, at_byte, byte_at, tail_eq}
use Rattle.json_text.proofs.ScalarLaws.{skips_same}
use Rattle.json_text.proofs.StepLaws.{skips_runs}

pub byte_next : (s : List ℕ) (i c : ℕ) (a : List ℕ) → drop i s ≡ c ∷ a → 0 < c → a ≡ drop (i + 1) s
byte_next s i c a e h = tail_eq (sym e ∙ at_byte s i c (byte_at s i c a e) h)

unfoldable pub Word : ℕ → ℕ → ℕ → ℕ → Rule
Word a b c d = byte a then byte b then byte c then byte d

-- a text that begins with these bytes
begins : (w p : List ℕ) → starts_with eqb p w ≡ true → p ≡ w ++ drop (length w) p
begins w p e =
    let t : w ≡ take (length w) p = (bytes_decides w (take (length w) p)).0 e in
    sym (take-append-drop (length w) p) ∙ ap (λ (z : List ℕ). z ++ drop (length w) p) (sym t)

begins_with : (w r : List ℕ) → starts_with eqb (w ++ r) w ≡ true
begins_with w r = (bytes_decides w (take (length w) (w ++ r))).1 (sym (take-append_seam w r))

spells : (w r : List ℕ) → spelling w (w ++ r) r
unfolding byte ◌then◌
spells [] r = refl
spells (c ∷ []) r = refl
spells (c ∷ d ∷ w) r = (_, (refl, spells (d ∷ w) r))

spelt : (w a r : List ℕ) → spelling w a r → a ≡ w ++ r
unfolding byte ◌then◌
spelt [] a r e = e
spelt (c ∷ []) a r e = e
spelt (c ∷ d ∷ w) a r (b, (e, p)) = rw (spelt (d ∷ w) b r p) at e

module _ (s : List ℕ) (at : ℕ) (w p : List ℕ) (here : p ≡ drop at s) where
  pub word_ends : at ≤ length s → starts_with eqb p w ≡ true → EndsAt (spelling w) s at (at + length w)
  word_ends h e =
      let b : drop at s ≡ w ++ drop (length w) (drop at s) = begins w (drop at s) (rw here at e) in
      let z : drop at s ≡ w ++ drop (at + length w) s = rw drop-drop at b in
      let l : length s - at ≡ length w + (length s - (at + length w)) = simp (length-append, length-drop) at (ap length z) in
      record {
        from = omega arith;
        within = omega arith;
        is = rw z (spells w (drop (at + length w) s));
        only = λ r q f. sym (drop-append_seam w r) ∙ (ap (drop (length w)) (sym (spelt w (drop at s) r q) ∙ z) ∙ drop-append_seam w (drop (at + length w) s));
      }

  pub word_wrong : starts_with eqb p w ≡ false → NoText (spelling w) s at
  unfolding NoText
  word_wrong e r q z =
      let k : p ≡ w ++ r = here ∙ spelt w (drop at s) r q in
      true≢false (sym (begins_with w r) ∙ (ap (λ (x : List ℕ). starts_with eqb x w) (sym k) ∙ e))

module _ (s : List ℕ) (at : ℕ) where
  lit_byte : (c : ℕ) (r : List ℕ) (Q : Rule) → (byte c then Q) (drop at s) r → get_or s at 0 ≡ c
  unfolding ◌then◌ byte
  lit_byte c r Q (x, (e, q)) = byte_at s at c x e

  pub lit_false : get_or s at 0 ≡ 102 → (x : Option ℕ) → Skips (Word 97 108 115 101) s (at + 1) x → Skips literal s at x
  lit_false e x h = skips_runs literal (Word 97 108 115 101) s at (at + 1) (record { from = omega arith; to = λ r p z. go r p; back = λ r p. back r p }) x h
    where
      go : (r : List ℕ) → literal (drop at s) r → Word 97 108 115 101 (drop (at + 1) s) r
      go r p = unfold literal ◌or◌ in split p
        where
          split : ((byte 102 then byte 97 then byte 108 then byte 115 then byte 101) (drop at s) r)
              ⊎ (((byte 110 then byte 117 then byte 108 then byte 108) (drop at s) r) ⊎ ((byte 116 then byte 114 then byte 117 then byte 101) (drop at s) r))
              → Word 97 108 115 101 (drop (at + 1) s) r
          split (inl q) = unfold Word ◌then◌ byte in
              let n : q.0 ≡ drop (at + 1) s = byte_next s at 102 q.0 q.1.0 (omega arith) in rw n at q.1.1
          split (inr (inl q)) = let k = lit_byte 110 r _ q in absurd (omega arith)
          split (inr (inr q)) = let k = lit_byte 116 r _ q in absurd (omega arith)

      back : (r : List ℕ) → Word 97 108 115 101 (drop (at + 1) s) r → literal (drop at s) r
      back r p = unfold Word literal ◌or◌ ◌then◌ byte in inl (drop (at + 1) s, (at_byte s at 102 e (omega arith), p))

  pub lit_null : get_or s at 0 ≡ 110 → (x : Option ℕ) → Skips (Word 110 117 108 108) s at x → Skips literal s at x
  unfolding literal ◌or◌ Word
  lit_null e x h = skips_same (Word 110 117 108 108) literal s at (λ r p. inr (inl p)) (λ r p. go r p) x h
    where
      go : (r : List ℕ) → literal (drop at s) r → Word 110 117 108 108 (drop at s) r
      go r (inl q) = let k = lit_byte 102 r _ q in absurd (omega arith)
      go r (inr (inl q)) = q
      go r (inr (inr q)) = let k = lit_byte 116 r _ q in absurd (omega arith)

  pub lit_true : (get_or s at 0 ≡ 102 → ⊥) → (get_or s at 0 ≡ 110 → ⊥) → (x : Option ℕ) → Skips (Word 116 114 117 101) s at x → Skips literal s at x
  unfolding literal ◌or◌ Word
  lit_true f n x h = skips_same (Word 116 114 117 101) literal s at (λ r p. inr (inr p)) (λ r p. go r p) x h
    where
      go : (r : List ℕ) → literal (drop at s) r → Word 116 114 117 101 (drop at s) r
      go r (inl q) = absurd (f (lit_byte 102 r _ q))
      go r (inr (inl q)) = absurd (n (lit_byte 110 r _ q))
      go r (inr (inr q)) = q
