-- Laws of places: where a text stands is one place. Assumes nothing.
use mathlib.Core.Path.{◌≡◌, refl, ap, ◌∙◌}
use Rattle.std.specs.Prelude.{Option, None, Some}
use mathlib.Core.List.{List, [], ◌∷◌}
use mathlib.Core.Logic.{◌⊎◌, inl, inr}
use mathlib.Core.Bool.{Bool, true, false}
use Prim.Native.Nat.{ℕ, suc, ◌≤◌, ◌<◌}
use native.Mathlib.Omega.{arith}
use lib.ListN.{length, get_or, drop, length-drop, drop_of_length-le}
use lib.Seq.{drop-cons}
use Rattle.json_text.specs.Grammar.{Rule, byte, ◌or◌, white, ws}
use Rattle.json_text.specs.Skips.{WsTo, Here, Follow, Ends, EndsAt, NoText, Skips, WholeAt, Placed, Not, OnlyAt, Exact, Whether}
use Rattle.json_text.proofs.WsLaws.{at_byte, ws_only, white_ends}

-- two places with the same bytes after them are one
pub same_place : (s : List ℕ) (d e : ℕ) → d ≤ length s → e ≤ length s → drop d s ≡ drop e s → d ≡ e
same_place s d e h k q = omega (arith, simp length-drop at (ap length q))

pub ws_place : (s : List ℕ) (at d e : ℕ) → WsTo s at d → WsTo s at e → d ≡ e
unfolding ws
ws_place s at d e p q = same_place s d e p.within q.within (ws_only p.is p.all q.is q.all)

pub only_place : (P : Rule) (s : List ℕ) (at d e : ℕ) → OnlyAt P s at d → OnlyAt P s at e → d ≡ e
only_place P s at d e p q = same_place s d e p.within q.within (q.only _ p.is)

pub whole_place : (P : Rule) (s : List ℕ) (at d e : ℕ) → WholeAt P s at d → WholeAt P s at e → d ≡ e
whole_place P s at d e p q =
    same_place s d e p.text.within q.text.within (q.text.only _ p.text.is p.ends)

-- what is promised of an answer leaves one
pub exact_one_answer : (P : Rule) (s : List ℕ) (at : ℕ) (x y : Option ℕ) → Exact P s at x → Exact P s at y → x ≡ y
unfolding Not
exact_one_answer P s at (Some d) (Some e) p q = ap Some (only_place P s at d e p q)
exact_one_answer P s at (Some d) None p q = absurd (q _ p.is)
exact_one_answer P s at None (Some e) p q = absurd (p _ q.is)
exact_one_answer P s at None None p q = refl

pub placed_one_answer : (P : Rule) (s : List ℕ) (at : ℕ) (x y : Option ℕ) → Placed P s at x → Placed P s at y → x ≡ y
unfolding NoText
placed_one_answer P s at (Some d) (Some e) p q = ap Some (whole_place P s at d e p q)
placed_one_answer P s at (Some d) None p q = absurd (q _ p.text.is p.ends)
placed_one_answer P s at None (Some e) p q = absurd (p _ q.text.is q.ends)
placed_one_answer P s at None None p q = refl

pub whether_one_answer : (P : Type 0) (x y : Bool) → Whether P x → Whether P y → x ≡ y
whether_one_answer P true true p q = refl
whether_one_answer P true false p q = absurd (q p)
whether_one_answer P false true p q = absurd (p q)
whether_one_answer P false false p q = refl

-- an answer and what follows it
pub placed_skips : (P : Rule) (s : List ℕ) (at : ℕ) (x : Option ℕ) → Placed P s at x → Skips P s at x
placed_skips P s at (Some e) p = p.text
placed_skips P s at None p = p

pub placed_yes : (P : Rule) (s : List ℕ) (at e : ℕ) (x : Option ℕ) (b : Bool) → Skips P s at x → x ≡ Some e → Whether (Ends (drop e s)) b → b ≡ true → WholeAt P s at e
placed_yes P s at e x b h q w k = record { text = rw q at h; ends = rw k at w }

pub placed_no : (P : Rule) (s : List ℕ) (at e : ℕ) (x : Option ℕ) (b : Bool) → Skips P s at x → x ≡ Some e → Whether (Ends (drop e s)) b → b ≡ false → NoText P s at
unfolding NoText
placed_no P s at e x b h q w k r p z =
    let t : EndsAt P s at e = rw q at h in
    let f : Ends (drop e s) → ⊥ = rw k at w in
    f (rw (t.only r p z) at z)

pub placed_wrong : (P : Rule) (s : List ℕ) (at : ℕ) (x : Option ℕ) → Skips P s at x → x ≡ None → NoText P s at
placed_wrong P s at x h q = rw q at h

-- whether a value can end here
pub ends_past : (s : List ℕ) (i : ℕ) → length s ≤ i → Ends (drop i s)
unfolding Ends
ends_past s i h = let e : drop i s ≡ [] = drop_of_length-le s h in rw e tt

module _ (s : List ℕ) (i : ℕ) where
  ends_byte : (c : ℕ) → get_or s i 0 ≡ c → 0 < c → Follow c → Ends (drop i s)
  unfolding Ends
  ends_byte c e h f = rw (at_byte s i c e h) f

  pub ends_any : (get_or s i 0 ≡ 44) ⊎ ((get_or s i 0 ≡ 125) ⊎ ((get_or s i 0 ≡ 93) ⊎ (get_or s i 0 ≡ 58))) → Ends (drop i s)
  unfolding Follow
  ends_any (inl e) = ends_byte 44 e (omega arith) (inr (inr (inr (inr (inl refl)))))
  ends_any (inr (inl e)) = ends_byte 125 e (omega arith) (inr (inr (inr (inr (inr (inr (inl refl)))))))
  ends_any (inr (inr (inl e))) = ends_byte 93 e (omega arith) (inr (inr (inr (inr (inr (inl refl))))))
  ends_any (inr (inr (inr e))) = ends_byte 58 e (omega arith) (inr (inr (inr (inr (inr (inr (inr refl)))))))

  -- the byte here, where a value can end
  ends_follow : i < length s → Ends (drop i s) → Follow (get_or s i 0)
  unfolding Ends
  ends_follow h z = rw (drop-cons s i 0 h) at z

  pub ends_else : i < length s → (get_or s i 0 ≡ 44 → ⊥) → (get_or s i 0 ≡ 125 → ⊥) → (get_or s i 0 ≡ 93 → ⊥) → (get_or s i 0 ≡ 58 → ⊥)
      → (b : Bool) → Here white s i b → Whether (Ends (drop i s)) b
  unfolding Follow Not white ◌or◌ byte
  ends_else h f g k l true w = white_ends _ _ w.1
  ends_else h f g k l false w = λ z. go (ends_follow h z)
    where
      here : (c : ℕ) → get_or s i 0 ≡ c → drop i s ≡ c ∷ drop (suc i) s
      here c e = drop-cons s i 0 h ∙ rw e refl

      go : Follow (get_or s i 0) → ⊥
      go (inl e) = w _ (inl (here 32 e))
      go (inr (inl e)) = w _ (inr (inl (here 9 e)))
      go (inr (inr (inl e))) = w _ (inr (inr (inl (here 10 e))))
      go (inr (inr (inr (inl e)))) = w _ (inr (inr (inr (here 13 e))))
      go (inr (inr (inr (inr (inl e))))) = f e
      go (inr (inr (inr (inr (inr (inl e)))))) = k e
      go (inr (inr (inr (inr (inr (inr (inl e))))))) = g e
      go (inr (inr (inr (inr (inr (inr (inr e))))))) = l e
