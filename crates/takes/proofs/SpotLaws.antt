-- Laws of spots: one member more, and what all of them are at the end. Assumes nothing.
use mathlib.Core.Bool.{Bool, true, false, true≢false}
use mathlib.Core.List.{List, [], ◌∷◌, ◌++◌, append-nil}
use mathlib.Core.Logic.{◌⊎◌, inl, inr}
use mathlib.Core.Path.{◌≡◌, refl, sym, ap, ◌∙◌, subst}
use Rattle.std.specs.Prelude.{Option, None, Some}
use Prim.Native.Nat.{ℕ, ◌<◌}
use Prim.Native.String.{String}
use native.Mathlib.Omega.{arith}
use borrow.Author.Tests.{eq-eqb, eqb-true, eqb-false}
use lib.Dec.{eqb}
use lib.ListN.{length, get_or, set, length-set}
use lib.Seq.{get_or-set_same, get_or-set_other}
use Rattle.rules.specs.Choice.{pick}
use Rattle.json_text.specs.Members.{Json}
use Rattle.lines.specs.Said.{is_name, named}
use Rattle.takes.specs.declared.Spot.{Spot}
use Rattle.takes.specs.declared.Spot.TheVariants.{Absent, Once, Repeated}
use Rattle.fields.specs.declared.Name.{Name}
use Rattle.fields.specs.declared.Name.TheVariants.{Id, Rev, Revisions, Deleted, Label, Start, Ids}
use Rattle.fields.specs.contracts.Name.{the_type}
use denote.Enum.Declared.{tag_of}
use Rattle.fields.specs.Fields.{word, place, is_place, name_at}
use Rattle.fields.proofs.NameLaws.{place_same, is_name_lem}
use Rattle.takes.specs.Spots.{ValueAt, SpotIs, Spots, spot, SpotsAre, one_more, see_at, no_spots}

-- ---- one member more

-- what a match tells past the arm of `Once`
pub not_once : (p : Spot) → ((v e : ℕ) → p ≡ Once v e → ⊥) → (p ≡ Absent) ⊎ (p ≡ Repeated)
not_once Absent k = inl refl
not_once (Once v e) k = absurd (k v e refl)
not_once Repeated k = inr refl

named_more : {A : Type 0} (n : String) (ms : List (List ℕ × A)) (m : List ℕ × A)
    → named n (ms ++ (m ∷ [])) ≡ named n ms ++ pick (is_name n m.0) (m.1 ∷ []) []
unfolding named
named_more n [] m = refl
named_more {A} n (x ∷ ms) m = go (is_name n x.0) (named_more n ms m)
  where
    go : (b : Bool) → named n (ms ++ (m ∷ [])) ≡ named n ms ++ pick (is_name n m.0) (m.1 ∷ []) []
        → pick b (x.1 ∷ named n (ms ++ (m ∷ []))) (named n (ms ++ (m ∷ []))) ≡ pick b (x.1 ∷ named n ms) (named n ms) ++ pick (is_name n m.0) (m.1 ∷ []) []
    go true e = ap (λ (l : List A). x.1 ∷ l) e
    go false e = e

-- a value from v to e seen, of that name or of another
abbrev pub seen_at : Spot → Bool → ℕ → ℕ → Spot
seen_at p hit v e = pick hit (one_more p v e) p

module _ {d : ℕ} {s : List ℕ} {j : Json d} {v e : ℕ} (a : ValueAt d j s v e) where
  spot_more : (vs : List (Json d)) (p : Spot) (hit : Bool) → SpotIs d s vs p → SpotIs d s (vs ++ pick hit (j ∷ []) []) (seen_at p hit v e)
  spot_more vs p false h = rw append-nil h
  spot_more vs Absent true h = (j, ap (λ (l : List (Json d)). l ++ (j ∷ [])) h, a)
  spot_more vs (Once x y) true h = (h.0, j, [], ap (λ (l : List (Json d)). l ++ (j ∷ [])) h.1)
  spot_more vs Repeated true h = (h.0, h.1, h.2 ++ (j ∷ []), ap (λ (l : List (Json d)). l ++ (j ∷ [])) h.3)

place_small : (n : Name) → place n < 7
place_small Id = omega arith
place_small Rev = omega arith
place_small Revisions = omega arith
place_small Deleted = omega arith
place_small Label = omega arith
place_small Start = omega arith
place_small Ids = omega arith

-- a name as a number is its place
pub tag_place : (n : Name) → tag_of the_type n ≡ place n
tag_place Id = refl
tag_place Rev = refl
tag_place Revisions = refl
tag_place Deleted = refl
tag_place Label = refl
tag_place Start = refl
tag_place Ids = refl

pub at_place : (n : Name) (k : Option Name) → is_place (place n) k ≡ true → k ≡ Some n
at_place n None e = absurd (true≢false (sym e))
at_place n (Some m) e = ap Some (sym (place_same n m (eqb-true (place n) (place m) e)))

pub not_at_place : (n : Name) (k : Option Name) → is_place (place n) k ≡ false → k ≡ Some n → ⊥
not_at_place n k e f = true≢false (sym (eq-eqb (place n) (place n) refl) ∙ rw f at e)

pub spot_seen : (p : Spots) (n : Name) (k : Option Name) (v e : ℕ) → length p ≡ 7 → spot (see_at p k v e) n ≡ seen_at (spot p n) (is_place (place n) k) v e
unfolding see_at
spot_seen p n None v e l = refl
spot_seen p n (Some m) v e l = go (eqb (place n) (place m)) refl
  where
    go : (b : Bool) → eqb (place n) (place m) ≡ b → get_or (set p (place m) (one_more (spot p m) v e)) (place n) Absent ≡ pick b (one_more (spot p n) v e) (spot p n)
    go true q =
        let i : n ≡ m = place_same n m (eqb-true (place n) (place m) q) in
        let h = place_small m in
        rw i (get_or-set_same p (place m) (one_more (spot p m) v e) Absent (omega arith))
    go false q = get_or-set_other p (place m) (place n) (one_more (spot p m) v e) Absent (eqb-false (place n) (place m) q)

pub spot_none : (n : Name) → spot no_spots n ≡ Absent
spot_none Id = refl
spot_none Rev = refl
spot_none Revisions = refl
spot_none Deleted = refl
spot_none Label = refl
spot_none Start = refl
spot_none Ids = refl

pub spots_none : (d : ℕ) (s : List ℕ) → SpotsAre d s [] no_spots
spots_none d s = record { size = refl; are = λ n. rw (spot_none n) (unfold named in refl) }

size_more : (p : Spots) (k : Option Name) (v e : ℕ) → length p ≡ 7 → length (see_at p k v e) ≡ 7
unfolding see_at
size_more p None v e l = l
size_more p (Some m) v e l = simp length-set l

pub spots_more : {d : ℕ} {s : List ℕ} {ms : List (List ℕ × Json d)} {p : Spots} (m : List ℕ × Json d) {v e : ℕ} {k : Option Name}
    → SpotsAre d s ms p → ValueAt d m.1 s v e → k ≡ name_at m.0 → SpotsAre d s (ms ++ (m ∷ [])) (see_at p k v e)
spots_more {d} {s} {ms} {p} m {v} {e} {k} h a f = record {
  size = size_more p k v e h.size;
  are = λ n. subst (SpotIs d s (named (word n) (ms ++ (m ∷ [])))) (sym (spot_seen p n k v e h.size))
      (one (word n) (spot p n) (is_place (place n) k) (ap (is_place (place n)) f ∙ sym (is_name_lem n m.0)) (h.are n));
}
  where
    one : (name : String) (q : Spot) (b : Bool) → b ≡ is_name name m.0 → SpotIs d s (named name ms) q → SpotIs d s (named name (ms ++ (m ∷ []))) (seen_at q b v e)
    one name q b f g =
        subst (λ (vs : List (Json d)). SpotIs d s vs (seen_at q b v e)) (sym (named_more name ms m))
        (subst (λ (x : Bool). SpotIs d s (named name ms ++ pick x (m.1 ∷ []) []) (seen_at q b v e)) f (spot_more a (named name ms) q b g))

-- ---- the needs of `see`

pub see_some : (p : Spots) (k : Option Name) (n : Name) (v e : ℕ) {t : ℕ} {q : Spot} → k ≡ Some n → t ≡ place n → q ≡ one_more (get_or p t Absent) v e
    → set p t q ≡ see_at p k v e
unfolding see_at
see_some p k n v e f g h = rw (h, f, g)

pub see_none : (p : Spots) (k : Option Name) (v e : ℕ) → k ≡ None → p ≡ see_at p k v e
unfolding see_at
see_none p k v e f = rw f
