-- What a plan says: its tests and counts are those of the definitions, and past its reach nothing is altered. Assumes nothing.
use mathlib.Core.Path.{◌≡◌, refl, sym, ap, ap₂, ◌∙◌}
use mathlib.Core.Bool.{Bool, true, false, not, ◌||◌}
use mathlib.Core.List.{List, [], ◌∷◌}
use mathlib.Core.Logic.{◌⊎◌, inl, inr, ⊎_elim}
use Prim.Native.Nat.{ℕ, suc, ◌+◌, ◌-◌}
use native.Mathlib.Nat.{zero-add, add_assoc}
use native.Mathlib.Omega.{arith}
use lib.Dec.{eqb}
use lib.ListN.{drop}
use borrow.Author.Tests.{eq-eqb, ne_eqb}
use Rattle.rules.specs.declared.Revision.{Revision}
use Rattle.rules.specs.Choice.{pick, any, how_many}
use Rattle.rules.specs.Replica.{Node, Tree}
use Rattle.rules.specs.Write.{is_new, is_addition, count_new, other_parent, other_content, is_new_parent, count_parents}
use Rattle.writes.specs.declared.plan.Plan.{Plan}
use Rattle.writes.specs.Plan.{no_plan, planned, plan_from, plan_of}

-- ---- tests and counts

or_assoc : (a b c : Bool) → ((a || b) || c) ≡ (a || (b || c))
or_assoc true b c = refl
or_assoc false b c = refl

pub or_false : (a : Bool) → (a || false) ≡ a
or_false true = refl
or_false false = refl

crossed_from : (t : Tree) (k : ℕ) (p : Plan) (gs : List (Revision × Node)) → (plan_from t k p gs).crossed ≡ (p.crossed || any (other_parent t) gs)
unfolding plan_from planned any
crossed_from t k p [] = sym (or_false p.crossed)
crossed_from t k p (g ∷ gs) = crossed_from t (k + 1) (planned t k p g) gs ∙ or_assoc p.crossed (other_parent t g) (any (other_parent t) gs)

other_from : (t : Tree) (k : ℕ) (p : Plan) (gs : List (Revision × Node)) → (plan_from t k p gs).other ≡ (p.other || any (other_content t) gs)
unfolding plan_from planned any
other_from t k p [] = sym (or_false p.other)
other_from t k p (g ∷ gs) = other_from t (k + 1) (planned t k p g) gs ∙ or_assoc p.other (other_content t g) (any (other_content t) gs)

revisions_from : (t : Tree) (k : ℕ) (p : Plan) (gs : List (Revision × Node)) → (plan_from t k p gs).revisions ≡ p.revisions + count_new t gs
unfolding plan_from planned count_new how_many
revisions_from t k p [] = omega arith
revisions_from t k p (g ∷ gs) = revisions_from t (k + 1) (planned t k p g) gs ∙ add_assoc p.revisions (pick (is_new t g) 1 0) (count_new t gs)

parents_from : (t : Tree) (k : ℕ) (p : Plan) (gs : List (Revision × Node)) → (plan_from t k p gs).parents ≡ p.parents + count_parents t gs
unfolding plan_from planned count_parents how_many
parents_from t k p [] = omega arith
parents_from t k p (g ∷ gs) = parents_from t (k + 1) (planned t k p g) gs ∙ add_assoc p.parents (pick (is_new_parent t g) 1 0) (count_parents t gs)

-- ---- the reach

-- the last addition, if there is one, is the j-th from here
record Last (t : Tree) (k : ℕ) (gs : List (Revision × Node)) (reach : ℕ) : Type 0 where
  pub at : ℕ
  pub is : reach ≡ k + at + 2
  pub adds : any (is_addition t) gs ≡ true
  pub rest : any (is_addition t) (drop (suc at) gs) ≡ false

abbrev Reached : Tree → ℕ → ℕ → List (Revision × Node) → ℕ → Type 0
Reached t k q gs reach = ((any (is_addition t) gs ≡ false) × (reach ≡ q)) ⊎ Last t k gs reach

reached_cons : (t : Tree) (k q : ℕ) (g : Revision × Node) (gs : List (Revision × Node)) (reach : ℕ) (b : Bool) → is_addition t g ≡ b
    → Reached t (k + 1) (pick b (k + 2) q) gs reach → Reached t k q (g ∷ gs) reach
unfolding any
reached_cons t k q g gs reach true e (inl p) =
    inr (record { at = 0; is = p.1 ∙ omega arith; adds = ap (λ (b : Bool). b || any (is_addition t) gs) e; rest = p.0 })
reached_cons t k q g gs reach false e (inl p) = inl (ap₂ (λ (a b : Bool). a || b) e p.0, p.1)
reached_cons t k q g gs reach b e (inr l) =
    inr (record {
      at = suc l.at;
      is = l.is ∙ omega arith;
      adds = ap (λ (a : Bool). is_addition t g || a) l.adds ∙ or-true (is_addition t g);
      rest = l.rest;
    })
  where
    or-true : (a : Bool) → (a || true) ≡ true
    or-true true = refl
    or-true false = refl

reached : (t : Tree) (k : ℕ) (p : Plan) (gs : List (Revision × Node)) → Reached t k p.reach gs (plan_from t k p gs).reach
unfolding plan_from planned any
reached t k p [] = inl (refl, refl)
reached t k p (g ∷ gs) =
    reached_cons t k p.reach g gs (plan_from t (k + 1) (planned t k p g) gs).reach (is_addition t g) refl (reached t (k + 1) (planned t k p g) gs)

-- ---- a plan

pub plan_crossed : (t : Tree) (gs : List (Revision × Node)) → (plan_of t gs).crossed ≡ any (other_parent t) gs
unfolding plan_of
plan_crossed t gs = crossed_from t 0 no_plan gs

pub plan_other : (t : Tree) (gs : List (Revision × Node)) → (plan_of t gs).other ≡ any (other_content t) gs
unfolding plan_of
plan_other t gs = other_from t 0 no_plan gs

pub plan_revisions : (t : Tree) (gs : List (Revision × Node)) → (plan_of t gs).revisions ≡ count_new t gs
unfolding plan_of
plan_revisions t gs = revisions_from t 0 no_plan gs ∙ zero-add (count_new t gs)

pub plan_parents : (t : Tree) (gs : List (Revision × Node)) → (plan_of t gs).parents ≡ count_parents t gs
unfolding plan_of
plan_parents t gs = parents_from t 0 no_plan gs ∙ zero-add (count_parents t gs)

-- something is added exactly if the reach is not 0
pub plan_adds : (t : Tree) (gs : List (Revision × Node)) → not (eqb (plan_of t gs).reach 0) ≡ any (is_addition t) gs
unfolding plan_of
plan_adds t gs =
    ⊎_elim (λ p. ap not (eq-eqb (plan_of t gs).reach 0 p.1) ∙ sym p.0)
    (λ l. let e = l.is in ap not (ne_eqb (plan_of t gs).reach 0 (λ z. omega arith)) ∙ sym l.adds)
    (reached t 0 no_plan gs)

-- and past the reach less one nothing is
pub plan_rest : (t : Tree) (gs : List (Revision × Node)) → any (is_addition t) (drop ((plan_of t gs).reach - 1) gs) ≡ false
unfolding plan_of
plan_rest t gs =
    ⊎_elim
    (λ p. let e : (plan_of t gs).reach - 1 ≡ 0 = let q = p.1 in omega arith in ap (λ (k : ℕ). any (is_addition t) (drop k gs)) e ∙ p.0)
    (λ l. let e : (plan_of t gs).reach - 1 ≡ suc l.at = let q = l.is in omega arith in
    ap (λ (k : ℕ). any (is_addition t) (drop k gs)) e ∙ l.rest)
    (reached t 0 no_plan gs)
