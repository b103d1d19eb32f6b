-- What a write is, from its form, its plan and the verdict. Assumes nothing.
use mathlib.Core.Path.{◌≡◌, refl, sym, ap, ◌∙◌}
use Rattle.std.specs.Prelude.{Ok, Err}
use mathlib.Core.Bool.{Bool, true, false, not, ◌&&◌}
use mathlib.Core.List.{List, [], ◌∷◌, ◌++◌}
use Rattle.std.specs.Prelude.{None, Some}
use Prim.Native.Nat.{ℕ, ◌+◌, ◌≤◌, ◌<◌}
use native.Mathlib.Omega.{arith}
use lib.Dec.{eqb, leb, ltb}
use lib.ListN.{length}
use borrow.Author.Tests.{ltb-false, eqb-false, leb-false, ne_eqb}
use Rattle.rules.specs.declared.Outcome.TheVariants.{Changed, Unchanged}
use Rattle.rules.specs.declared.Refusal.{Refusal}
use Rattle.rules.specs.declared.Refusal.TheVariants.{OtherParent, OtherContent, DocumentsFull, RevisionsFull, SequenceSpent}
use Rattle.rules.specs.Choice.{pick, first_that, any}
use Rattle.rules.specs.Replica.{Replica, Tree, document_of, tree_of, revisions_held}
use Rattle.rules.specs.Room.{documents_most, revisions_most, seq_most}
use Rattle.rules.specs.Write.{Write, gives, added, adds, is_none, other_parent, other_content, documents_full, revisions_full, sequence_spent, form_refusals, room_refusals, write_refusals, settle, write}
use Rattle.rules.proofs.ChoiceLaws.{none_holds, holds_none}
use Rattle.rules.proofs.GivenLaws.{adds_any}
use Rattle.writes.specs.declared.plan.Plan.{Plan}
use Rattle.writes.specs.Judge.{judged}
use Rattle.writes.specs.Plan.{plan_of}
use Rattle.writes.proofs.PlanLaws.{plan_crossed, plan_other, plan_revisions, plan_adds}

first_append : {A : Type 0} (xs ys : List (Bool × A)) → first_that xs ≡ None → first_that (xs ++ ys) ≡ first_that ys
unfolding first_that
first_append [] ys e = refl
first_append ((true, a) ∷ xs) ys e = let z : ◌≡◌ {A = ℕ} 0 1 = cc in absurd (omega arith)
first_append ((false, a) ∷ xs) ys e = first_append xs ys e

some_append : {A : Type 0} (xs ys : List (Bool × A)) (a : A) → first_that xs ≡ Some a → first_that (xs ++ ys) ≡ Some a
unfolding first_that
some_append [] ys a e = let z : ◌≡◌ {A = ℕ} 0 1 = cc in absurd (omega arith)
some_append ((true, b) ∷ xs) ys a e = e
some_append ((false, b) ∷ xs) ys a e = some_append xs ys a e

module _ (r : Replica) (w : Write) where
  abbrev t : Tree
  t = tree_of r w.id

  abbrev p : Plan
  p = plan_of t (gives w)

  -- a form that is refused
  pub write_formless : (n : Refusal) → first_that (form_refusals w) ≡ Some n → write r w ≡ (Err n, r)
  unfolding write write_refusals
  write_formless n e = ap (settle Err r (pick (adds r w) (Ok Changed, added r w) (Ok Unchanged, r))) (some_append (form_refusals w) _ n e)

  -- the plan decides the rest
  reach_adds : not (eqb p.reach 0) ≡ adds r w
  reach_adds = plan_adds t (gives w) ∙ sym (adds_any r w)

  judged_right : judged r (is_none (document_of r w.id)) p
      ≡ (any (other_parent t) (gives w), OtherParent) ∷ (any (other_content t) (gives w), OtherContent) ∷ room_refusals r w
  unfolding judged room_refusals documents_full revisions_full sequence_spent
  judged_right = λ i.
      (plan_crossed t (gives w) i, OtherParent)
      ∷ (plan_other t (gives w) i, OtherContent)
      ∷ (is_none (document_of r w.id) && leb documents_most (length r.documents), DocumentsFull)
      ∷ (ltb revisions_most (revisions_held r.documents + plan_revisions t (gives w) i), RevisionsFull)
      ∷ (reach_adds i && eqb r.seq.0 seq_most, SequenceSpent)
      ∷ []

  module _ (form : first_that (form_refusals w) ≡ None) where
    refusals : first_that (write_refusals r w) ≡ first_that (judged r (is_none (document_of r w.id)) p)
    unfolding write_refusals
    refusals = first_append (form_refusals w) _ form ∙ ap first_that (sym judged_right)

    pub write_refused : (n : Refusal) → first_that (judged r (is_none (document_of r w.id)) p) ≡ Some n → write r w ≡ (Err n, r)
    unfolding write
    write_refused n e = ap (settle Err r (pick (adds r w) (Ok Changed, added r w) (Ok Unchanged, r))) (refusals ∙ e)

    module _ (clear : first_that (judged r (is_none (document_of r w.id)) p) ≡ None) where
      accepted : write r w ≡ pick (adds r w) (Ok Changed, added r w) (Ok Unchanged, r)
      unfolding write
      accepted = ap (settle Err r (pick (adds r w) (Ok Changed, added r w) (Ok Unchanged, r))) (refusals ∙ clear)

      pub write_same : eqb p.reach 0 ≡ true → write r w ≡ (Ok Unchanged, r)
      write_same e = accepted ∙ ap (λ (b : Bool). pick b (Ok Changed, added r w) (Ok Unchanged, r)) (sym reach_adds ∙ ap not e)

      pub write_changed : eqb p.reach 0 ≡ false → write r w ≡ (Ok Changed, added r w)
      write_changed e = accepted ∙ ap (λ (b : Bool). pick b (Ok Changed, added r w) (Ok Unchanged, r)) (sym reach_adds ∙ ap not e)

-- ---- what a clear verdict says

pub record Clear (r : Replica) (absent : Bool) (p : Plan) : Type 0 where
  pub crossed : p.crossed ≡ false
  pub documents : absent ≡ true → length r.documents < documents_most
  pub revisions : revisions_held r.documents + p.revisions ≤ revisions_most
  pub seq : (p.reach ≡ 0 → ⊥) → r.seq.0 ≡ seq_most → ⊥

pub clear_says : (r : Replica) (absent : Bool) (p : Plan) → first_that (judged r absent p) ≡ None → Clear r absent p
unfolding judged
clear_says r absent p e =
    let a = none_holds (judged r absent p) e in
    record {
      crossed = a.0;
      documents = λ q. leb-false documents_most (length r.documents) (and_true absent _ q a.1.1.0);
      revisions = ltb-false revisions_most (revisions_held r.documents + p.revisions) a.1.1.1.0;
      seq = λ n. eqb-false r.seq.0 seq_most (and_true (not (eqb p.reach 0)) _ (ap not (ne_eqb p.reach 0 n)) a.1.1.1.1.0);
    }
  where
    and_true : (a b : Bool) → a ≡ true → (a && b) ≡ false → b ≡ false
    and_true true b e f = f
    and_true false b e f = let z : ◌≡◌ {A = ℕ} 0 1 = cc in absurd (omega arith)

-- ---- the verdict, test by test

module _ (r : Replica) (absent : Bool) (p : Plan) where
  abbrev pub full : Bool
  full = absent && leb documents_most (length r.documents)

  abbrev pub over : Bool
  over = ltb revisions_most (revisions_held r.documents + p.revisions)

  abbrev spent : Bool
  spent = not (eqb p.reach 0) && eqb r.seq.0 seq_most

  pub judge_4 : p.crossed ≡ true → first_that (judged r absent p) ≡ Some OtherParent
  unfolding judged first_that
  judge_4 a = rw a refl

  pub judge_5 : p.crossed ≡ false → p.other ≡ true → first_that (judged r absent p) ≡ Some OtherContent
  unfolding judged first_that
  judge_5 a b = rw (a, b) refl

  pub judge_6 : p.crossed ≡ false → p.other ≡ false → full ≡ true → first_that (judged r absent p) ≡ Some DocumentsFull
  unfolding judged first_that
  judge_6 a b c = rw (a, b, c) refl

  pub judge_7 : p.crossed ≡ false → p.other ≡ false → full ≡ false → over ≡ true → first_that (judged r absent p) ≡ Some RevisionsFull
  unfolding judged first_that
  judge_7 a b c d = rw (a, b, c, d) refl

  pub judge_8 : p.crossed ≡ false → p.other ≡ false → full ≡ false → over ≡ false → spent ≡ true → first_that (judged r absent p) ≡ Some SequenceSpent
  unfolding judged first_that
  judge_8 a b c d e = rw (a, b, c, d, e) refl

  pub judge_clear : p.crossed ≡ false → p.other ≡ false → full ≡ false → over ≡ false → spent ≡ false → first_that (judged r absent p) ≡ None
  unfolding judged
  judge_clear a b c d e = holds_none (judged r absent p) (a, (b, (c, (d, (e, tt)))))
