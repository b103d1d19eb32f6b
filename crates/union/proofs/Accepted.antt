-- Writes and pulls of which nothing was refused: what they leave is the union of what was held and given, whatever it was. Assumes nothing.
use mathlib.Core.Path.{◌≡◌, refl, sym, ◌∙◌, subst}
use Rattle.rules.specs.declared.Outcome.{Outcome}
use Rattle.std.specs.Prelude.{Result, Ok, Err}
use mathlib.Core.List.{List, [], ◌∷◌}
use mathlib.Core.Logic.{◌⊎◌, inl, inr}
use Rattle.std.specs.Prelude.{Option, None, Some}
use Prim.Native.Nat.{ℕ}
use native.Mathlib.Omega.{arith}
use Rattle.rules.specs.declared.Content.{Content}
use Rattle.rules.specs.declared.Outcome.TheVariants.{Changed, Unchanged}
use Rattle.rules.specs.declared.Refusal.{Refusal}
use Rattle.rules.specs.declared.Revision.{Revision}
use Rattle.rules.specs.Choice.{pick, how_many, first_that}
use Rattle.rules.specs.Pull.{offers, pull}
use Rattle.rules.specs.Replica.{Id, Node, Replica, IsReplica}
use Rattle.rules.specs.Union.{In, Gives, given, held, both, IsUnion, SameButSeq, IsWrite, Within, write_all, IsAccepted, AllAccepted, all_from}
use Rattle.rules.specs.Write.{Write, added, adds, write_refusals, settle, write}
use Rattle.union.specs.Said.{there, back, Agreed, answers, is_refused}
use Rattle.union.proofs.Sets.{within_left}
use Rattle.union.proofs.Unions.{alike, one_union, same_winner, union, union_alike, union_again, union_then}
use Rattle.union.proofs.Held.{Own, closed_own, holds_own}
use Rattle.union.proofs.Keeps.{write_keeps}
use Rattle.union.proofs.WriteLeft.{write_left}
use Rattle.union.proofs.Offers.{offers_own, offers_range, own_offers}
use Rattle.union.proofs.Pulls.{counts_each, pull_keeps, pull_writes}

-- ---- writes that are all accepted

-- an accepted write was refused by none of the conditions
unrefused_if : (r : Replica) (w : Write) → IsAccepted (write r w).0 → first_that (write_refusals r w) ≡ None
unfolding write
unrefused_if r w = go (first_that (write_refusals r w))
  where
    left : Result Outcome Refusal × Replica
    left = pick (adds r w) (Ok Changed, added r w) (Ok Unchanged, r)

    go : (o : Option Refusal) → IsAccepted (settle Err r left o).0 → o ≡ None
    go None h = refl
    go (Some n) h = absurd h

-- what is held with what writes give, the first apart or among them
first_in : (r : Replica) (w : Write) (ws : List Write) → Within (both (both (held r) (given (w ∷ []))) (given ws)) (both (held r) (given (w ∷ ws)))
first_in r w ws = record {
  revisions = λ i v m. elim m [
    | inl t ↦ (elim t [ inl a ↦ inl a | inr b ↦ inr (b.0, one i v b.0 b.1) ])
    | inr b ↦ inr (b.0, more i v b.0 b.1)
  ];
  parents = λ i v p m. elim m [
    | inl t ↦ (elim t [ inl a ↦ inl a | inr b ↦ inr (b.0, one i v b.0 b.1, b.2) ])
    | inr b ↦ inr (b.0, more i v b.0 b.1, b.2)
  ];
  contents = λ i v c m. elim m [
    | inl t ↦ (elim t [ inl a ↦ inl a | inr b ↦ inr (b.0, one i v b.0 b.1, b.2) ])
    | inr b ↦ inr (b.0, more i v b.0 b.1, b.2)
  ];
}
  where
    one : (i : Id) (v : Revision) (n : Node) → Gives (w ∷ []) i v n → Gives (w ∷ ws) i v n
    one i v n g = (g.0, elim g.1 [ inl q ↦ inl q | inr z ↦ absurd z ], g.2, g.3)

    more : (i : Id) (v : Revision) (n : Node) → Gives ws i v n → Gives (w ∷ ws) i v n
    more i v n g = (g.0, inr g.1, g.2, g.3)

first_out : (r : Replica) (w : Write) (ws : List Write) → Within (both (held r) (given (w ∷ ws))) (both (both (held r) (given (w ∷ []))) (given ws))
first_out r w ws = record {
  revisions = λ i v m. elim m [ inl a ↦ inl (inl a) | inr b ↦ elim (apart i v b.0 b.1) [ inl g ↦ inl (inr (b.0, g)) | inr g ↦ inr (b.0, g) ] ];
  parents = λ i v p m. elim m [ inl a ↦ inl (inl a) | inr b ↦ elim (apart i v b.0 b.1) [ inl g ↦ inl (inr (b.0, g, b.2)) | inr g ↦ inr (b.0, g, b.2) ] ];
  contents = λ i v c m. elim m [ inl a ↦ inl (inl a) | inr b ↦ elim (apart i v b.0 b.1) [ inl g ↦ inl (inr (b.0, g, b.2)) | inr g ↦ inr (b.0, g, b.2) ] ];
}
  where
    apart : (i : Id) (v : Revision) (n : Node) → Gives (w ∷ ws) i v n → Gives (w ∷ []) i v n ⊎ Gives ws i v n
    apart i v n g = elim g.1 [ inl q ↦ inl (g.0, inl q, g.2, g.3) | inr m ↦ inr (g.0, m, g.2, g.3) ]

only : (r : Replica) (w : Write) (i : Id) (v : Revision) (c : Content) → (both (held r) (given (w ∷ []))).content i v c → (both (held r) (given (w ∷ []))).revision i v
only r w i v c (inl a) = inl (a.0, a.1)
only r w i v c (inr b) = inr (b.0, b.1)

-- nothing was given
union_none : (r : Replica) → IsReplica r → IsUnion r (both (held r) (given []))
union_none r k =
    union_alike r (held r) (both (held r) (given []))
    (alike (held r) (both (held r) (given [])) (within_left (held r) (given []))
    (record {
      revisions = λ i v m. elim m [ inl a ↦ a | inr b ↦ absurd b.1.1 ];
      parents = λ i v p m. elim m [ inl a ↦ a | inr b ↦ absurd b.1.1 ];
      contents = λ i v c m. elim m [ inl a ↦ a | inr b ↦ absurd b.1.1 ];
    }))
    (union r (Own r) (holds_own r k) (closed_own r k))

accepted_union : (ws : List Write) → ((w : Write) → In w ws → IsWrite w) → (r : Replica) → IsReplica r → AllAccepted ws r
    → IsUnion (write_all ws r) (both (held r) (given ws))
unfolding write_all
accepted_union [] h r k a = union_none r k
accepted_union (w ∷ ws) h r k a =
    let m = (write r w).1 in
    let u = (write_left r w k (unrefused_if r w a.0)).union in
    let rest = accepted_union ws (λ v i. h v (inr i)) m (write_keeps r w k (h w (inl refl))) a.1 in
    union_alike (write_all ws m) (both (both (held r) (given (w ∷ []))) (given ws)) (both (held r) (given (w ∷ ws)))
    (alike (both (both (held r) (given (w ∷ []))) (given ws)) (both (held r) (given (w ∷ ws))) (first_in r w ws) (first_out r w ws))
    (union_then m (write_all ws m) (both (held r) (given (w ∷ []))) (given ws) (only r w) u rest)

-- ---- a pull that refused nothing

accepted_if : (o : Result Outcome Refusal) → ◌≡◌ {A = ℕ} (pick (is_refused o) 1 0) 0 → IsAccepted o
accepted_if (Ok o) e = tt
accepted_if (Err n) e = absurd (omega arith)

none_refused : (ws : List Write) (r : Replica) → how_many is_refused (answers r ws) ≡ 0 → AllAccepted ws r
unfolding how_many answers
none_refused [] r e = tt
none_refused (w ∷ ws) r e = (accepted_if (write r w).0 (omega arith), none_refused ws (write r w).1 (omega arith))

module _ (a b : Replica) (ka : IsReplica a) (kb : IsReplica b) (e : (pull all_from a b).0.refused ≡ 0) where
  pub pull_accepted : AllAccepted (offers all_from a) b
  pull_accepted = none_refused (offers all_from a) b (sym (counts_each all_from a b).refused ∙ e)

  all_in : Within (both (held b) (given (offers all_from a))) (both (held a) (held b))
  all_in = record {
    revisions = λ i v m. elim m [ inl t ↦ inr t | inr t ↦ inl (t.0, offers_own a ka all_from i (v, t.0) t.1) ];
    parents = λ i v p m. elim m [ inl t ↦ inr t | inr t ↦ inl (t.0, offers_own a ka all_from i (v, t.0) t.1, t.2) ];
    contents = λ i v c m. elim m [ inl t ↦ inr t | inr t ↦ inl (t.0, offers_own a ka all_from i (v, t.0) t.1, t.2) ];
  }

  all_out : Within (both (held a) (held b)) (both (held b) (given (offers all_from a)))
  all_out = record {
    revisions = λ i v m. elim m [ inl t ↦ inr (t.0, own_offers a ka i (v, t.0) t.1) | inr t ↦ inl t ];
    parents = λ i v p m. elim m [ inl t ↦ inr (t.0, own_offers a ka i (v, t.0) t.1, t.2) | inr t ↦ inl t ];
    contents = λ i v c m. elim m [ inl t ↦ inr (t.0, own_offers a ka i (v, t.0) t.1, t.2) | inr t ↦ inl t ];
  }

  pub pull_unites : IsUnion (there a b) (both (held a) (held b))
  pull_unites =
      subst (λ (r : Replica). IsUnion r (both (held a) (held b))) (sym (pull_writes all_from a b))
      (union_alike (write_all (offers all_from a) b) (both (held b) (given (offers all_from a))) (both (held a) (held b))
      (alike (both (held b) (given (offers all_from a))) (both (held a) (held b)) all_in all_out)
      (accepted_union (offers all_from a) (offers_range a ka all_from) b kb pull_accepted))

-- ---- both ways

module _ (a b : Replica) (ka : IsReplica a) (kb : IsReplica b) (e : (pull all_from a b).0.refused ≡ 0) (f : (pull all_from (there a b) a).0.refused ≡ 0) where
  keeps_there : IsReplica (there a b)
  keeps_there = pull_keeps all_from a b ka kb

  union_back : IsUnion (back a b) (both (held a) (held b))
  union_back =
      union_again (there a b) (back a b) (both (held a) (held b)) (held a) (pull_unites a b ka kb e) (within_left (held a) (held b))
      (pull_unites (there a b) a keeps_there ka f)

  same : SameButSeq (there a b) (back a b)
  same =
      one_union (there a b) (back a b) (both (held a) (held b)) keeps_there (pull_keeps all_from (there a b) a keeps_there ka)
      (pull_unites a b ka kb e) union_back

  pub none_refused_agreed : Agreed a b
  none_refused_agreed = record {
    accepted_there = pull_accepted a b ka kb e;
    accepted_back = pull_accepted (there a b) a keeps_there ka f;
    union_there = pull_unites a b ka kb e;
    union_back = union_back;
    same = same;
    winners = same_winner (there a b) (back a b) same;
  }
