-- What an accepted write leaves, said without running it. Assumes nothing.
use mathlib.Core.Path.{◌≡◌, refl, sym, ap, ◌∙◌, subst}
use Rattle.rules.specs.declared.Refusal.{Refusal}
use Rattle.rules.specs.declared.Outcome.{Outcome}
use Rattle.std.specs.Prelude.{Result, Ok}
use mathlib.Core.Bool.{Bool, true, false}
use mathlib.Core.List.{[], ◌∷◌}
use mathlib.Core.Logic.{inl, inr, ◌↔◌}
use Rattle.std.specs.Prelude.{Option, None, Some}
use Rattle.rules.specs.declared.Outcome.TheVariants.{Changed, Unchanged}
use Rattle.rules.specs.declared.Revision.{Revision}
use Rattle.rules.specs.Choice.{pick, first_that}
use Rattle.rules.specs.Replica.{Id, Document, Replica, tree_in, document_of, tree_of, IsReplica, Node, Known, HasParent}
use Rattle.rules.specs.Union.{In, given, held, both, IsUnion, SameButSeq}
use Rattle.rules.specs.Write.{Write, gives, next, added, adds, write_refusals, write, is_addition, lacks_parent}
use Rattle.rules.proofs.OrderLaws.{bytes_order}
use Rattle.rules.proofs.MapLaws.{none≢some, some_inj, ext}
use Rattle.rules.proofs.GivenLaws.{adds_any}
use Rattle.union.specs.Said.{Knows, Left}
use Rattle.union.proofs.Lists.{any_none}
use Rattle.union.proofs.Trees.{Entry}
use Rattle.union.proofs.Sets.{Both, GivenBy, ◌⊎w◌, both_from, both_to, closed_w, things, within_all, within_sub}
use Rattle.union.proofs.Refusals.{passed}
use Rattle.union.proofs.Cases.{accepted, added_here, each_id}
use Rattle.union.proofs.Frame.{write_other}
use Rattle.union.proofs.Replicas.{Holds}
use Rattle.union.proofs.Unions.{alike, one_union, same_tree, union, union_alike}
use Rattle.union.proofs.Held.{Own, closed_own}
use Rattle.union.proofs.Keeps.{holds_more, holds_same}

module _ (r : Replica) (w : Write) (k : IsReplica r) (ok : first_that (write_refusals r w) ≡ None) where
  after : Bool → Result Outcome Refusal × Replica
  after b = pick b (Ok Changed, added r w) (Ok Unchanged, r)

  holds : Holds (write r w).1 (Own r ⊎w w)
  unfolding after
  holds = subst (λ (o : Result Outcome Refusal × Replica). Holds o.1 (Own r ⊎w w)) (sym (accepted r w ok)) (go (adds r w) refl)
    where
      go : (b : Bool) → adds r w ≡ b → Holds (after b).1 (Own r ⊎w w)
      go true e = holds_more r w k (passed r w ok)
      go false e = holds_same r w k (passed r w ok) e

  to_both : (i : Id) (x : Entry) → (Own r ⊎w w) i x → Both (Own r) (GivenBy (w ∷ [])) i x
  to_both i x (inl m) = inr (w, inl refl, m.0, m.1)
  to_both i x (inr m) = inl m

  from_both : (i : Id) (x : Entry) → Both (Own r) (GivenBy (w ∷ [])) i x → (Own r ⊎w w) i x
  from_both i x (inl m) = inr m
  from_both i x (inr m) = go m.0 m.1 m.2 m.3
    where
      go : (v : Write) → In v (w ∷ []) → v.id ≡ i → In x (gives v) → (Own r ⊎w w) i x
      go v (inl q) e n = inl (ap (λ (z : Write). z.id) (sym q) ∙ e, subst (λ (z : Write). In x (gives z)) q n)
      go v (inr n) e m = absurd n

  is_union : IsUnion (write r w).1 (both (held r) (given (w ∷ [])))
  is_union =
      union_alike (write r w).1 (things (Own r ⊎w w)) (both (held r) (given (w ∷ [])))
      (alike (things (Own r ⊎w w)) (both (held r) (given (w ∷ [])))
      (within_all (things (Own r ⊎w w)) (things (Both (Own r) (GivenBy (w ∷ [])))) (both (held r) (given (w ∷ [])))
      (within_sub (Own r ⊎w w) (Both (Own r) (GivenBy (w ∷ []))) to_both) (both_to (Own r) (GivenBy (w ∷ []))))
      (within_all (both (held r) (given (w ∷ []))) (things (Both (Own r) (GivenBy (w ∷ [])))) (things (Own r ⊎w w))
      (both_from (Own r) (GivenBy (w ∷ []))) (within_sub (Both (Own r) (GivenBy (w ∷ []))) (Own r ⊎w w) from_both)))
      (union (write r w).1 (Own r ⊎w w) holds (closed_w (Own r) w (closed_own r k)))

  seq_own : adds r w ≡ true → (d : Document) → document_of (write r w).1 w.id ≡ Some d → d.seq ≡ next r.seq
  unfolding after
  seq_own e d f =
      let here : document_of (write r w).1 w.id ≡ document_of (added r w) w.id = rw (accepted r w ok, e) refl in
      ap (λ (z : Document). z.seq) (some_inj (sym f ∙ (here ∙ added_here r w)))

  pub write_left : Left r w (write r w).1
  unfolding after added
  write_left = record {
    union = is_union;
    unchanged = λ e. rw (accepted r w ok, e) refl;
    changed = λ e. rw (accepted r w ok, e) refl;
    own = seq_own;
    others = write_other r w;
  }

  -- what `adds` tests, over what is given and held
  knows : adds r w ≡ false → Knows r w
  knows e = record {
    revisions = λ v m. subst (λ (s : Replica). Known (tree_of s w.id) v) (write_left.unchanged e) ((is_union.revisions w.id v).1 (inr m));
    parents = λ v p m. subst (λ (s : Replica). HasParent (tree_of s w.id) v p) (write_left.unchanged e) ((is_union.parents w.id v p).1 (inr m));
  }

lacks_none : (given held : Option Revision) → ((p : Revision) → given ≡ Some p → held ≡ Some p) → lacks_parent given held ≡ false
lacks_none None held h = refl
lacks_none (Some p) held h = rw (h p refl) refl

quiet : (r : Replica) (w : Write) → Knows r w → adds r w ≡ false
unfolding is_addition
quiet r w k = adds_any r w ∙ any_none (is_addition (tree_of r w.id)) (gives w) each
  where
    each : (x : Entry) → In x (gives w) → is_addition (tree_of r w.id) x ≡ false
    each x m =
        let n = k.revisions x.0 (x.1, (w, inl refl, refl, m)) in
        rw n.1
        (lacks_none x.1.parent n.0.parent
        (λ p e. let u = k.parents x.0 p (x.1, (w, inl refl, refl, m), e) in ap (λ (z : Node). z.parent) (some_inj (sym n.1 ∙ u.1)) ∙ u.2))

pub adds_nothing : (r : Replica) (w : Write) → IsReplica r → first_that (write_refusals r w) ≡ None → (adds r w ≡ false) ↔ Knows r w
adds_nothing r w k ok = (knows r w k ok, quiet r w)

-- ---- that leaves one replica

seq_path : (a b : Document) → a.seq ≡ b.seq → a.tree ≡ b.tree → a ≡ b
seq_path a b p q = λ i. record { seq = p i; tree = q i }

same_document : (r s : Replica) (i : Id) → tree_of r i ≡ tree_of s i
    → ((d : Document) → document_of r i ≡ Some d → (e : Document) × (document_of s i ≡ Some e) × (d.seq ≡ e.seq))
    → ((e : Document) → document_of s i ≡ Some e → (d : Document) × (document_of r i ≡ Some d))
    → document_of r i ≡ document_of s i
unfolding tree_of
same_document r s i t f g = go (document_of r i) refl (document_of s i) refl
  where
    go : (o : Option Document) → document_of r i ≡ o → (q : Option Document) → document_of s i ≡ q → document_of r i ≡ document_of s i
    go None p None q = p ∙ sym q
    go None p (Some e) q = absurd (let z = g e q in none≢some (sym p ∙ z.1))
    go (Some d) p o q =
        let z = f d p in
        p ∙ (ap Some (seq_path d z.0 z.2 (sym (ap tree_in p) ∙ (t ∙ ap tree_in z.1))) ∙ sym z.1)

module _ (r : Replica) (w : Write) (a b : Replica) (ka : IsReplica a) (kb : IsReplica b) (la : Left r w a) (lb : Left r w b) (new : adds r w ≡ true) where
  same : SameButSeq a b
  same = one_union a b (both (held r) (given (w ∷ []))) ka kb la.union lb.union

  over : (a b : Replica) → Left r w a → Left r w b → (d : Document) → document_of a w.id ≡ Some d → (e : Document) × (document_of b w.id ≡ Some e)
  over a b la lb d f = (lb.union.documents w.id).1 ((la.union.documents w.id).0 (d, f))

  here : document_of a w.id ≡ document_of b w.id
  here =
      same_document a b w.id (same_tree a b same w.id)
      (λ d f. let z = over a b la lb d f in (z.0, z.1, la.own new d f ∙ sym (lb.own new z.0 z.1)))
      (over b a lb la)

  each : (i : Id) → document_of a i ≡ document_of b i
  each = each_id w.id (λ i. document_of a i ≡ document_of b i) here (λ i n. la.others i n ∙ sym (lb.others i n))

  changed_same : a ≡ b
  unfolding document_of
  changed_same =
      let p = la.changed new ∙ sym (lb.changed new) in
      let q = ext bytes_order a.documents b.documents ka.ascending kb.ascending each in
      λ i. record { seq = p i; documents = q i }

-- "leaves one possible outcome": replicas that a write can leave are equal
pub left_one : (r : Replica) (w : Write) (a b : Replica) → IsReplica a → IsReplica b → Left r w a → Left r w b → a ≡ b
left_one r w a b ka kb la lb = go (adds r w) refl
  where
    go : (c : Bool) → adds r w ≡ c → a ≡ b
    go true e = changed_same r w a b ka kb la lb e
    go false e = la.unchanged e ∙ sym (lb.unchanged e)
