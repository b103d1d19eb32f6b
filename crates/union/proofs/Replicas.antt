-- A replica against a set of entries for each id: a write adds its entries to the set, and is accepted where the set stays compatible and fits. Assumes nothing.
use mathlib.Core.Path.{◌≡◌, refl, sym, ◌∙◌, subst}
use Rattle.rules.specs.declared.Refusal.{Refusal}
use Rattle.rules.specs.declared.Outcome.{Outcome}
use Rattle.std.specs.Prelude.{Result, Ok, Err}
use mathlib.Core.Bool.{Bool, true, false, ◌&&◌, true≢false}
use mathlib.Core.List.{List, [], ◌∷◌}
use mathlib.Core.Logic.{inl, inr}
use Rattle.std.specs.Prelude.{Option, None, Some}
use Prim.Native.Nat.{◌+◌, ◌≤◌}
use native.Mathlib.Omega.{arith}
use lib.Dec.{eqb, leb}
use lib.ListN.{length}
use borrow.Author.Tests.{le-ltb, lt-leb}
use Rattle.rules.specs.declared.Outcome.TheVariants.{Changed, Unchanged}
use Rattle.rules.specs.declared.Refusal.TheVariants.{SequenceSpent}
use Rattle.rules.specs.Choice.{pick, any, first_that}
use Rattle.rules.specs.Map.{find, Ascending}
use Rattle.rules.specs.Order.{order_bytes}
use Rattle.rules.specs.Replica.{Id, Hash, Document, Replica, tree_in, document_of, tree_of, revisions_held}
use Rattle.rules.specs.Room.{documents_most, revisions_most}
use Rattle.rules.specs.Union.{In, Fits, IsAccepted}
use Rattle.rules.specs.Write.{Write, hashes, along, gives, add_all, added, adds, is_none, other_parent}
use Rattle.rules.specs.Write.{other_content, documents_full, revisions_full, sequence_spent, count_new, room_refusals, write_refusals, write}
use Rattle.rules.proofs.OrderLaws.{bytes_order, rev_order}
use Rattle.rules.proofs.MapLaws.{ascending_alter}
use Rattle.rules.proofs.GivenLaws.{adds_any}
use Rattle.union.proofs.Nodes.{AtSome}
use Rattle.union.proofs.Trees.{Agrees, Entry, Given, Rep, ◌∪◌, agree_sub, rep_adds, rep_empty, rep_iff}
use Rattle.union.proofs.Paths.{Closed, not_crossed, not_other, rep_same, write_closed}
use Rattle.union.proofs.Count.{in_find, length_alter, pigeon, total_fits}
use Rattle.union.proofs.Growth.{held_after}
use Rattle.union.proofs.Sets.{Givens, ◌⊎w◌, things}
use Rattle.union.proofs.Refusals.{Passed, Well, path_parts, unrefused}
use Rattle.union.proofs.Cases.{accepted, added_here, added_other, each_id, now}

-- a document is there exactly if the set has an entry, and its tree comes to the set
abbrev pub DocAt : Option Document → Given → Type 0
DocAt None G = (x : Entry) → G x → ⊥
DocAt (Some d) G = Rep d.tree G × ((x : Entry) × G x)

-- the replica holds exactly these sets
pub record Holds (r : Replica) (G : Givens) : Type 0 where
  pub ascending : Ascending order_bytes r.documents
  pub at : (i : Id) → DocAt (document_of r i) (G i)

doc_iff : (o : Option Document) (G H : Given) → ((x : Entry) → G x → H x) → ((x : Entry) → H x → G x) → DocAt o G → DocAt o H
doc_iff None G H f g a = λ x h. a x (g x h)
doc_iff (Some d) G H f g a = (rep_iff d.tree G H f g a.0, (a.1.0, f a.1.0 a.1.1))

pub holds_iff : (r : Replica) (G H : Givens) → ((i : Id) (x : Entry) → G i x → H i x) → ((i : Id) (x : Entry) → H i x → G i x) → Holds r G → Holds r H
holds_iff r G H f g a = record { ascending = a.ascending; at = λ i. doc_iff (document_of r i) (G i) (H i) (f i) (g i) (a.at i) }

pub rep_of : (o : Option Document) (G : Given) → DocAt o G → Rep (tree_in o) G
rep_of None G a = rep_empty G a
rep_of (Some d) G a = a.0

some_entry : (w : Write) → Well w → (x : Entry) × In x (gives w)
unfolding gives along
some_entry w k = go (hashes w) (path_parts w k.path_ok).1
  where
    go : (hs : List Hash) → eqb (length hs) 0 ≡ false → (x : Entry) × In x (along w.number.0 hs (Some w.content))
    go [] e = absurd (true≢false e)
    go (h ∷ hs) e = (_, inl refl)

-- ---- one write

module _ (r : Replica) (w : Write) (G : Givens) (a : Holds r G) (g : (i : Id) → Agrees ((G ⊎w w) i)) (k : Well w) where
  agree_here : Agrees (G w.id ∪ gives w)
  agree_here v =
      agree_sub (λ c. (G w.id ∪ gives w) (v, c)) (λ c. (G ⊎w w) w.id (v, c)) (λ c m. elim m [ inl i ↦ inl (refl, i) | inr t ↦ inr t ])
      (g w.id v)

  rep_now : Rep (tree_of r w.id) (G w.id)
  unfolding tree_of
  rep_now = rep_of (document_of r w.id) (G w.id) (a.at w.id)

  rep_after : Rep (add_all (gives w) (tree_of r w.id)) (G w.id ∪ gives w)
  rep_after = rep_adds (gives w) (tree_of r w.id) (G w.id) rep_now agree_here

  out_of : (x : Entry) → (G w.id ∪ gives w) x → (G ⊎w w) w.id x
  out_of x (inl i) = inl (refl, i)
  out_of x (inr t) = inr t

  in_to : (x : Entry) → (G ⊎w w) w.id x → (G w.id ∪ gives w) x
  in_to x (inl i) = inl i.1
  in_to x (inr t) = inr t

  other : (i : Id) → (i ≡ w.id → ⊥) → (x : Entry) → (G ⊎w w) i x → G i x
  other i n x (inl m) = absurd (n (sym m.0))
  other i n x (inr t) = t

  pub holds_added : Holds (added r w) (G ⊎w w)
  holds_added = record {
    ascending = (unfold added in ascending_alter bytes_order w.id (λ d. now r w) r.documents a.ascending);
    at = each_id w.id (λ i. DocAt (document_of (added r w) i) ((G ⊎w w) i))
        (rw (added_here r w) (
          rep_iff (add_all (gives w) (tree_of r w.id)) (G w.id ∪ gives w) ((G ⊎w w) w.id) out_of in_to rep_after,
          (let t = some_entry w k in (t.0, inl (refl, t.1))),
        ))
        (λ i n. rw (added_other r w i n) (doc_iff (document_of r i) (G i) ((G ⊎w w) i) (λ x t. inr t) (other i n) (a.at i)));
  }

  pub holds_quiet : ((i : Id) → Closed (G i)) → adds r w ≡ false → Holds r (G ⊎w w)
  unfolding tree_of
  holds_quiet c e = record {
    ascending = a.ascending;
    at = each_id w.id (λ i. DocAt (document_of r i) ((G ⊎w w) i))
        (here (document_of r w.id) (a.at w.id)
        (rep_same (tree_of r w.id) (G w.id) (gives w) rep_now agree_here (c w.id) (write_closed w) (sym (adds_any r w) ∙ e)))
        (λ i n. doc_iff (document_of r i) (G i) ((G ⊎w w) i) (λ x t. inr t) (other i n) (a.at i));
  }
    where
      here : (o : Option Document) → DocAt o (G w.id) → Rep (tree_in o) (G w.id ∪ gives w) → DocAt o ((G ⊎w w) w.id)
      here None b p = λ x m. unfold find in p.at x.0 x.1 (in_to x m)
      here (Some d) b p = (rep_iff d.tree (G w.id ∪ gives w) ((G ⊎w w) w.id) out_of in_to p, (b.1.0, inr b.1.1))

-- ---- the limits

documents_fit : (r : Replica) (G : Givens) → Holds r G → Fits (things G) → length r.documents ≤ documents_most
unfolding document_of
documents_fit r G a f =
    let h = pigeon bytes_order r.documents a.ascending f.ids (λ x m. go x m) in let k = f.ids_most in omega arith
  where
    go : (x : Id × Document) → In x r.documents → In x.0 f.ids
    go x m =
        let d : DocAt (Some x.1) (G x.0) = rw (in_find bytes_order r.documents a.ascending x m) at (a.at x.0) in
        f.ids_all x.0 d.1.0.0 (d.1.0.1, d.1.1)

pub revisions_fit : (r : Replica) (G : Givens) → Holds r G → Fits (things G) → revisions_held r.documents ≤ revisions_most
unfolding document_of
revisions_fit r G a f =
    let h = total_fits r.documents a.ascending (λ x m. (doc x m).0.ascending) f.revisions (λ x m e i. go x m e i) in
    let k = f.revisions_at_most in
    omega arith
  where
    doc : (x : Id × Document) → In x r.documents → DocAt (Some x.1) (G x.0)
    doc x m = rw (in_find bytes_order r.documents a.ascending x m) at (a.at x.0)

    go : (x : Id × Document) → In x r.documents → (e : Entry) → In e x.1.tree → In (x.0, e.0) f.revisions
    go x m e i =
        let t = (doc x m).0 in
        let c : AtSome e.1 (λ c. G x.0 (e.0, c)) = rw (in_find rev_order x.1.tree t.ascending e i) at (t.at e.0) in
        f.revisions_all x.0 e.0 c.known

module _ (r : Replica) (w : Write) (G : Givens) (a : Holds r G) (g : (i : Id) → Agrees ((G ⊎w w) i)) (k : Well w) (f : Fits (things (G ⊎w w))) where
  not_full : documents_full r w.id ≡ false
  unfolding documents_full document_of added
  not_full = go (document_of r w.id) refl
    where
      go : (o : Option Document) → document_of r w.id ≡ o → (is_none o && leb documents_most (length r.documents)) ≡ false
      go None e =
          let p = length_alter bytes_order w.id (λ d. now r w) r.documents e in
          let q = documents_fit (added r w) (G ⊎w w) (holds_added r w G a g k) f in
          lt-leb documents_most (length r.documents) (omega (arith, p, q))
      go (Some d) e = refl

  room : revisions_full r w ≡ false
  unfolding revisions_full
  room =
      let p = held_after r w k.number_ok in
      let q = revisions_fit (added r w) (G ⊎w w) (holds_added r w G a g k) f in
      le-ltb revisions_most (revisions_held r.documents + count_new (tree_of r w.id) (gives w)) (omega (arith, p, q))

  four : any (other_parent (tree_of r w.id)) (gives w) ≡ false
  four = not_crossed (tree_of r w.id) (G w.id) (gives w) (rep_now r w G a g k) (agree_here r w G a g k)

  five : any (other_content (tree_of r w.id)) (gives w) ≡ false
  five = not_other (tree_of r w.id) (G w.id) (gives w) (rep_now r w G a g k) (agree_here r w G a g k)

  -- 8 is all that is left to refuse
  eight : ((write r w).0 ≡ Err SequenceSpent → ⊥) → sequence_spent r w ≡ false
  eight q = go (sequence_spent r w) refl
    where
      go : (b : Bool) → sequence_spent r w ≡ b → b ≡ false
      go true e = absurd (q (unfold write write_refusals room_refusals first_that in rw (k.id_ok, k.path_ok, k.number_ok, four, five, not_full, room, e) refl))
      go false e = refl

  passes : ((write r w).0 ≡ Err SequenceSpent → ⊥) → Passed r w
  passes q = record { form = k; four = four; five = five; six = not_full; seven = room; eight = eight q }

  pub step : ((i : Id) → Closed (G i)) → ((write r w).0 ≡ Err SequenceSpent → ⊥) → IsAccepted (write r w).0 × Holds (write r w).1 (G ⊎w w)
  step c q =
      subst (λ (o : Result Outcome Refusal × Replica). IsAccepted o.0 × Holds o.1 (G ⊎w w)) (sym (accepted r w (unrefused r w (passes q)))) (go (adds r w) refl)
    where
      left : Bool → Result Outcome Refusal × Replica
      left b = pick b (Ok Changed, added r w) (Ok Unchanged, r)

      go : (b : Bool) → adds r w ≡ b → IsAccepted (left b).0 × Holds (left b).1 (G ⊎w w)
      go true e = (tt, holds_added r w G a g k)
      go false e = (tt, holds_quiet r w G a g k c e)
