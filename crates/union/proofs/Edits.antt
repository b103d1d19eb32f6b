-- An accepted edit leaves what the path write of the new revision and its parent leaves. Assumes nothing.
use mathlib.Core.Path.{◌≡◌, refl, sym, ap, ◌∙◌, subst}
use Rattle.std.specs.Prelude.{Ok}
use mathlib.Core.Bool.{Bool, true, false, not, ◌&&◌, ◌||◌, true≢false}
use mathlib.Core.List.{List, [], ◌∷◌, ◌++◌, append-nil}
use mathlib.Core.Logic.{inl, inr}
use Rattle.std.specs.Prelude.{Option, None, Some}
use Prim.Native.Nat.{ℕ, suc, ◌≤◌}
use native.Mathlib.Omega.{arith}
use lib.Dec.{eqb}
use lib.ListN.{length}
use borrow.Author.Tests.{le-ltb, eqb-false, not-false}
use Rattle.rules.specs.declared.Outcome.TheVariants.{Changed}
use Rattle.rules.specs.declared.Revision.{Revision}
use Rattle.rules.specs.Bytes.{Bytes, join}
use Rattle.rules.specs.Choice.{pick, maybe, any, first_that}
use Rattle.rules.specs.Edit.{Edit, content_in, is_leaf, deleted_winner, parent_of, parent_rule, new_number, as_write, already_known, last_number, edit_refusals, edit}
use Rattle.rules.specs.Map.{find, Ascending}
use Rattle.rules.specs.Order.{order_rev, same_rev}
use Rattle.rules.specs.Read.{LeafOf, winner, is_live, is_deletion}
use Rattle.rules.specs.Replica.{Hash, revision, Node, Tree, Replica, document_of, tree_of, Known, IsRevision, IsReplica}
use Rattle.rules.specs.Room.{hash_size, number_most}
use Rattle.rules.specs.Union.{In, IsWrite}
use Rattle.rules.specs.Write.{bad_id, documents_full, revisions_full, sequence_spent, hashes, newest_of, along, gives, adds}
use Rattle.rules.specs.Write.{is_addition, is_none, differ, other_parent, other_content, agree, low_number, room_refusals, write}
use Rattle.rules.proofs.MapLaws.{none≢some, some_inj}
use Rattle.rules.proofs.GivenLaws.{adds_any}
use Rattle.rules.proofs.ChoiceLaws.{none_holds}
use Rattle.rules.proofs.ByteLaws.{Sized, bytes_append}
use Rattle.union.specs.Said.{IsEdit}
use Rattle.union.proofs.Lists.{any_none}
use Rattle.union.proofs.Trees.{Entry}
use Rattle.union.proofs.PathBytes.{hashes_join, path_good}
use Rattle.union.proofs.Winners.{winner_top}
use Rattle.union.proofs.Refusals.{Passed, unrefused}
use Rattle.union.proofs.Cases.{accepted, edit_by}
use Rattle.union.proofs.Held.{ascending_own, sound_own}
use Rattle.union.proofs.Keeps.{added_keeps}

-- ---- the parent is known

found : (o : Option Node) → not (is_none (content_in o)) ≡ true → (n : Node) × (o ≡ Some n)
found None e = absurd (true≢false (sym e))
found (Some n) e = (n, refl)

leaf_known : (t : Tree) (p : Revision) → is_leaf t p ≡ true → Known t p
unfolding is_leaf
leaf_known t p e = found (find order_rev p t) e

deleted_known : (t : Tree) → Ascending order_rev t → (p : Revision) → deleted_winner t ≡ Some p → Known t p
unfolding deleted_winner
deleted_known t s p e = go (winner t) refl e
  where
    go : (o : Option LeafOf) → winner t ≡ o → maybe None (λ w. pick (is_deletion w.content) (Some w.rev) None) o ≡ Some p → Known t p
    go None q f = absurd (none≢some f)
    go (Some a) q f = by (is_deletion a.content) f
      where
        by : (b : Bool) → pick b (Some a.rev) None ≡ Some p → Known t p
        by true g =
            let h = ((winner_top t s a).0 q).0 in
            (h.0, subst (λ (v : Revision). find order_rev v t ≡ Some h.0) (some_inj g) h.1)
        by false g = absurd (none≢some g)

pub parent_known : (r : Replica) (e : Edit) → IsReplica r → parent_rule r e ≡ true → (p : Revision) → parent_of r e ≡ Some p → Known (tree_of r e.id) p
unfolding parent_rule parent_of
parent_known r e k rule p q = go e.parent refl rule q
  where
    go : (o : Option Revision) → e.parent ≡ o
        → maybe (is_live e.content && (is_none (document_of r e.id) || not (is_none (deleted_winner (tree_of r e.id))))) (is_leaf (tree_of r e.id)) o ≡ true
        → maybe (deleted_winner (tree_of r e.id)) Some o ≡ Some p → Known (tree_of r e.id) p
    go None f a b = deleted_known (tree_of r e.id) (ascending_own r k e.id) p b
    go (Some v) f a b = leaf_known (tree_of r e.id) p (subst (λ (z : Revision). is_leaf (tree_of r e.id) z ≡ true) (some_inj b) a)

-- ---- the write that says the same

abbrev older : Option Revision → List Hash
older o = maybe [] (λ p. p.hash ∷ []) o

abbrev number_of : Option Revision → ℕ
number_of o = maybe 0 (λ p. p.number.0) o

path_joined : (h : Hash) (o : Option Revision) → h ++ maybe [] (λ p. p.hash) o ≡ join (h ∷ older o)
unfolding join
path_joined h None = refl
path_joined h (Some p) = ap (λ (z : List ℕ). h ++ z) (sym (append-nil p.hash))

older_sized : (o : Option Revision) → ((p : Revision) → o ≡ Some p → IsRevision p) → Sized hash_size (older o)
older_sized None k = tt
older_sized (Some p) k = ((k p refl).size, tt)

older_few : (o : Option Revision) → ((p : Revision) → o ≡ Some p → IsRevision p) → (length (older o) ≤ 1) × (length (older o) ≤ number_of o)
older_few None k = (omega arith, omega arith)
older_few (Some p) k = (omega arith, (k p refl).least)

older_bytes : (o : Option Revision) → ((p : Revision) → o ≡ Some p → IsRevision p) → Bytes (maybe [] (λ p. p.hash) o)
older_bytes None k = tt
older_bytes (Some p) k = (k p refl).bytes

-- the oldest of a path is given neither a parent nor, where it is not the newest, a content
older_plain : (o : Option Revision) (n : ℕ) (x : Entry) → In x (along n (older o) None) → (x.1.parent ≡ None) × (x.1.content ≡ None)
unfolding along
older_plain None n x m = absurd m
older_plain (Some p) n x (inl q) = (ap (λ (z : Entry). z.1.parent) q, ap (λ (z : Entry). z.1.content) q)
older_plain (Some p) n x (inr m) = absurd m

differ_nothing : {A : Type 0} (same : A → A → Bool) (x y : Option A) → y ≡ None → differ same x y ≡ false
differ_nothing same None y e = refl
differ_nothing same (Some a) None e = refl
differ_nothing same (Some a) (Some b) e = absurd (none≢some (sym e))

not_none : {A : Type 0} (o : Option A) → not (is_none o) ≡ false → o ≡ None
not_none None e = refl
not_none (Some a) e = absurd (true≢false e)

or-true : (a b : Bool) → a ≡ true → (a || b) ≡ true
or-true a b e = rw e refl

number_room : (o : Option Revision) → maybe false (λ p. eqb p.number.0 number_most) o ≡ false → ((p : Revision) → o ≡ Some p → IsRevision p) → suc (number_of o) ≤ number_most
number_room None e k = omega arith
number_room (Some p) e k = let h = (k p refl).most in let t = eqb-false p.number.0 number_most e in omega arith

-- 1, 9, 11, 10, 6, 7 and 8 do not refuse
record EditPassed (r : Replica) (e : Edit) : Type 0 where
  id_ok : bad_id e.id ≡ false
  nine : parent_rule r e ≡ true
  eleven : last_number r e ≡ false
  ten : already_known r e ≡ false
  six : documents_full r e.id ≡ false
  seven : revisions_full r (as_write r e) ≡ false
  eight : sequence_spent r (as_write r e) ≡ false

edit_passes : (r : Replica) (e : Edit) → first_that (edit_refusals r e) ≡ None → EditPassed r e
unfolding edit_refusals room_refusals as_write
edit_passes r e ok =
    let (one, (nine, (eleven, (ten, (six, (seven, (eight, end))))))) = none_holds (edit_refusals r e) ok in
    record { id_ok = one; nine = not-false (parent_rule r e) nine; eleven = eleven; ten = ten; six = six; seven = seven; eight = eight }

module _ (r : Replica) (e : Edit) (k : IsReplica r) (q : IsEdit e) (ok : first_that (edit_refusals r e) ≡ None) where
  ep : EditPassed r e
  ep = edit_passes r e ok

  known_parent : (p : Revision) → parent_of r e ≡ Some p → IsRevision p
  known_parent p f = let t = parent_known r e k ep.nine p f in (sound_own r k).revision e.id (p, t.0) t.1

  hashes_edit : hashes (as_write r e) ≡ e.hash ∷ older (parent_of r e)
  unfolding as_write
  hashes_edit = hashes_join (as_write r e) (e.hash ∷ older (parent_of r e)) (path_joined e.hash (parent_of r e)) (q.size, older_sized (parent_of r e) known_parent)

  newest : Entry
  newest = (revision (suc (number_of (parent_of r e))) e.hash, record { parent = newest_of (number_of (parent_of r e)) (older (parent_of r e)); content = Some e.content })

  gives_edit : gives (as_write r e) ≡ newest ∷ along (number_of (parent_of r e)) (older (parent_of r e)) None
  unfolding gives as_write new_number along newest
  gives_edit = ap (λ (hs : List Hash). along (suc (number_of (parent_of r e))) hs (Some e.content)) hashes_edit

  new : find order_rev newest.0 (tree_of r e.id) ≡ None
  unfolding already_known new_number newest
  new = not_none (find order_rev newest.0 (tree_of r e.id)) ep.ten

  in_gives : (P : Entry → Type 0) → P newest → ((x : Entry) → x.1.parent ≡ None → x.1.content ≡ None → P x) → (x : Entry) → In x (gives (as_write r e)) → P x
  in_gives P a b x m = go (rw gives_edit at m)
    where
      go : In x (newest ∷ along (number_of (parent_of r e)) (older (parent_of r e)) None) → P x
      go (inl z) = subst P (sym z) a
      go (inr n) = let t = older_plain (parent_of r e) (number_of (parent_of r e)) x n in b x t.0 t.1

  no_other_parent : (x : Entry) → In x (gives (as_write r e)) → other_parent (tree_of r e.id) x ≡ false
  unfolding other_parent
  no_other_parent = in_gives (λ x. other_parent (tree_of r e.id) x ≡ false) (rw new refl) (λ x f g. go x f (find order_rev x.0 (tree_of r e.id)))
    where
      go : (x : Entry) → x.1.parent ≡ None → (o : Option Node) → maybe false (λ n. differ same_rev n.parent x.1.parent) o ≡ false
      go x f None = refl
      go x f (Some n) = differ_nothing same_rev n.parent x.1.parent f

  no_other_content : (x : Entry) → In x (gives (as_write r e)) → other_content (tree_of r e.id) x ≡ false
  unfolding other_content
  no_other_content = in_gives (λ x. other_content (tree_of r e.id) x ≡ false) (rw new refl) (λ x f g. go x g (find order_rev x.0 (tree_of r e.id)))
    where
      go : (x : Entry) → x.1.content ≡ None → (o : Option Node) → maybe false (λ n. differ agree n.content x.1.content) o ≡ false
      go x f None = refl
      go x f (Some n) = differ_nothing agree n.content x.1.content f

  number_good : low_number (as_write r e) ≡ false
  unfolding low_number as_write new_number
  number_good =
      rw hashes_edit
      (let t = older_few (parent_of r e) known_parent in
      le-ltb (suc (number_of (parent_of r e))) (length (e.hash ∷ older (parent_of r e))) (let a = t.1 in omega arith))

  edit_passed : Passed r (as_write r e)
  unfolding as_write
  edit_passed =
      record {
        form = record {
          id_ok = ep.id_ok;
          path_ok = path_good (as_write r e) (e.hash ∷ older (parent_of r e)) (path_joined e.hash (parent_of r e)) (q.size, older_sized (parent_of r e) known_parent)
              (omega arith) (let a = (older_few (parent_of r e) known_parent).0 in omega arith);
          number_ok = number_good;
        };
        four = any_none (other_parent (tree_of r e.id)) (gives (as_write r e)) no_other_parent;
        five = any_none (other_content (tree_of r e.id)) (gives (as_write r e)) no_other_content;
        six = ep.six;
        seven = ep.seven;
        eight = ep.eight;
      }

  pub edit_adds : adds r (as_write r e) ≡ true
  unfolding any is_addition as_write
  edit_adds = adds_any r (as_write r e) ∙ rw (gives_edit, new) refl

  edit_write : IsWrite (as_write r e)
  unfolding as_write new_number last_number
  edit_write = record {
    id = q.id;
    number = number_room (parent_of r e) ep.eleven known_parent;
    path = bytes_append e.hash (maybe [] (λ p. p.hash) (parent_of r e)) q.hash (older_bytes (parent_of r e) known_parent);
    content = q.content;
  }

-- "An accepted edit leaves what the path write of the new revision and its parent, if any, would leave"
pub edit_is_write : (r : Replica) (e : Edit) → IsReplica r → IsEdit e → first_that (edit_refusals r e) ≡ None
    → write r (as_write r e) ≡ (Ok Changed, (edit r e).1)
unfolding edit
edit_is_write r e k q ok =
    accepted r (as_write r e) (unrefused r (as_write r e) (edit_passed r e k q ok)) ∙ rw (edit_adds r e k q ok, ok) refl

pub edit_keeps : (r : Replica) (e : Edit) → IsReplica r → IsEdit e → IsReplica (edit r e).1
edit_keeps r e k q =
    edit_by r e IsReplica k (λ f. added_keeps r (as_write r e) k (edit_write r e k q f) (edit_passed r e k q f) (edit_adds r e k q f))
