-- The parent that an edit takes and the rule on it, from the rows of its document. Assumes nothing.
use mathlib.Core.Path.{◌≡◌, refl, sym, ap, ◌∙◌, subst}
use Rattle.std.specs.Prelude.{Ok, Err}
use mathlib.Core.Bool.{Bool, true, false, not, ◌&&◌, ◌||◌}
use mathlib.Core.List.{List}
use Rattle.std.specs.Prelude.{Option, None, Some}
use Rattle.std.proofs.Common.{is_some}
use Prim.Native.Nat.{ℕ, suc, ◌+◌, ◌<◌}
use native.Mathlib.Numerals.{add-one}
use native.Mathlib.Omega.{arith}
use lib.Dec.{eqb}
use lib.ListN.{length}
use borrow.Author.Tests.{eq-eqb, ne_eqb, eqb-false}
use Rattle.rules.specs.declared.Content.{Content}
use Rattle.rules.specs.declared.Content.TheVariants.{Live, Deleted}
use Rattle.rules.specs.declared.Revision.{Revision}
use Rattle.rules.specs.declared.RevNumber.{RevNumber}
use Rattle.rules.specs.Choice.{pick, maybe}
use Rattle.rules.specs.Edit.{Edit, content_in, is_leaf, deleted_winner, parent_of, parent_rule, new_number, last_number}
use Rattle.rules.specs.Map.{Ascending}
use Rattle.rules.specs.Order.{order_rev}
use Rattle.rules.specs.Read.{LeafOf, winner, is_live, is_deletion}
use Rattle.rules.specs.Replica.{Id, Node, Tree, Document, Replica, document_of, tree_of}
use Rattle.rules.specs.Replica as rules
use Rattle.rules.specs.Room.{number_most}
use Rattle.rules.specs.Write.{is_none}
use Rattle.tree.specs.declared.table.Body.{Body}
use Rattle.tree.specs.Rows.{row_at}
use Rattle.tree.specs.Table.{tree_in, row_start, place_of, Searchable}
use Rattle.tree.proofs.LeafLaws.{content_at_lem}
use Rattle.tree.proofs.PlaceLaws.{place_at, place_gap}
use Rattle.tree.proofs.TableLaws.{length-tree, tree_row}
use Rattle.store.specs.Documents.{Shows}
use Rattle.store.specs.Storage.{replica_of, IsStored}
use Rattle.edits.specs.Edit.{IsOn, NotLast}

-- ---- the winner that is a deletion

module _ (t : Tree) where
  pub nobody_wins : None ≡ winner t → None ≡ deleted_winner t
  unfolding deleted_winner
  nobody_wins e = rw (sym e) refl

  module _ {a : LeafOf} (e : Some a ≡ winner t) where
    pub live_wins : {m : ℕ} → a.content ≡ Live m → None ≡ deleted_winner t
    unfolding deleted_winner
    live_wins k = rw (sym e, k) refl

    pub deletion_wins_lem : a.content ≡ Deleted → Some a.rev ≡ deleted_winner t
    unfolding deleted_winner
    deletion_wins_lem k = rw (sym e, k) refl

-- ---- a leaf among rows

pub some_is : {A : Type 0} (o : Option A) → is_some o ≡ not (is_none o)
some_is None = refl
some_is (Some x) = refl

module _ (b : Body) (s : List ℕ) (v : Revision) (i : ℕ) where
  pub at_row : place_of 0 v (tree_in b s) ≡ Ok i → i < b.rows
  at_row e = let p = (place_at i v (tree_in b s) e).within in let z = length-tree b.base b.rows s in omega arith

  pub leaf_by_kind : place_of 0 v (tree_in b s) ≡ Ok i → is_leaf (tree_in b s) v ≡ not (is_none (row_at (row_start b i) s).content)
  unfolding is_leaf
  leaf_by_kind e =
      let x = tree_row b.base b.rows i s (at_row e) in
      ap (λ (o : Option Node). not (is_none (content_in o))) (place_at i v (tree_in b s) e).found
      ∙ ap (λ (o : Option Content). not (is_none o)) (ap (λ (y : Revision × Node). y.1.content) x ∙ sym (content_at_lem (row_start b i) s))

  pub leaf_in_gap : place_of 0 v (tree_in b s) ≡ Err i → is_leaf (tree_in b s) v ≡ false
  unfolding is_leaf
  leaf_in_gap e = ap (λ (o : Option Node). not (is_none (content_in o))) (place_gap i v (tree_in b s) e).found

-- ---- the document and its tree

module _ {s : List ℕ} (i : Id) (k : IsStored s) where
  -- the document is absent exactly where its tree has no revision
  absent : is_none (document_of (replica_of s) i) ≡ eqb (length (tree_of (replica_of s) i)) 0
  unfolding tree_of
  absent = go (document_of (replica_of s) i) refl
    where
      go : (o : Option Document) → document_of (replica_of s) i ≡ o → is_none o ≡ eqb (length (rules.tree_in o)) 0
      go None e = refl
      go (Some d) e = sym (ne_eqb (length d.tree) 0 (λ z. let l = (k.replica.documents i d e).tree.some_revision in omega arith))

  ascends : Ascending order_rev (tree_of (replica_of s) i)
  unfolding tree_of
  ascends = go (document_of (replica_of s) i) refl
    where
      go : (o : Option Document) → document_of (replica_of s) i ≡ o → Ascending order_rev (rules.tree_in o)
      go None e = tt
      go (Some d) e = (k.replica.documents i d e).tree.ascending

  pub searchable : {b : Body} → Shows s b (tree_of (replica_of s) i) → Searchable b s
  searchable {b} w = record { within = w.within; ascending = subst (Ascending order_rev) (sym w.tree) ascends }

-- ---- the parent and the rule

module _ {s : List ℕ} {b : Body} {named : Option Revision} {e : Edit} (on : IsOn s b named e) where
  abbrev r : Replica
  r = replica_of s

  abbrev u : Tree
  u = tree_in b s

  pub parent_named_lem : (v : Revision) → named ≡ Some v → named ≡ parent_of r e
  unfolding parent_of
  parent_named_lem v q = rw (on.parent, q) refl

  pub parent_wins : named ≡ None → deleted_winner u ≡ parent_of r e
  unfolding parent_of
  parent_wins q = rw (on.parent, q) (ap deleted_winner on.shows.tree)

  pub rule_named : (v : Revision) → named ≡ Some v → is_leaf u v ≡ parent_rule r e
  unfolding parent_rule
  rule_named v q = rw (on.parent, q) (ap (λ (t : Tree). is_leaf t v) on.shows.tree)

  -- no parent is named
  module _ (q : named ≡ None) where
    by_content : parent_rule r e ≡ (is_live e.content && (eqb b.rows 0 || not (is_none (parent_of r e))))
    unfolding parent_rule parent_of
    by_content =
        let z : is_none (document_of r e.id) ≡ eqb b.rows 0 =
        absent e.id on.stored ∙ ap (λ (n : ℕ). eqb n 0) (ap length (sym on.shows.tree) ∙ length-tree b.base b.rows s) in
        rw (on.parent, q, z) refl

    pub rule_deletion : e.content ≡ Deleted → false ≡ parent_rule r e
    rule_deletion k = sym (by_content ∙ ap (λ (c : Content). is_live c && (eqb b.rows 0 || not (is_none (parent_of r e)))) k)

    module _ (m : ℕ) (k : e.content ≡ Live m) where
      live : parent_rule r e ≡ (eqb b.rows 0 || not (is_none (parent_of r e)))
      live = by_content ∙ ap (λ (c : Content). is_live c && (eqb b.rows 0 || not (is_none (parent_of r e)))) k

      pub rule_absent : b.rows ≡ 0 → true ≡ parent_rule r e
      rule_absent z = sym (live ∙ ap (λ (a : Bool). a || not (is_none (parent_of r e))) (eq-eqb b.rows 0 z))

      pub rule_held : (b.rows ≡ 0 → ⊥) → not (is_none (parent_of r e)) ≡ parent_rule r e
      rule_held z = sym (live ∙ ap (λ (a : Bool). a || not (is_none (parent_of r e))) (ne_eqb b.rows 0 z))

-- ---- the number of the new revision

module _ (p : Option Revision) (r : Replica) (e : Edit) (taken : p ≡ parent_of r e) where
  last_is : last_number r e ≡ maybe false (λ v. eqb v.number.0 number_most) p
  unfolding last_number
  last_is = ap (maybe false (λ (v : Revision). eqb v.number.0 number_most)) (sym taken)

  pub last_known : (v : Revision) → p ≡ Some v → eqb v.number.0 number_most ≡ last_number r e
  last_known v k = sym (last_is ∙ rw k refl)

  pub last_none : p ≡ None → false ≡ last_number r e
  last_none k = sym (last_is ∙ rw k refl)

  pub not_last : last_number r e ≡ false → NotLast p
  not_last l = go p (sym last_is ∙ l)
    where
      go : (o : Option Revision) → maybe false (λ v. eqb v.number.0 number_most) o ≡ false → NotLast o
      go None f = tt
      go (Some v) f = eqb-false v.number.0 number_most f

  number_is : new_number r e ≡ record { 0 = suc (maybe 0 (λ v. v.number.0) p) }
  unfolding new_number
  number_is = ap {B = RevNumber} (λ (o : Option Revision). record { 0 = suc (maybe 0 (λ v. v.number.0) o) }) (sym taken)

  pub after_known : (v : Revision) → p ≡ Some v → record { 0 = v.number.0 + 1 } ≡ new_number r e
  after_known v k = sym (number_is ∙ rw (k, add-one v.number.0) refl)

  pub after_none : p ≡ None → record { 0 = 1 } ≡ new_number r e
  after_none k = sym (number_is ∙ rw k refl)
