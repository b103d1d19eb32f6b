-- What an edit answers and leaves: for each of its own refusals, and by the path write that it makes. Assumes nothing.
use mathlib.Core.Path.{◌≡◌, refl, sym, ap, ap₂, ◌∙◌, subst}
use Rattle.std.specs.Prelude.{Result, Err}
use mathlib.Core.Bool.{true, false, not}
use mathlib.Core.List.{List, [], ◌++◌}
use Rattle.std.specs.Prelude.{Option, None, Some}
use Prim.Native.Nat.{ℕ}
use lib.ListN.{length}
use Rattle.rules.specs.declared.Content.{Content}
use Rattle.rules.specs.declared.Refusal.{Refusal}
use Rattle.rules.specs.declared.Refusal.TheVariants.{BadId, NotAParent, LastNumber, AlreadyKnown}
use Rattle.rules.specs.declared.Revision.{Revision}
use Rattle.rules.specs.declared.RevNumber.{RevNumber}
use Rattle.rules.specs.Choice.{maybe, first_that}
use Rattle.rules.specs.Edit.{Edit, parent_of, parent_rule, new_number, as_write, already_known, last_number, edit_refusals, edit}
use Rattle.rules.specs.Map.{find}
use Rattle.rules.specs.Order.{order_rev}
use Rattle.rules.specs.Replica.{Id, Hash, revision, Tree, Replica, IsRevision}
use Rattle.rules.specs.Room.{hash_size}
use Rattle.rules.specs.Write.{Write, bad_id, is_none, form_refusals, write}
use Rattle.union.proofs.Edits.{parent_known}
use Rattle.union.proofs.Held.{sound_own}
use Rattle.tree.specs.Table.{tree_in}
use Rattle.tree.specs.declared.table.Body.{Body}
use Rattle.store.specs.Documents.{documents_of, place_of_id}
use Rattle.store.specs.Storage.{stored, replica_of, IsStored}
use Rattle.writes.specs.Judge.{CanWrite}
use Rattle.writes.specs.Path.{write_of}
use Rattle.edits.specs.Edit.{edit_of, IsOn, IsRuled, child_path, answer_of, ChildWritten, EditDone}
use Rattle.edits.proofs.EditLaws.{GoodParent, edit_form, edit_by_write}

-- ---- a refused edit leaves every byte

edit_refused : (s : List ℕ) (e : Edit) (n : Refusal) → IsStored s → first_that (edit_refusals (replica_of s) e) ≡ Some n → EditDone s e (Err n) s
unfolding edit
edit_refused s e n k q = record { answer = rw q refl; left = rw q k.same; means = rw q refl; is = k }

-- "An edit checks 1, 9, 11, 10" in that order
module _ (r : Replica) (e : Edit) where
  first_id : bad_id e.id ≡ true → first_that (edit_refusals r e) ≡ Some BadId
  unfolding edit_refusals first_that
  first_id a = rw a refl

  first_parent : bad_id e.id ≡ false → parent_rule r e ≡ false → first_that (edit_refusals r e) ≡ Some NotAParent
  unfolding edit_refusals first_that
  first_parent a b = rw (a, b) refl

  first_last : bad_id e.id ≡ false → parent_rule r e ≡ true → last_number r e ≡ true → first_that (edit_refusals r e) ≡ Some LastNumber
  unfolding edit_refusals first_that
  first_last a b c = rw (a, b, c) refl

  first_known : bad_id e.id ≡ false → parent_rule r e ≡ true → last_number r e ≡ false → already_known r e ≡ true → first_that (edit_refusals r e) ≡ Some AlreadyKnown
  unfolding edit_refusals first_that
  first_known a b c d = rw (a, b, c, d) refl

pub refused_id : (s : List ℕ) (e : Edit) → IsStored s → bad_id e.id ≡ true → EditDone s e (Err BadId) s
refused_id s e k a = edit_refused s e BadId k (first_id (replica_of s) e a)

-- ---- the edit's own refusals, and the path write that it is else

-- the rows b of the document of e, and the parent p that e takes
pub record Taken (s : List ℕ) (i : Id) (named : Option Revision) (e : Edit) (b : Body) (p : Option Revision) : Type 0 where
  pub good_id : bad_id i ≡ false
  pub on : IsOn s b named e
  pub parent : p ≡ parent_of (replica_of s) e

module _ {s : List ℕ} {i : Id} {h : Hash} {c : Content} {named : Option Revision} {b : Body} {p : Option Revision} (taken : Taken s i named (edit_of i h c named) b p) where
  abbrev r : Replica
  r = replica_of s

  abbrev e : Edit
  e = edit_of i h c named

  pub ruled : IsRuled s b c named p e
  ruled = record { on = taken.on; content = refl; takes = taken.parent }

  -- 9
  pub refused_parent : parent_rule r e ≡ false → EditDone s e (Err NotAParent) s
  refused_parent a = edit_refused s e NotAParent taken.on.stored (first_parent r e taken.good_id a)

  module _ (rule : parent_rule r e ≡ true) where
    -- 11
    pub refused_last : last_number r e ≡ true → EditDone s e (Err LastNumber) s
    refused_last a = edit_refused s e LastNumber taken.on.stored (first_last r e taken.good_id rule a)

    module _ (below : last_number r e ≡ false) {n : RevNumber} (number : n ≡ new_number r e) where
      known_is : already_known r e ≡ not (is_none (find order_rev (revision n.0 h) (tree_in b s)))
      unfolding already_known
      known_is =
          ap₂ (λ (m : RevNumber) (u : Tree). not (is_none (find order_rev (revision m.0 h) u))) (sym number) (sym taken.on.shows.tree)

      -- 10
      pub refused_known : is_none (find order_rev (revision n.0 h) (tree_in b s)) ≡ false → EditDone s e (Err AlreadyKnown) s
      refused_known a =
          edit_refused s e AlreadyKnown taken.on.stored (first_known r e taken.good_id rule below (known_is ∙ ap not a))

      good_parent : GoodParent (parent_of r e)
      good_parent = go (parent_of r e) refl
        where
          go : (o : Option Revision) → parent_of r e ≡ o → GoodParent o
          go None q = tt
          go (Some w) q =
              let k = parent_known r e taken.on.stored.replica rule w q in
              let g : IsRevision w = (sound_own r taken.on.stored.replica).revision i (w, k.0) k.1 in
              (g.size, g.least)

      abbrev w : Write
      w = write_of i n (child_path h p) c

      write_is : as_write r e ≡ w
      unfolding as_write
      write_is =
          ap₂ (λ (m : RevNumber) (x : Hash). write_of i m (h ++ x) c) (sym number)
          (ap (maybe [] (λ (x : Revision). x.hash)) (sym taken.parent))

      module _ (size : length h ≡ hash_size) where
        pub can_write : (f : Result ℕ ℕ) → place_of_id 0 i (documents_of s) ≡ f → CanWrite s f w
        unfolding as_write
        can_write f q = record {
          stored = taken.on.stored;
          place = q;
          form = subst (λ (x : Write). first_that (form_refusals x) ≡ None) write_is (edit_form r e size good_parent taken.good_id);
        }

        by_write : is_none (find order_rev (revision n.0 h) (tree_in b s)) ≡ true → edit r e ≡ (answer_of n (write r w).0, (write r w).1)
        by_write a =
            edit_by_write r e size good_parent (known_is ∙ ap not a) taken.good_id rule below
            ∙ ap₂ {C = Result RevNumber Refusal × Replica} (λ (m : RevNumber) (x : Write). (answer_of m (write r x).0, (write r x).1)) (sym number) write_is

        -- none of its own refusals holds: it is the path write
        pub edit_done : is_none (find order_rev (revision n.0 h) (tree_in b s)) ≡ true
            → {x : Result RevNumber Refusal} {after : List ℕ} → ChildWritten s w n x after → EditDone s e x after
        edit_done a {x} {after} k =
            let m = by_write a in
            let d = ap (λ (o : Result RevNumber Refusal × Replica). o.1) (sym m) in
            record {
              answer = k.answer ∙ ap (λ (o : Result RevNumber Refusal × Replica). o.0) (sym m);
              left = k.left ∙ ap stored d;
              means = k.means ∙ d;
              is = k.is;
            }
