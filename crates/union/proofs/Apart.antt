-- One document and the others: reads of a document depend on it alone, and a write to it on it, the update sequence and the counts alone. Assumes nothing.
use mathlib.Core.Path.{◌≡◌, refl, sym, ap, ◌∙◌, subst}
use Rattle.rules.specs.declared.Outcome.{Outcome}
use Rattle.std.specs.Prelude.{Result, Ok, Err}
use mathlib.Core.Bool.{Bool, true, false}
use mathlib.Core.List.{List, [], ◌∷◌}
use mathlib.Core.Logic.{inl}
use Rattle.std.specs.Prelude.{Option, None, Some}
use Prim.Native.Nat.{ℕ}
use native.Mathlib.Omega.{arith}
use lib.ListN.{length}
use Rattle.rules.specs.declared.Change.{Change}
use Rattle.rules.specs.declared.Outcome.TheVariants.{Changed, Unchanged}
use Rattle.rules.specs.declared.Refusal.{Refusal}
use Rattle.rules.specs.declared.Seq.{Seq}
use Rattle.rules.specs.Choice.{pick, maybe, first_that}
use Rattle.rules.specs.Edit.{Edit, parent_of, parent_rule, new_number, as_write, already_known, last_number, edit_refusals, edit}
use Rattle.rules.specs.Read.{documents_after, front, short_buffer, lend, read_winner, read_leaves, read_path, read_missing, document_refusals, change_of, first_of, read_changes}
use Rattle.rules.specs.Replica.{Id, Document, Replica, document_of, tree_of, IsReplica}
use Rattle.rules.specs.Write.{Write, gives, add_all, next, added, adds, documents_full, revisions_full, sequence_spent, room_refusals, write_refusals, settle, write}
use Rattle.rules.specs.Union.{In}
use Rattle.rules.proofs.OrderLaws.{bytes_order}
use Rattle.rules.proofs.MapLaws.{none≢some, some_inj}
use Rattle.union.specs.Said.{IsEdit, change_about, SameAnswers, AlikeAt}
use Rattle.union.proofs.Refusals.{passed}
use Rattle.union.proofs.Cases.{added_here, now}
use Rattle.union.proofs.Count.{in_find, length_alter, length_alter_some}
use Rattle.union.proofs.Growth.{held_after}
use Rattle.union.proofs.Edits.{edit_is_write}
use Rattle.union.proofs.Offers.{after_out}

-- ---- reads

first_in : {A : Type 0} (xs : List A) (x : A) → first_of xs ≡ Some x → In x xs
first_in [] x e = absurd (none≢some e)
first_in (y ∷ ys) x e = inl (sym (some_inj e))

pub same_answers : (i : Id) (r s : Replica) → document_of r i ≡ document_of s i → SameAnswers i r s
same_answers i r s e = record {
  winner = λ out. (unfold read_winner document_refusals tree_of in rw e refl);
  leaves = λ out. (unfold read_leaves document_refusals tree_of in rw e refl);
  path = λ v out. (unfold read_path document_refusals tree_of in rw e refl);
  missing = λ asked out. (unfold read_missing tree_of in rw e refl);
  change = rw e refl;
}

-- what changes says is what is said of the document whose id it writes
pub changes_about : (r : Replica) → IsReplica r → (s : Seq) (out left : List ℕ) (c : Change) → read_changes r s out ≡ (Ok (Some c), left)
    → (i : Id) × (left ≡ front i out) × (change_about r i ≡ Some c)
unfolding read_changes document_of
changes_about r k s out left c = go (first_of (documents_after s r.documents)) refl
  where
    said : (x : Id × Document) → In x r.documents → (o : Option Refusal)
        → lend Err out (Ok (Some (change_of x))) x.0 o ≡ (Ok (Some c), left) → (i : Id) × (left ≡ front i out) × (change_about r i ≡ Some c)
    said x m (Some n) q =
        let e : Err n ≡ Ok (Some c) = ap (λ (z : Result (Option Change) Refusal × List ℕ). z.0) q in
        absurd (let z : ◌≡◌ {A = ℕ} 0 1 = cc in omega arith)
    said x m None q =
        let e : Ok (Some (change_of x)) ≡ Ok (Some c) = ap (λ (z : Result (Option Change) Refusal × List ℕ). z.0) q in
        let f : change_of x ≡ c = cc in
        (x.0, ap (λ (z : Result (Option Change) Refusal × List ℕ). z.1) (sym q), rw (in_find bytes_order r.documents k.ascending x m) (ap Some f))

    go : (o : Option (Id × Document)) → first_of (documents_after s r.documents) ≡ o
        → maybe (Ok None, out) (λ d. lend Err out (Ok (Some (change_of d))) d.0 (first_that (short_buffer d.0 out ∷ []))) o ≡ (Ok (Some c), left)
        → (i : Id) × (left ≡ front i out) × (change_about r i ≡ Some c)
    go None e q =
        let f : (Ok None) ≡ Ok (Some c) = ap (λ (z : Result (Option Change) Refusal × List ℕ). z.0) q in
        absurd (let z : ◌≡◌ {A = ℕ} 0 1 = cc in omega arith)
    go (Some x) e q =
        said x (after_out s r.documents x (first_in (documents_after s r.documents) x e)) (first_that (short_buffer x.0 out ∷ [])) q

-- ---- a write

module _ (i : Id) (r s : Replica) (h : AlikeAt i r s) where
  same_tree : tree_of r i ≡ tree_of s i
  unfolding tree_of
  same_tree = rw h.document refl

module _ (w : Write) (r s : Replica) (h : AlikeAt w.id r s) where
  same_adds : adds r w ≡ adds s w
  unfolding adds
  same_adds = rw (same_tree w.id r s h) refl

  same_refusals : write_refusals r w ≡ write_refusals s w
  unfolding write_refusals room_refusals documents_full revisions_full sequence_spent
  same_refusals = rw (same_adds, same_tree w.id r s h, h.document, h.seq, h.documents, h.revisions) refl

  same_now : now r w ≡ now s w
  same_now = λ j. record { seq = next (h.seq j); tree = add_all (gives w) (same_tree w.id r s h j) }

  added_documents : length (added r w).documents ≡ length (added s w).documents
  unfolding added document_of
  added_documents = go (document_of r w.id) refl
    where
      go : (o : Option Document) → document_of r w.id ≡ o → length (added r w).documents ≡ length (added s w).documents
      go None e =
          let a = length_alter bytes_order w.id (λ d. now r w) r.documents e in
          let b = length_alter bytes_order w.id (λ d. now s w) s.documents (sym h.document ∙ e) in
          let c = h.documents in
          omega (arith, a, b, c)
      go (Some d) e =
          let a = length_alter_some bytes_order w.id (λ d. now r w) r.documents d e in
          let b = length_alter_some bytes_order w.id (λ d. now s w) s.documents d (sym h.document ∙ e) in
          let c = h.documents in
          omega (arith, a, b, c)

  added_alike : first_that (write_refusals r w) ≡ None → AlikeAt w.id (added r w) (added s w)
  added_alike ok = record {
    document = added_here r w ∙ (ap Some same_now ∙ sym (added_here s w));
    seq = (unfold added in ap next h.seq);
    documents = added_documents;
    revisions = (let low = (passed r w ok).form.number_ok in
        held_after r w low ∙ (rw (h.revisions, same_tree w.id r s h) (sym (held_after s w low))));
  }

  pub write_alike : ((write r w).0 ≡ (write s w).0) × AlikeAt w.id (write r w).1 (write s w).1
  unfolding write
  write_alike = rw (sym same_refusals, sym same_adds) (go (first_that (write_refusals r w)) refl (adds r w))
    where
      left : (t : Replica) → Bool → Option Refusal → Result Outcome Refusal × Replica
      left t b o = settle Err t (pick b (Ok Changed, added t w) (Ok Unchanged, t)) o

      go : (o : Option Refusal) → first_that (write_refusals r w) ≡ o → (b : Bool) → ((left r b o).0 ≡ (left s b o).0) × AlikeAt w.id (left r b o).1 (left s b o).1
      go (Some n) e b = (refl, h)
      go None e true = (refl, added_alike e)
      go None e false = (refl, h)

-- ---- an edit

module _ (e : Edit) (r s : Replica) (h : AlikeAt e.id r s) where
  same_parent : parent_of r e ≡ parent_of s e
  unfolding parent_of
  same_parent = rw (same_tree e.id r s h) refl

  same_number : new_number r e ≡ new_number s e
  unfolding new_number
  same_number = rw same_parent refl

  same_write : as_write r e ≡ as_write s e
  unfolding as_write
  same_write = rw (same_number, same_parent) refl

  same_edit_refusals : edit_refusals r e ≡ edit_refusals s e
  unfolding edit_refusals parent_rule last_number already_known room_refusals documents_full revisions_full sequence_spent
      adds as_write
  same_edit_refusals = rw (same_number, same_parent, same_tree e.id r s h, h.document, h.seq, h.documents, h.revisions) refl

  pub edit_alike : IsReplica r → IsReplica s → IsEdit e → ((edit r e).0 ≡ (edit s e).0) × AlikeAt e.id (edit r e).1 (edit s e).1
  edit_alike kr ks ke = go (first_that (edit_refusals r e)) refl
    where
      go : (o : Option Refusal) → first_that (edit_refusals r e) ≡ o → ((edit r e).0 ≡ (edit s e).0) × AlikeAt e.id (edit r e).1 (edit s e).1
      go (Some n) q = unfold edit in rw (sym same_edit_refusals, q) (refl, h)
      go None q =
          let a = edit_is_write r e kr ke q in
          let b = edit_is_write s e ks ke (ap first_that (sym same_edit_refusals) ∙ q) in
          let g = (write_alike (as_write r e) r s (unfold as_write in h)).1 in (
            (unfold edit in rw (sym same_edit_refusals, q) (ap Ok same_number)),
            subst (λ (z : Replica). AlikeAt e.id z (edit s e).1) (ap (λ (z : Result Outcome Refusal × Replica). z.1) a)
                (subst (λ (z : Replica). AlikeAt e.id (write r (as_write r e)).1 z) (ap (λ (z : Write). (write s z).1) same_write ∙ ap (λ (z : Result Outcome Refusal × Replica). z.1) b)
                (unfold as_write in g)),
          )
