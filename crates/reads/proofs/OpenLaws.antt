-- A document found or not, its tree, and the refusals 1 and 12. Assumes nothing.
use mathlib.Core.Path.{◌≡◌, refl, sym, ap, ◌∙◌, subst}
use Rattle.std.specs.Prelude.{Result, Ok, Err}
use mathlib.Core.Bool.{true, false}
use mathlib.Core.List.{List}
use Rattle.std.specs.Prelude.{Option, None, Some}
use Prim.Native.Nat.{ℕ, ◌<◌}
use native.Mathlib.Omega.{arith}
use lib.ListN.{length}
use Rattle.rules.specs.declared.Refusal.{Refusal}
use Rattle.rules.specs.declared.Refusal.TheVariants.{BadId, NoDocument}
use Rattle.rules.specs.Choice.{first_that}
use Rattle.rules.specs.Map.{Ascending}
use Rattle.rules.specs.Order.{order_rev}
use Rattle.rules.specs.Read.{document_refusals}
use Rattle.rules.specs.Replica.{Id, Document, Replica, document_of, tree_of, tree_in, IsDocument, IsTree}
use Rattle.rules.specs.Write.{bad_id}
use Rattle.rules.proofs.MapLaws.{none≢some, some_inj}
use Rattle.rules.proofs.OrderLaws.{bytes_order}
use Rattle.tree.specs.declared.table.Body.{Body}
use Rattle.tree.specs.Table.{Searchable}
use Rattle.store.specs.Storage.{replica_of, IsStored}
use Rattle.store.specs.Documents.{documents_of, document_at, no_document, place_of_id, body_at, IsBody, Shows}
use Rattle.store.proofs.EntryLaws.{all_at}
use Rattle.store.proofs.FitLaws.{all_found, stored_laid}
use Rattle.store.proofs.PlaceLaws.{id_found, id_gap}
use Rattle.store.proofs.BodyLaws.{found_body, body_shows, body_is}
use Rattle.reads.specs.Reads.{CanRead, IdChecked, IsOpen, Opens}
use Rattle.reads.specs.Next.{HasTree}

-- ---- the documents of a replica in a buffer

-- each document that is listed is one
pub each_document : (s : List ℕ) (d : ℕ) → IsStored s → d < length (documents_of s) → IsDocument (replica_of s) (document_at (documents_of s) d).0 (document_at (documents_of s) d).1
unfolding document_of document_at
each_document s d h l =
    let P : Id × Document → Type 0 = λ x. IsDocument (replica_of s) x.0 x.1 in
    all_at P (documents_of s) d no_document (all_found bytes_order P (documents_of s) h.replica.ascending h.replica.documents) l

-- whether the document is there or not, its revisions ascend
pub tree_ascends : (s : List ℕ) (i : Id) → IsStored s → Ascending order_rev (tree_of (replica_of s) i)
unfolding tree_of
tree_ascends s i h = go (document_of (replica_of s) i) refl
  where
    go : (o : Option Document) → document_of (replica_of s) i ≡ o → Ascending order_rev (tree_in o)
    go None e = tt
    go (Some d) e = (h.replica.documents i d e).tree.ascending

pub has_tree : (s : List ℕ) (d : ℕ) → IsStored s → d < length (documents_of s) → HasTree s d
has_tree s d h l = record { document = record { laid = stored_laid s h; within = l }; is = (each_document s d h l).tree }

-- the rows of a document are its tree
pub tree_rows : (s : List ℕ) (d : ℕ) (b : Body) → HasTree s d → IsBody s d b → CanRead b s
tree_rows s d b h k =
    let w = body_shows s d b k in
    let i = subst IsTree (sym w.tree) h.is in
    record { rows = record { within = w.within; ascending = i.ascending }; is = i }

-- rows that show a tree can be searched where the tree ascends
pub shown_rows : (s : List ℕ) (i : Id) (b : Body) → IsStored s → Shows s b (tree_of (replica_of s) i) → Searchable b s
shown_rows s i b h w = record { within = w.within; ascending = rw w.tree (tree_ascends s i h) }

-- ---- 1

pub id_refused : {i : Id} → bad_id i ≡ true → IdChecked i (Err BadId)
id_refused e = record {
  good = λ q. absurd (let z : ◌≡◌ {A = ℕ} 0 1 = cc in omega arith);
  refused = λ n q. (e, cc);
}

pub id_good : {i : Id} → bad_id i ≡ false → IdChecked i (Ok tt)
id_good e = record {
  good = λ q. e;
  refused = λ n q. absurd (let z : ◌≡◌ {A = ℕ} 0 1 = cc in omega arith);
}

-- ---- 1 and 12

module _ (r : Replica) (i : Id) where
  pub refused_id : bad_id i ≡ true → first_that (document_refusals r i) ≡ Some BadId
  unfolding first_that document_refusals
  refused_id e = rw e refl

  pub refused_document : bad_id i ≡ false → document_of r i ≡ None → first_that (document_refusals r i) ≡ Some NoDocument
  unfolding first_that document_refusals
  refused_document e d = rw (e, d) refl

  pub refused_none : (x : Document) → bad_id i ≡ false → document_of r i ≡ Some x → first_that (document_refusals r i) ≡ None
  unfolding first_that document_refusals
  refused_none x e d = rw (e, d) refl

module _ (s : List ℕ) (i : Id) (d : ℕ) (good : bad_id i ≡ false) where
  pub opens : (b : Body) → IsStored s → place_of_id 0 i (documents_of s) ≡ Ok d → IsBody s d b → IsOpen s i b
  unfolding document_of
  opens b h e k =
      let f = (id_found d i (documents_of s) e).found in
      record {
        refusals = refused_none (replica_of s) i (document_at (documents_of s) d).1 good f;
        rows = tree_rows s d b (has_tree s d h k.document.within) k;
        tree = (found_body s i d b e k).shows.tree;
        place = d;
        found = e;
        body = k;
      }

  pub opens_none : place_of_id 0 i (documents_of s) ≡ Err d → first_that (document_refusals (replica_of s) i) ≡ Some NoDocument
  unfolding document_of
  opens_none e = refused_document (replica_of s) i good (id_gap d i (documents_of s) e).found

-- ---- what was opened

pub opens_at : {s : List ℕ} {i : Id} {b : Body} → IsOpen s i b → Opens s i (Ok b)
opens_at {s} {i} {b} h = record {
  at = λ c e. let z : b ≡ c = cc in subst (λ (x : Body). IsOpen s i x) z h;
  refused = λ n e. absurd (let z : ◌≡◌ {A = ℕ} 0 1 = cc in omega arith);
}

pub opens_refused : {s : List ℕ} {i : Id} (n : Refusal) → first_that (document_refusals (replica_of s) i) ≡ Some n → Opens s i (Err n)
opens_refused n h = record {
  at = λ c e. absurd (let z : ◌≡◌ {A = ℕ} 0 1 = cc in omega arith);
  refused = λ m e. let z : n ≡ m = cc in h ∙ ap Some z;
}

-- it is opened in one way
pub opens_one : {s : List ℕ} {i : Id} (q r : Result Body Refusal) → Opens s i q → Opens s i r → q ≡ r
opens_one {s = s} (Ok b) (Ok c) o p =
    let x = o.at b refl in
    let y = p.at c refl in
    let q : ◌≡◌ {A = Result ℕ ℕ} (Ok x.place) (Ok y.place) = sym x.found ∙ y.found in
    ap Ok (body_is s x.place b x.body ∙ (ap (body_at (documents_of s)) q ∙ sym (body_is s y.place c y.body)))
opens_one (Ok b) (Err n) o p = absurd (none≢some (sym (o.at b refl).refusals ∙ p.refused n refl))
opens_one (Err m) (Ok c) o p = absurd (none≢some (sym (p.at c refl).refusals ∙ o.refused m refl))
opens_one (Err m) (Err n) o p = ap Err (some_inj (sym (o.refused m refl) ∙ p.refused n refl))
