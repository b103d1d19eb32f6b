-- A document that can be put out or not: the refusals 1, 12 and 43, and 14 where its lines don't fit. Assumes nothing.
use mathlib.Core.Path.{◌≡◌, refl, sym, ap, ◌∙◌, subst}
use Rattle.std.specs.Prelude.{Result, Ok, Err}
use mathlib.Core.Bool.{true, false}
use mathlib.Core.List.{List, [], ◌∷◌, append-nil}
use Rattle.std.specs.Prelude.{None, Some}
use Prim.Native.Nat.{ℕ, ◌≤◌, ◌<◌}
use native.Mathlib.Omega.{arith}
use lib.ListN.{length}
use Rattle.rules.specs.declared.Refusal.{Refusal}
use Rattle.rules.specs.declared.Refusal.TheVariants.{UnwritableId, ShortBuffer}
use Rattle.rules.specs.Choice.{first_that}
use Rattle.rules.specs.Outcome.{Does}
use Rattle.rules.specs.Read.{LeafOf, path_of, document_refusals}
use Rattle.rules.specs.Replica.{Id, Tree, Document, Replica, tree_of, HasContent, IsDocument}
use Rattle.rules.specs.Room.{hashes_most}
use Rattle.rules.specs.Union.{In}
use Rattle.union.proofs.Offers.{path_room_lem, length-held}
use Rattle.text.specs.Text.{Put}
use Rattle.tree.specs.declared.table.Body.{Body}
use Rattle.tree.specs.Table.{tree_in}
use Rattle.store.specs.Storage.{replica_of, IsStored}
use Rattle.store.specs.Documents.{documents_of, document_at}
use Rattle.store.proofs.PlaceLaws.{id_found}
use Rattle.store.proofs.BodyLaws.{body_shows}
use Rattle.reads.proofs.AnswerLaws.{first_past, first_some, reads_past, reads_refused, reads_short, reads_answers}
use Rattle.reads.proofs.NextLaws.{in_at}
use Rattle.reads.proofs.OpenLaws as law
use Rattle.reads.specs.Reads as read
use Rattle.lines.specs.Put.{lines_text, put_refusals, put_out, put_out_size}
use Rattle.lines.specs.Take.{unwritable}
use Rattle.puts.specs.Puts.{CanPut, IsOpen, Opens, lines_in}

-- ---- 1, 12 and 43

module _ (r : Replica) (i : Id) where
  pub refused_document : {x : Refusal} → first_that (document_refusals r i) ≡ Some x → first_that (put_refusals r i) ≡ Some x
  unfolding put_refusals
  refused_document {x} e = first_some (document_refusals r i) ((unwritable i, UnwritableId) ∷ []) x e

  pub refused_id : first_that (document_refusals r i) ≡ None → unwritable i ≡ true → first_that (put_refusals r i) ≡ Some UnwritableId
  unfolding put_refusals first_that
  refused_id e u = first_past (document_refusals r i) ((unwritable i, UnwritableId) ∷ []) e ∙ rw u refl

  refused_none : first_that (document_refusals r i) ≡ None → unwritable i ≡ false → first_that (put_refusals r i) ≡ None
  unfolding put_refusals first_that
  refused_none e u = first_past (document_refusals r i) ((unwritable i, UnwritableId) ∷ []) e ∙ rw u refl

module _ {s : List ℕ} {i : Id} {b : Body} (o : read.IsOpen s i b) (h : IsStored s) where
  abbrev x : Id × Document
  x = document_at (documents_of s) o.place

  held : In x (documents_of s)
  held = in_at (documents_of s) o.place o.body.document.within

  is : IsDocument (replica_of s) x.0 x.1
  is = law.each_document s o.place h o.body.document.within

  tree_is : tree_in b s ≡ x.1.tree
  tree_is = (body_shows s o.place b o.body).tree

  can : CanPut b s i
  can = record {
    rows = o.rows;
    most = let n = length-held (documents_of s) x held in let m = h.replica.revisions_at_most in let q = o.body.rows in omega arith;
    few = few;
    id = rw (sym (id_found o.place i (documents_of s) o.found).is) is.id.most;
  }
    where
      few : (a : LeafOf) → HasContent (tree_in b s) a.rev a.content → length (path_of (tree_in b s) a.rev) ≤ hashes_most
      few a c =
          rw tree_is
          (path_room_lem (replica_of s) h.replica x.0 x.1 held is a
          (subst (λ (t : Tree). HasContent t a.rev a.content) tree_is c))

  pub opens : unwritable i ≡ false → IsOpen s i b
  opens u = record { refusals = refused_none (replica_of s) i o.refusals u; can = can; tree = o.tree }

-- ---- what was opened

pub opens_at : {s : List ℕ} {i : Id} {b : Body} → IsOpen s i b → Opens s i (Ok b)
opens_at {s} {i} {b} h = record {
  at = λ c e. let z : b ≡ c = cc in subst (λ (y : Body). IsOpen s i y) z h;
  refused = λ n e. absurd (let z : ◌≡◌ {A = ℕ} 0 1 = cc in omega arith);
}

pub opens_refused : {s : List ℕ} {i : Id} (n : Refusal) → first_that (put_refusals (replica_of s) i) ≡ Some n → Opens s i (Err n)
opens_refused n h = record {
  at = λ c e. absurd (let z : ◌≡◌ {A = ℕ} 0 1 = cc in omega arith);
  refused = λ m e. let z : n ≡ m = cc in h ∙ ap Some z;
}

-- ---- the answers

module _ (i : Id) (t : Tree) (out : List ℕ) where
  pub lines_short : {n : ℕ} → n ≡ length (lines_text i t) → length out < n → Does (lines_in i t out) (Err ShortBuffer) out
  unfolding lines_in
  lines_short e h = reads_short (length (lines_text i t)) (lines_text i t) out (omega arith)

  pub lines_answered : {n : ℕ} {after : List ℕ} → length (lines_text i t) ≤ length out → Put (lines_text i t) out 0 n after
      → Does (lines_in i t out) (Ok n) after
  unfolding lines_in
  lines_answered {n} {after} h p = reads_answers (length (lines_text i t)) (lines_text i t) out n after h (let e = p.ends in omega arith) p.is

module _ (s : List ℕ) (i : Id) where
  pub size_refused : {n : Refusal} → first_that (put_refusals (replica_of s) i) ≡ Some n → Err n ≡ put_out_size (replica_of s) i
  unfolding put_out_size
  size_refused e = rw e refl

  pub size_opened : {b : Body} {n : ℕ} → IsOpen s i b → n ≡ length (lines_text i (tree_in b s)) → Ok n ≡ put_out_size (replica_of s) i
  unfolding put_out_size
  size_opened h e = rw h.refusals (ap Ok (e ∙ ap (λ (t : Tree). length (lines_text i t)) h.tree))

  module _ (out : List ℕ) where
    pub put_refused : {n : Refusal} → first_that (put_refusals (replica_of s) i) ≡ Some n → Does (put_out (replica_of s) i out) (Err n) out
    unfolding put_out
    put_refused {n} e =
        let bytes = lines_text i (tree_of (replica_of s) i) in
        rw (append-nil (put_refusals (replica_of s) i)) at (reads_refused (put_refusals (replica_of s) i) [] (length bytes) bytes out n e)

    pub put_opened : {b : Body} {r : Result ℕ Refusal} {after : List ℕ} → IsOpen s i b → Does (lines_in i (tree_in b s) out) r after
        → Does (put_out (replica_of s) i out) r after
    unfolding put_out lines_in
    put_opened h d =
        let bytes = lines_text i (tree_of (replica_of s) i) in
        let q = rw (append-nil (put_refusals (replica_of s) i)) at (reads_past (put_refusals (replica_of s) i) [] (length bytes) bytes out h.refusals) in
        rw q (rw h.tree at d)
