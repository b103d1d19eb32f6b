-- What a document's line says of its tree, and the line put together. Assumes nothing.
use mathlib.Core.Path.{◌≡◌, refl, sym, ap, ◌∙◌}
use mathlib.Core.List.{List, [], ◌∷◌, ◌++◌, map, append_assoc, append-nil}
use Rattle.std.specs.Prelude.{Option, Some, true, is_some}
use Prim.Native.Nat.{ℕ, ◌+◌, ◌-◌, ◌≤◌, ◌<◌}
use native.Mathlib.Numerals.{add-one}
use native.Mathlib.Omega.{arith}
use lib.ListN.{length, take, get_or}
use lib.Seq.{take-suc}
use Rattle.rules.specs.declared.Revision.{Revision}
use Rattle.rules.specs.declared.Seq.{Seq}
use Rattle.rules.specs.Bytes.{join}
use Rattle.rules.specs.Map.{Map}
use Rattle.rules.specs.Read.{LeafOf, leaves, winner, conflicts}
use Rattle.rules.specs.Replica.{Id, Tree, Document, Replica, IsTree}
use Rattle.rules.specs.Report.{decimal, hex, text, line_of, rev_text, line_text, head_text, replica_text, own_word, winner_word}
use Rattle.rules.specs.Room.{id_most}
use Rattle.rules.proofs.ByteLaws.{join_append}
use Rattle.images.proofs.Lists.{map-append}
use Rattle.octets.proofs.SpliceLaws.{splice_none}
use Rattle.text.specs.Text.{Put}
use Rattle.store.specs.Storage.{IsStored}
use Rattle.store.specs.Documents.{documents_of, document_at, no_document}
use Rattle.report.specs.Lines.{counts_text, winner_rev, standing_text, lines_text}
use Rattle.reads.proofs.OpenLaws.{each_document}
use Rattle.reads.proofs.TreeLaws.{has_winner}
use Rattle.report.proofs.WinnerLaws.{conflict_count}

-- ---- the winner

-- a tree has one
pub some_winner : {t : Tree} {o : Option LeafOf} → IsTree t → o ≡ winner t → is_some o ≡ true
some_winner {t} h e = rw (e, (has_winner t h).1) refl

pub winner_rev_lem : (t : Tree) {o : Option LeafOf} {a : LeafOf} → o ≡ winner t → o ≡ Some a → a.rev ≡ winner_rev t
unfolding winner_rev
winner_rev_lem t e f = rw (sym e, f) refl

-- ---- the documents of a buffer

pub id_at_most : (s : List ℕ) (d : ℕ) {i : Id} → IsStored s → d < length (documents_of s) → i ≡ (document_at (documents_of s) d).0 → length i ≤ id_most
id_at_most s d h k e = rw e (each_document s d h k).id.most

-- ---- a line as it is put together

pub line_joined : (x : Id × Document) {i : Id} {q : Seq} {t : Tree} → IsTree x.1.tree → i ≡ x.0 → q ≡ x.1.seq → t ≡ x.1.tree
    → (hex i ++ (text own_word ++ decimal q.0)) ++ standing_text t ≡ line_text (line_of x)
unfolding line_text line_of standing_text counts_text winner_rev
line_joined x h e f g =
    let c : length (leaves x.1.tree) - 1 ≡ length (conflicts x.1.tree) = omega (arith, conflict_count x.1.tree h) in
    rw (e, f, g, c) (simp append_assoc)

pub standing_joined : (t : Tree) {v : Revision} {n : ℕ} → v ≡ winner_rev t → n ≡ length (leaves t)
    → (text winner_word ++ rev_text v) ++ counts_text n ≡ standing_text t
unfolding standing_text
standing_joined t e f = rw (sym e, sym f) (simp append_assoc)

pub lines_none : (ds : Map Id Document) (s : List ℕ) (at : ℕ) → Put (lines_text (take 0 ds)) s at at s
unfolding lines_text join
lines_none ds s at = record { is = sym (splice_none s at); ends = omega arith }

pub lines_more : (ds : Map Id Document) (d : ℕ) → d < length ds → lines_text (take d ds) ++ line_text (line_of (document_at ds d)) ≡ lines_text (take (d + 1) ds)
unfolding lines_text document_at join
lines_more ds d h =
    let x : Id × Document = get_or ds d no_document in
    let f : Id × Document → List ℕ = λ y. line_text (line_of y) in
    let t : take (d + 1) ds ≡ take d ds ++ (x ∷ []) = rw add-one (take-suc ds d no_document h) in
    sym
    (ap (λ (l : Map Id Document). join (map f l)) t
    ∙ (ap join (map-append f (take d ds) (x ∷ []))
    ∙ (join_append (map f (take d ds)) (f x ∷ []) ∙ ap (λ (l : List ℕ). join (map f (take d ds)) ++ l) (append-nil (f x)))))

pub replica_joined : (r : Replica) → head_text r ++ lines_text r.documents ≡ replica_text r
unfolding replica_text lines_text
replica_joined r = refl
