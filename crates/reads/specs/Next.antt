-- Changes: the document with the lowest own sequence above another, by its index, and what is answered of it.
use Rattle.std.specs.Prelude.{◌≡◌, Bool, false, ◌&&◌, List, [], ◌∷◌, ℕ, ◌≤◌, ◌<◌, leb, ltb, length, drop}
use Rattle.rules.specs.declared.Change.{Change}
use Rattle.rules.specs.declared.Refusal.{Refusal}
use Rattle.std.specs.Prelude.{Option, None, Result, Ok, Err}
use Rattle.std.specs.Prelude.{Some}
use Rattle.rules.specs.declared.Seq.{Seq}
use Rattle.rules.specs.Answer.{accepted, next_number}
use Rattle.rules.specs.Choice.{pick, maybe, first_that}
use Rattle.rules.specs.Map.{Map}
use Rattle.rules.specs.Read.{winner, documents_after, short_buffer, lend, is_deletion, change_of, first_of}
use Rattle.rules.specs.Replica.{Id, Tree, Document, Replica, document_of, IsTree}
use Rattle.store.specs.Documents.{documents_of, document_at, HasDocument}

-- document d with its own sequence q, or what was found among the documents behind it
abbrev pub sooner : Seq → ℕ → Seq → Option (ℕ × Seq) → Option (ℕ × Seq)
sooner s d q None = pick (ltb s.0 q.0) (Some (d, q)) None
sooner s d q (Some (e, p)) = pick (ltb s.0 q.0 && leb q.0 p.0) (Some (d, q)) (Some (e, p))

-- it is the first after s of the documents from k on, and its number is that one's own sequence
abbrev pub IsNext : Seq → ℕ → Map Id Document → Option (ℕ × Seq) → Type 0
IsNext s k ds None = documents_after s (drop k ds) ≡ []
IsNext s k ds (Some (d, q)) =
    (d < length ds)
    × (first_of (documents_after s (drop k ds)) ≡ Some (document_at ds d))
    × (next_number (Some (d, q)) ≡ accepted (document_at ds d).1.seq.0)

-- "the document with the lowest own sequence above s"
pub record Lowest (s : Seq) (r : Replica) (i : Id) (d : Document) : Type 0 where
  pub held : document_of r i ≡ Some d
  pub above : s.0 < d.seq.0
  pub lowest : (j : Id) (e : Document) → document_of r j ≡ Some e → s.0 < e.seq.0 → (j ≡ i → ⊥) → d.seq.0 < e.seq.0

-- or "no more": no document has one above s
abbrev pub NoneAbove : Seq → Replica → Type 0
NoneAbove s r = (i : Id) (d : Document) → document_of r i ≡ Some d → d.seq.0 ≤ s.0

-- a document d with its tree
pub record HasTree (s : List ℕ) (d : ℕ) : Type 0 where
  pub document : HasDocument s d
  pub is : IsTree (document_at (documents_of s) d).1.tree

-- "whether its winner is a deletion"
unfoldable pub deletion_wins : Tree → Bool
deletion_wins t = maybe false (λ w. is_deletion w.content) (winner t)

-- "its id written out", and what is answered of document d
unfoldable pub change_read : List ℕ → ℕ → List ℕ → Result (Option Change) Refusal × List ℕ
change_read s d out =
    let x = document_at (documents_of s) d in
    lend Err out (Ok (Some (change_of x))) x.0 (first_that (short_buffer x.0 out ∷ []))
