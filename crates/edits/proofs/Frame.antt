-- From the promise alone: every edit leaves a replica, every other document answers as before, and where
-- it is refused every byte is as before. Assumes nothing.
use mathlib.Core.Path.{◌≡◌, sym, ◌∙◌}
use Rattle.rules.specs.declared.RevNumber.{RevNumber}
use Rattle.std.specs.Prelude.{Result, Err}
use mathlib.Core.List.{List}
use Prim.Native.Nat.{ℕ}
use Rattle.rules.specs.declared.Refusal.{Refusal}
use Rattle.rules.specs.Edit.{Edit}
use Rattle.rules.specs.Outcome.{Call}
use Rattle.store.specs.Storage.{replica_of, IsStored}
use Rattle.union.specs.Said.{IsEdit, AlikeAt}
use Rattle.union.proofs.Demand3 as union
use Rattle.writes.proofs.Frame.{Framed, framed}
use Rattle.edits.specs.Edit.{edit_of, EditDone}
use Rattle.edits.proofs.edit.Kinds as edit
use Rattle.edits.proofs.edit.Reads as edit'

-- a call of the compiled edit, by the names of what it is given and what it leaves
module _ (c : Call _ edit.ps edit.r edit'.Asked edit'.Learnt) where
  abbrev lent : List ℕ
  lent = c.args.0.now

  abbrev left : List ℕ
  left = c.exit.0.now

  abbrev given : Edit
  given = edit_of c.args.1.0.now c.args.1.1.0 c.args.1.1.1.0 c.args.1.1.1.1.0

  pub edit_framed : Framed given.id lent left
  edit_framed = framed given.id lent left c.asks c.promise.is c.promise.means (union.edit_frame (replica_of lent) given)

  -- "A refusal .. alters neither replica nor buffer"
  pub edit_refused : (n : Refusal) → c.result ≡ Err n → left ≡ lent
  edit_refused n e =
      let p = c.promise in
      edit_framed.same (p.means ∙ union.edit_refused (replica_of lent) given n (sym p.answer ∙ e))

-- "Only the update sequence and the shared room connect them.": an edit of buffers alike in its document, in
-- update sequence and in both counts is answered alike, and leaves them alike in these
pub edit_alike : (e : Edit) (s t : List ℕ) (x y : Result RevNumber Refusal) (s' t' : List ℕ) → IsEdit e → IsStored s → IsStored t → AlikeAt e.id (replica_of s) (replica_of t)
    → EditDone s e x s' → EditDone t e y t' → (x ≡ y) × AlikeAt e.id (replica_of s') (replica_of t')
edit_alike e s t x y s' t' k ks kt h p q =
    let u = union.edit_alike e (replica_of s) (replica_of t) h ks.replica kt.replica k in
    (p.answer ∙ (u.0 ∙ sym q.answer), rw (p.means, q.means) u.1)
