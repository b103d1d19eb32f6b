-- From the promise alone: every write leaves a replica, every other document answers as before, and where
-- it is refused or changes nothing every byte is as before. Assumes nothing.
use mathlib.Core.Path.{◌≡◌, sym, ap, ◌∙◌}
use Rattle.rules.specs.declared.Outcome.{Outcome}
use Rattle.std.specs.Prelude.{Result, Ok, Err}
use mathlib.Core.List.{List}
use Prim.Native.Nat.{ℕ}
use Rattle.rules.specs.declared.Outcome.TheVariants.{Unchanged}
use Rattle.rules.specs.declared.Refusal.{Refusal}
use Rattle.rules.specs.Outcome.{Call}
use Rattle.rules.specs.Replica.{Id, Replica, document_of, IsReplica}
use Rattle.rules.specs.Write.{Write}
use Rattle.store.specs.Storage.{replica_of, stored, IsStored}
use Rattle.union.specs.Said.{SameAnswers, AlikeAt}
use Rattle.union.proofs.Apart.{same_answers}
use Rattle.union.proofs.Demand3 as union
use Rattle.writes.specs.Judge.{Wrote}
use Rattle.writes.specs.Path.{write_of}
use Rattle.writes.proofs.write.Kinds as write
use Rattle.writes.proofs.write.Reads as write'

-- what a change to the document i leaves of what was lent
pub record Framed (i : Id) (lent left : List ℕ) : Type 0 where
  -- "Replicas are only what this tool's calls make .. that each call leaves one is proved."
  pub replica : IsReplica (replica_of left)
  -- all that is held of another document stays
  pub frame : (j : Id) → (j ≡ i → ⊥) → document_of (replica_of left) j ≡ document_of (replica_of lent) j
  -- "A write to one document changes no answer about another document's revisions, parents, leaves,
  -- contents, winner or own sequence": nor does an edit
  pub answers : (j : Id) → (j ≡ i → ⊥) → SameAnswers j (replica_of left) (replica_of lent)
  -- the replica stands in the lent bytes: where it stays, every byte does
  pub same : replica_of left ≡ replica_of lent → left ≡ lent

pub framed : (i : Id) (s t : List ℕ) {r : Replica} → IsStored s → IsStored t → replica_of t ≡ r
    → ((j : Id) → (j ≡ i → ⊥) → document_of r j ≡ document_of (replica_of s) j) → Framed i s t
framed i s t {r} k l e f = record {
  replica = l.replica;
  frame = stays;
  answers = λ j n. same_answers j (replica_of t) (replica_of s) (stays j n);
  same = λ q. l.same ∙ (ap stored q ∙ sym k.same);
}
  where
    stays : (j : Id) → (j ≡ i → ⊥) → document_of (replica_of t) j ≡ document_of (replica_of s) j
    stays j n = ap (λ (x : Replica). document_of x j) e ∙ f j n

-- a call of the compiled write, by the names of what it is given and what it leaves
module _ (c : Call _ write.ps write.r write'.Asked write'.Learnt) where
  abbrev lent : List ℕ
  lent = c.args.0.now

  abbrev left : List ℕ
  left = c.exit.0.now

  abbrev given : Write
  given = write_of c.args.1.0.now c.args.1.1.0 c.args.1.1.1.0.now c.args.1.1.1.1.0

  pub write_framed : Framed given.id lent left
  write_framed = framed given.id lent left c.asks c.promise.is c.promise.means (union.write_frame (replica_of lent) given)

  -- "A refusal .. alters neither replica nor buffer"
  pub write_refused : (n : Refusal) → c.result ≡ Err n → left ≡ lent
  write_refused n e =
      let p = c.promise in
      write_framed.same (p.means ∙ union.write_refused (replica_of lent) given n (sym p.answer ∙ e))

  -- "Where nothing was added the answer is unchanged and the sequence stays": so does every byte.
  pub write_unchanged : c.result ≡ Ok Unchanged → left ≡ lent
  write_unchanged e =
      let p = c.promise in
      write_framed.same (p.means ∙ union.write_unchanged (replica_of lent) given (sym p.answer ∙ e))

-- "Only the update sequence and the shared room connect them.": a write to buffers alike in its document, in
-- update sequence and in both counts is answered alike, and leaves them alike in these
pub write_alike : (w : Write) (s t : List ℕ) (x y : Result Outcome Refusal) (s' t' : List ℕ) → AlikeAt w.id (replica_of s) (replica_of t) → Wrote s w x s' → Wrote t w y t'
    → (x ≡ y) × AlikeAt w.id (replica_of s') (replica_of t')
write_alike w s t x y s' t' h p q =
    let u = union.write_alike w (replica_of s) (replica_of t) h in (p.answer ∙ (u.0 ∙ sym q.answer), rw (p.means, q.means) u.1)
