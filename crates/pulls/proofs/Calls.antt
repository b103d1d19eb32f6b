-- Calls of the compiled write and pull: their promises are what is said of them, and what each leaves of the replica that was held. Assumes nothing.
use mathlib.Core.Path.{◌≡◌, refl, sym, ap, ap₂, ◌∙◌, subst}
use Rattle.rules.specs.declared.Refusal.{Refusal}
use Rattle.rules.specs.declared.Outcome.{Outcome}
use Rattle.std.specs.Prelude.{Result}
use mathlib.Core.List.{List, [], ◌∷◌}
use Prim.Native.Nat.{ℕ}
use Rattle.rules.specs.declared.Seq.{Seq}
use Rattle.rules.specs.Outcome.{Call}
use Rattle.rules.specs.Replica.{Replica}
use Rattle.rules.specs.Union.{write_all, IsAccepted, AllAccepted}
use Rattle.rules.specs.Write.{Write}
use Rattle.union.specs.Said.{answers}
use Rattle.store.specs.Storage.{replica_of, IsStored}
use Rattle.writes.specs.Calls.{WriteCalls, answers_of, NoneRefused}
use Rattle.writes.specs.Judge.{Wrote}
use Rattle.writes.specs.Path.{write_of}
use Rattle.pulls.specs.Pulls.{Pulled}
use Rattle.writes.proofs.write.Kinds as write
use Rattle.writes.proofs.write.Reads as write'
use Rattle.pulls.proofs.pull.Kinds as pull
use Rattle.pulls.proofs.pull.Reads as pull'

-- ---- what callers of the compiled functions learn is what the theorems ask for

module _ (c : Call _ write.ps write.r write'.Asked write'.Learnt) where
  abbrev given : Write
  given = write_of c.args.1.0.now c.args.1.1.0 c.args.1.1.1.0.now c.args.1.1.1.1.0

  pub call_wrote : Wrote c.args.0.now given c.result c.exit.0.now
  call_wrote = c.promise

module _ (c : Call _ pull.ps pull.r pull'.Asked pull'.Learnt) where
  abbrev target : List ℕ
  target = c.args.0.now

  abbrev source : List ℕ
  source = c.args.1.0.now

  abbrev after : Seq
  after = c.args.1.1.0

  pub call_pulled : Pulled after source target c.result c.exit.0.now
  call_pulled = c.promise

-- ---- what calls one after the other leave of the replica

pub record Ran (ws : List Write) (s left : List ℕ) (calls : WriteCalls ws s left) : Type 0 where
  pub replica : replica_of left ≡ write_all ws (replica_of s)
  pub is_stored : IsStored left
  pub accepted : AllAccepted ws (replica_of s) → NoneRefused ws s left calls

pub ran : (ws : List Write) (s left : List ℕ) → IsStored s → (calls : WriteCalls ws s left) → Ran ws s left calls
unfolding write_all
ran [] s left k calls = record {
  replica = ap replica_of (sym calls);
  is_stored = subst IsStored calls k;
  accepted = λ h. tt;
}
ran (w ∷ ws) s left k calls =
    let d = calls.2 in
    let e = d.means in
    let rest = ran ws calls.1 left d.is calls.3 in
    record {
      replica = rest.replica ∙ ap (write_all ws) e;
      is_stored = rest.is_stored;
      accepted = λ h. (subst IsAccepted (sym d.answer) h.0, rest.accepted (subst (AllAccepted ws) (sym e) h.1));
    }

-- and what they answer
pub answered : (ws : List Write) (s left : List ℕ) (calls : WriteCalls ws s left) → answers_of ws s left calls ≡ answers (replica_of s) ws
unfolding answers
answered [] s left calls = refl
answered (w ∷ ws) s left calls =
    let d = calls.2 in
    ap₂ (λ (o : Result Outcome Refusal) (os : List (Result Outcome Refusal)). o ∷ os) d.answer
    (answered ws calls.1 left calls.3 ∙ ap (λ (r : Replica). answers r ws) d.means)
