-- Each public function has one outcome. Assumes nothing.
use mathlib.Core.List.{List}
use Rattle.rules.specs.declared.Refusal.{Refusal}
use Rattle.rules.specs.declared.Outcome.{Outcome}
use Rattle.std.specs.Prelude.{Result}
use Rattle.std.specs.Prelude.{Option}
use mathlib.Core.Path.{◌≡◌, sym, ap, ◌∙◌}
use Prim.Native.Nat.{ℕ}
use Rattle.rules.specs.Outcome.{OneOutcome}
use Rattle.store.specs.Storage.{stored, replica_of}
use Rattle.lines.specs.Take.{Members, take_in}
use Rattle.lines.proofs.TakesLaws.{holds_one}
use Rattle.takes.specs.Took.{Took}
use Rattle.takes.proofs.take_in.Kinds as take-in
use Rattle.takes.proofs.take_in.Reads as take-in'

-- what is left and answered is that of the one thing that the line holds
pub took_one : {s line : List ℕ} {x y : Result Outcome Refusal} {a b : List ℕ} → Took s line x a → Took s line y b → (x ≡ y) × (a ≡ b)
took_one {s} {line} p q =
    let e : p.members ≡ q.members = holds_one line p.members q.members p.holds q.holds in (
      p.answer ∙ (ap (λ (m : Option Members). (take_in (replica_of s) m).0) e ∙ sym q.answer),
      p.left ∙ (ap (λ (m : Option Members). stored (take_in (replica_of s) m).1) e ∙ sym q.left),
    )

pub take_in_outcome : OneOutcome _ take-in.ps take-in.r take-in'.Asked take-in'.Learnt (λ κs s. s.0.now)
take_in_outcome κs a x y s t h p q = took_one p q
