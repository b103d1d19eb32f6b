-- Each public function has one outcome. Assumes nothing.
use mathlib.Core.Path.{◌≡◌, refl, sym, ap, ◌∙◌}
use Rattle.std.specs.Prelude.{Result, Ok, Err}
use Prim.Native.Nat.{ℕ}
use Rattle.rules.specs.declared.Fault.{Fault}
use Rattle.rules.specs.Outcome.{OneOutcome, nothing}
use Rattle.rules.proofs.MapLaws.{none≢some, some_inj}
use Rattle.faults.specs.Judged.{judged}
use Rattle.faults.proofs.fault.Kinds as fault
use Rattle.faults.proofs.fault.Reads as fault'
use Rattle.faults.proofs.fault_number.Kinds as fault_number
use Rattle.faults.proofs.fault_number.Reads as faultNumber'

judged_one : (x y : Result (Unit {0}) (Fault × ℕ)) → judged x ≡ judged y → x ≡ y
judged_one (Ok u) (Ok v) e = refl
judged_one (Ok u) (Err (f, p)) e = absurd (none≢some e)
judged_one (Err (f, p)) (Ok u) e = absurd (none≢some (sym e))
judged_one (Err (f, p)) (Err (g, q)) e =
    let same = some_inj e in ap (λ (x : Fault × ℕ). Err (x.0, x.1)) same

pub fault_outcome : OneOutcome _ fault.ps fault.r fault'.Asked fault'.Learnt nothing
fault_outcome κs a x y s t h p q = (judged_one x y (p ∙ sym q), refl)

pub fault_number_outcome : OneOutcome _ fault_number.ps fault_number.r faultNumber'.Asked faultNumber'.Learnt nothing
fault_number_outcome κs a x y s t h p q = (p.is ∙ sym q.is, refl)
