-- `report::put_loaded` meets its contract. Assumes nothing.
use mathlib.Core.Path.{subst}
use Rattle.rules.specs.declared.Fault.{Fault}
use Rattle.std.specs.Prelude.{ℕ, Result}
use native.Mathlib.Omega.{arith}
use Rattle.report.specs.Loaded.{Answers}
use Rattle.report.proofs.put_loaded.Goals as goal

pub put_replica-requires : goal.put_replica-requires
put_replica-requires c =
    let was = c.in-Ok.is in
    record { stored = subst (λ (l : Result (Unit {0}) (Fault × ℕ)). Answers l c.args.b.now) was c.requires.answers; room = c.requires.room }

pub overflow_cast-place : goal.overflow_cast-place
overflow_cast-place c =
    let was = c.in-Err.is in
    omega (arith, subst (λ (l : Result (Unit {0}) (Fault × ℕ)). Answers l c.args.b.now) was c.requires.answers)

pub returns-in-Ok : goal.returns-in-Ok
returns-in-Ok c =
    let was = c.in-Ok.is in
    rw was c.put_replica.ensures

pub returns-in-Err : goal.returns-in-Err
returns-in-Err c =
    let was = c.in-Err.is in
    rw was (record { put = c.put_refused.ensures.put; most = omega (arith, c.put_refused.ensures.most) })
