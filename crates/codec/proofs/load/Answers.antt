-- `load` meets its contract. Assumes nothing.
use mathlib.Core.Path.{sym, ap, ◌∙◌, ◌≡◌}
use Rattle.std.proofs.Common.{rules}
use Rattle.std.proofs.lemmas.Result.{err_from_is_err_and}
use native.Mathlib.Omega.{arith}
use Rattle.rules.specs.Choice.{first_that}
use Rattle.rules.specs.Faults.{faults}
use Rattle.faults.specs.Judged.{judged}
use Rattle.codec.proofs.TakeLaws.{bytes_all, loads_accepted, loads_refused}
use Rattle.codec.proofs.load.Goals as goal

pub take_in-requires : goal.take_in-requires
take_in-requires c =
    let said : judged c.fault.result ≡ first_that (faults c.args.image.now) = search rules in
    record { size = c.requires; fine = sym said ∙ ap judged c.in_ok-fault.was }

pub returns-in_err-fault : goal.returns-in_err-fault
returns-in_err-fault c =
    let said : judged c.fault.result ≡ first_that (faults c.args.image.now) = search rules in
    let p = err_from_is_err_and c.from_residual.result c.from_residual.ensures.1 in
    rw (p.1, p.2) (loads_refused c.args.b.now c.args.image.now _ _ (sym said ∙ ap judged c.in_err-fault.was))

pub returns : goal.returns
returns c =
    let said : judged c.fault.result ≡ first_that (faults c.args.image.now) = search rules in
    let a = c.args in
    let p = bytes_all a.image.now (λ i. omega (arith, c.shared_slice_known-1.given i)) in
    loads_accepted a.image.now p (sym said ∙ ap judged c.in_ok-fault.was) a.b.now _ c.take_in.ensures
