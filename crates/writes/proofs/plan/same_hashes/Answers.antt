-- `plan::same_hashes` meets its contract. Assumes nothing.
use mathlib.Core.Path.{◌≡◌, sym, ap₂, ◌∙◌}
use native.Mathlib.Omega.{arith}
use lib.Dec.{eqb}
use Rattle.writes.proofs.SettledLaws.{first_differ, second_decides}
use Rattle.writes.proofs.plan.same_hashes.Goals as goal

pub returns-then-x-y : goal.returns-then-x-y
returns-then-x-y c =
    let a = c.args in
    let x = c.get8-x.ensures in
    let y = c.get8-y.ensures in
    sym (first_differ a.a.now a.b.now a.p a.q (omega arith) (omega arith) x.bytes y.bytes (λ e. c.if-x-y.true (x.is ∙ (e ∙ sym y.is))))

pub returns : goal.returns
returns c =
    let a = c.args in
    let x = c.get8-x.ensures in
    let y = c.get8-y.ensures in
    let u = c.get8-u.ensures in
    let v = c.get8-v.ensures in
    let e : c.get8-x.result ≡ c.get8-y.result = omega arith in
    sym (second_decides a.a.now a.b.now a.p a.q (omega arith) (omega arith) x.bytes y.bytes (sym x.is ∙ (e ∙ y.is)) u.bytes v.bytes ∙ ap₂ eqb (sym u.is) (sym v.is))
