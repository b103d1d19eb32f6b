-- `contents::fill_zero` meets its contract. Assumes nothing.
use mathlib.Core.Path.{refl, ◌∙◌}
use Prim.Native.Nat.{◌+◌}
use native.Mathlib.Omega.{arith}
use Rattle.rules.specs.Layout.{id_in, count_in}
use Rattle.layout.specs.Fields.{entry_place}
use Rattle.faults.proofs.IdLaws.{fill_slice}
use Rattle.faults.proofs.contents.fill_zero.Goals as goal

pub returns : goal.returns
returns c =
    let a = c.args in
    let is = c.requires.1 in
    let m = c.requires.2 in
    c.all_zero.ensures
    ∙ fill_slice a.i a.s.now (entry_place a.i + id_in + a.n) (entry_place a.i + count_in) c.requires.0 (omega arith) (omega arith) refl
