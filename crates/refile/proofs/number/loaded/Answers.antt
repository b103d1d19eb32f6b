-- `loaded` meets its contract. Assumes nothing.
use mathlib.Core.Path.{◌≡◌, sym, ◌∙◌}
use Prim.Native.Nat.{◌+◌, ◌*◌}
use native.Mathlib.Omega.{arith}
use Rattle.refile.specs.Boundary.{refused_from}
use Rattle.refile.proofs.NumberLaws.{result_refused, place_small, loaded_case}
use Rattle.refile.proofs.number.loaded.Goals as goal

pub overflow_add-result : goal.overflow_add-result
overflow_add-result c =
    let n = c.fault_number in
    let h = place_small _ c.in-Err.f c.in-Err.place c.in-Err.is c.requires in
    let e : c.refused.result ≡ refused_from + n.result * 4294967296 = c.refused.ensures ∙ sym (result_refused n.result (omega arith)) in
    omega arith

pub returns-in-Err : goal.returns-in-Err
returns-in-Err c =
    let n = c.fault_number in
    loaded_case _ c.in-Err.f n.result c.in-Err.place c.refused.result c.in-Err.is n.ensures.is n.ensures.least c.refused.ensures
