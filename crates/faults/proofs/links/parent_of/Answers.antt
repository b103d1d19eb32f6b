-- `links::parent_of` meets its contract. Assumes nothing.
use mathlib.Core.Path.{◌≡◌, sym, ap, ◌∙◌}
use Rattle.std.specs.Prelude.{Result}
use Prim.Native.Nat.{ℕ, pred, ◌-◌}
use native.Mathlib.Omega.{arith}
use Rattle.faults.specs.Links.{row_on, number_on, among, parent_on}
use Rattle.faults.proofs.LinkLaws.{row_good, run_searchable, run_found, parent_none, parent_sought}
use Rattle.faults.proofs.links.parent_of.Goals as goal

pub returns-then-known-eq0 : goal.returns-then-known-eq0
returns-then-known-eq0 c =
    let a = c.args in
    let e : c.known.result ≡ 0 = omega (arith, c.if-known-eq0.true) in
    parent_none a.base a.j a.run a.s.now (sym c.known.ensures.is ∙ e)

pub overflow_sub-below : goal.overflow_sub-below
overflow_sub-below c =
    let a = c.args in
    let p = c.requires in
    let g = (row_good a.base p.n a.s.now p.ordered a.j p.here).number in
    let e = c.number-own.ensures.is in
    omega arith

pub find-requires : goal.find-requires
find-requires c =
    let a = c.args in
    let p = c.requires in
    let w = p.serves.within in
    let h = p.here in
    run_searchable a.base p.n a.s.now p.ordered a.run.lo a.run.hi p.serves.ordered (omega arith)

pub overflow_add-there : goal.overflow_add-there
overflow_add-there c =
    let a = c.args in
    let p = c.requires in
    let found = (run_found a.base p.n a.s.now p.ordered a.j a.run p.here p.serves p.level _ _ (sym c.find.ensures ∙ c.in-Ok.is)).0 in
    let m = p.ordered.most in
    omega arith

pub returns-in-Ok : goal.returns-in-Ok
returns-in-Ok c =
    let sought : let a = c.args in
    among a.run.lo c.find.result ≡ parent_on a.base a.run a.j a.s.now = let a = c.args in
    let s = a.s.now in
    let e = c.number-own.ensures.is in
    let f : (row_on a.base a.j s).flag ≡ 0 → ⊥ = λ q. c.if-known-eq0.false (c.known.ensures.is ∙ q) in
    let k : c.number-own.result.0 - 1 ≡ pred (number_on a.base a.j s) = omega arith in
    ap (λ (x : Result ℕ ℕ). among a.run.lo x) c.find.ensures
    ∙ parent_sought a.base a.j a.run s (c.number-own.result.0 - 1) c.parent-hash.result f k c.parent-hash.ensures.is in
    ap (λ (x : Result ℕ ℕ). among c.args.run.lo x) (sym c.in-Ok.is) ∙ sought

pub returns-in-Err : goal.returns-in-Err
returns-in-Err c =
    let sought : let a = c.args in
    among a.run.lo c.find.result ≡ parent_on a.base a.run a.j a.s.now = let a = c.args in
    let s = a.s.now in
    let e = c.number-own.ensures.is in
    let f : (row_on a.base a.j s).flag ≡ 0 → ⊥ = λ q. c.if-known-eq0.false (c.known.ensures.is ∙ q) in
    let k : c.number-own.result.0 - 1 ≡ pred (number_on a.base a.j s) = omega arith in
    ap (λ (x : Result ℕ ℕ). among a.run.lo x) c.find.ensures
    ∙ parent_sought a.base a.j a.run s (c.number-own.result.0 - 1) c.parent-hash.result f k c.parent-hash.ensures.is in
    ap (λ (x : Result ℕ ℕ). among c.args.run.lo x) (sym c.in-Err.is) ∙ sought
