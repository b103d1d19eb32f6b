-- `fields::read_rev` meets its contract. Assumes nothing.
use Rattle.std.proofs.Common.{rules, tests}
use Rattle.std.proofs.lemmas.Iterator.{YieldsList-from_slice}
use Rattle.std.proofs.lemmas.Iterator.Search.{position_from_yields_List}
use mathlib.Core.Path.{sym, ap, ◌∙◌}
use Prim.Native.Nat.{◌+◌}
use native.Mathlib.Omega.{arith}
use Rattle.rules.specs.Room.{number_most}
use Rattle.lines.specs.Said.{read_hash}
use Rattle.lines.proofs.SaidLaws.{number_most_lem}
use Rattle.fields.proofs.RevLaws.{is_dash, a_dash, no_dash, no_number, no_hash, a_rev, left_whole}
use Rattle.fields.proofs.read_rev.Goals as goal

pub returns-in_err-dash : goal.returns-in_err-dash
returns-in_err-dash c =
    let found = position_from_yields_List is_dash _ _ c.position.result c.position.ensures.ran (YieldsList-from_slice c.args.t.now cc) (λ x b q k. search (rules, tests)) in
    c.from_residual.ensures ∙ sym (no_dash c.args.t.now (sym found ∙ c.in_err-dash.was))

pub returns-in_err-n : goal.returns-in_err-n
returns-in_err-n c =
    let found = position_from_yields_List is_dash _ _ c.position.result c.position.ensures.ran (YieldsList-from_slice c.args.t.now cc) (λ x b q k. search (rules, tests)) in
    let d = a_dash c.args.t.now c.in_ok-dash.dash (sym found ∙ c.in_ok-dash.was) in
    c.from_residual-in_err-n.ensures ∙ sym (no_number c.args.t.now _ d (rw c.from.ensures at (sym c.read_number.ensures ∙ c.in_err-n.was)))

pub returns-in_err-hash : goal.returns-in_err-hash
returns-in_err-hash c =
    let found = position_from_yields_List is_dash _ _ c.position.result c.position.ensures.ran (YieldsList-from_slice c.args.t.now cc) (λ x b q k. search (rules, tests)) in
    let t = c.args.t.now in
    let d = a_dash t c.in_ok-dash.dash (sym found ∙ c.in_ok-dash.was) in
    let h = ap read_hash (left_whole t (c.in_ok-dash.dash + 1)) ∙ (sym c.read_hash.ensures ∙ c.in_err-hash.was) in
    c.from_residual-in_err-hash.ensures ∙ sym (no_hash t _ d (rw c.from.ensures at (sym c.read_number.ensures ∙ c.in_ok-n.was)) h)

pub overflow_cast-number : goal.overflow_cast-number
overflow_cast-number c =
    let n = rw c.from.ensures at (sym c.read_number.ensures ∙ c.in_ok-n.was) in
    omega (arith, number_most_lem number_most _ n)

pub returns : goal.returns
returns c =
    let found = position_from_yields_List is_dash _ _ c.position.result c.position.ensures.ran (YieldsList-from_slice c.args.t.now cc) (λ x b q k. search (rules, tests)) in
    let t = c.args.t.now in
    let d = a_dash t c.in_ok-dash.dash (sym found ∙ c.in_ok-dash.was) in
    let h = ap read_hash (left_whole t (c.in_ok-dash.dash + 1)) ∙ (sym c.read_hash.ensures ∙ c.in_ok-hash.was) in
    sym (a_rev t _ d (rw c.from.ensures at (sym c.read_number.ensures ∙ c.in_ok-n.was)) h)
