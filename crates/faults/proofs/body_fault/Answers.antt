-- `body_fault` meets its contract. Assumes nothing.
use mathlib.Core.Path.{sym, ◌∙◌}
use Rattle.std.proofs.lemmas.Result.{err_from_is_err_and}
use Rattle.faults.proofs.JudgeLaws.{not_found, rows_sum, body_contents, body_sequence, body_rows, body_links}
use Rattle.faults.proofs.body_fault.Goals as goal

pub returns-in_err-at : goal.returns-in_err-at
returns-in_err-at c =
    let p = err_from_is_err_and c.from_residual.result c.from_residual.ensures.1 in
    rw (p.1, p.2) (body_contents _ c.at.result _ (rw c.contents_fault.ensures at c.at.ensures) c.in_err-at.was)

pub returns-in_err-at-2 : goal.returns-in_err-at-2
returns-in_err-at-2 c =
    let p = err_from_is_err_and c.from_residual-in_err-at-2.result c.from_residual-in_err-at-2.ensures.1 in
    let a = sym c.contents_fault.ensures ∙ not_found _ _ _ c.at.ensures c.in_ok-at.was in
    rw (p.1, p.2) (body_sequence _ c.at-2.result _ a (rw c.sequence_fault.ensures at c.at-2.ensures) c.in_err-at-2.was)

pub rule_fault-requires : goal.rule_fault-requires
rule_fault-requires c =
    let a = sym c.contents_fault.ensures ∙ not_found _ _ _ c.at.ensures c.in_ok-at.was in
    record { listed = record { headed = c.requires; sum = rows_sum _ a }; before = tt }

pub returns-in_err-at-3 : goal.returns-in_err-at-3
returns-in_err-at-3 c =
    let p = err_from_is_err_and c.from_residual-in_err-at-3.result c.from_residual-in_err-at-3.ensures.1 in
    let a = sym c.contents_fault.ensures ∙ not_found _ _ _ c.at.ensures c.in_ok-at.was in
    let b = sym c.sequence_fault.ensures ∙ not_found _ _ _ c.at-2.ensures c.in_ok-at-2.was in
    rw (p.1, p.2) (body_rows _ c.at-3.result _ a b (rw c.rule_fault.ensures at c.at-3.ensures) c.in_err-at-3.was)

pub rule_fault-requires-2 : goal.rule_fault-requires-2
rule_fault-requires-2 c =
    let a = sym c.contents_fault.ensures ∙ not_found _ _ _ c.at.ensures c.in_ok-at.was in
    let r = sym c.rule_fault.ensures ∙ not_found _ _ _ c.at-3.ensures c.in_ok-at-3.was in
    record { listed = record { headed = c.requires; sum = rows_sum _ a }; before = r }

pub returns : goal.returns
returns c =
    let a = sym c.contents_fault.ensures ∙ not_found _ _ _ c.at.ensures c.in_ok-at.was in
    let b = sym c.sequence_fault.ensures ∙ not_found _ _ _ c.at-2.ensures c.in_ok-at-2.was in
    let r = sym c.rule_fault.ensures ∙ not_found _ _ _ c.at-3.ensures c.in_ok-at-3.was in
    body_links _ _ a b r (rw c.rule_fault-2.ensures at c.at-4.ensures)
