-- `json_text::skip_frac` meets its contract. Assumes nothing.
use Rattle.json_text.proofs.StepLaws.{skips_runs}
use Rattle.json_text.proofs.NumberLaws.{frac_none, frac_wrong, frac_some}
use mathlib.Core.Path.{sym, ◌∙◌}
use Rattle.json_text.proofs.skip_frac.Goals as goal

pub returns-then-peek-ne46 : goal.returns-then-peek-ne46
returns-then-peek-ne46 c =
    let a = c.args in
    let x = c.skip_exp in
    skips_runs _ _ a.s.now a.at a.at (frac_none a.s.now a.at (λ e. c.if-peek-ne46.true (c.peek.ensures ∙ e))) x.result x.ensures

pub returns-in_default : goal.returns-in_default
returns-in_default c =
    let a = c.args in
    frac_wrong a.s.now a.at (sym c.peek.ensures ∙ c.if-peek-ne46.false) (rw c.in_default.is at c.skip_some_digits.ensures)

pub returns : goal.returns
returns c =
    let a = c.args in
    let e = c.in-Some.e in
    let x = c.skip_exp-2 in
    skips_runs _ _ a.s.now a.at e (frac_some a.s.now a.at e (sym c.peek.ensures ∙ c.if-peek-ne46.false) (rw c.in-Some.is at c.skip_some_digits.ensures)) x.result x.ensures
