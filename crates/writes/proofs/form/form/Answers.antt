-- `form::form` meets its contract: the tests that have failed stand before the one that holds. Assumes nothing.
use mathlib.Core.Path.{◌≡◌, refl, sym, ap, ◌∙◌}
use mathlib.Core.Bool.{false}
use Rattle.rules.specs.declared.Content.{Content}
use Rattle.rules.specs.Write.{Write, bad_id, bad_path}
use Rattle.writes.specs.Path.{write_of}
use Rattle.writes.specs.Verdict.{verdict_of}
use Rattle.writes.proofs.FormLaws.{form_1, form_2, form_3, form_clear}
use Rattle.writes.proofs.form.form.Goals as goal

pub returns-then-bad_id : goal.returns-then-bad_id
returns-then-bad_id c =
    let given : Content → Write = λ x. let a = c.args in write_of a.id.now a.number a.path.now x in
    λ x. ap verdict_of (sym (form_1 (given x) (sym c.bad_id.ensures ∙ c.if-bad_id.true)))

pub returns-then-bad_path : goal.returns-then-bad_path
returns-then-bad_path c =
    let given : Content → Write = λ x. let a = c.args in write_of a.id.now a.number a.path.now x in
    let id_ok : bad_id c.args.id.now ≡ false = sym c.bad_id.ensures ∙ c.if-bad_id.false in
    λ x.
    let w = given x in
    ap verdict_of (sym (form_2 w id_ok (sym (c.bad_path.ensures w refl) ∙ c.if-bad_path.true)))

pub returns-then-low_number : goal.returns-then-low_number
returns-then-low_number c =
    let given : Content → Write = λ x. let a = c.args in write_of a.id.now a.number a.path.now x in
    let id_ok : bad_id c.args.id.now ≡ false = sym c.bad_id.ensures ∙ c.if-bad_id.false in
    let path_ok : (x : Content) → bad_path (given x) ≡ false = λ x. sym (c.bad_path.ensures (given x) refl) ∙ c.if-bad_path.false in
    λ x.
    let w = given x in
    ap verdict_of (sym (form_3 w id_ok (path_ok x) (sym (c.low_number.ensures w refl refl) ∙ c.if-low_number.true)))

pub returns : goal.returns
returns c =
    let given : Content → Write = λ x. let a = c.args in write_of a.id.now a.number a.path.now x in
    let id_ok : bad_id c.args.id.now ≡ false = sym c.bad_id.ensures ∙ c.if-bad_id.false in
    let path_ok : (x : Content) → bad_path (given x) ≡ false = λ x. sym (c.bad_path.ensures (given x) refl) ∙ c.if-bad_path.false in
    λ x.
    let w = given x in
    ap verdict_of (sym (form_clear w id_ok (path_ok x) (sym (c.low_number.ensures w refl refl) ∙ c.if-low_number.false)))
