-- `parent::is_leaf` meets its contract. Assumes nothing.
use mathlib.Core.Path.{◌≡◌, sym, ap, ◌∙◌}
use Rattle.rules.specs.declared.Content.{Content}
use Rattle.std.specs.Prelude.{Option, Ok}
use native.Mathlib.Omega.{arith}
use Rattle.std.proofs.Common.{is_some}
use Rattle.tree.specs.Table.{tree_in, place_of}
use Rattle.edits.proofs.ParentLaws.{some_is, at_row, leaf_by_kind, leaf_in_gap}
use Rattle.edits.proofs.parent.is_leaf.Goals as goal

pub kind_at-requires : goal.kind_at-requires
kind_at-requires c =
    let place : let a = c.args in place_of 0 a.rev (tree_in a.body a.b.now) ≡ Ok c.in-Ok.i = sym c.find.ensures ∙ c.in-Ok.is in
    omega (arith, at_row _ _ _ _ place, c.requires.within)

pub returns-in-Ok : goal.returns-in-Ok
returns-in-Ok c =
    let place : let a = c.args in place_of 0 a.rev (tree_in a.body a.b.now) ≡ Ok c.in-Ok.i = sym c.find.ensures ∙ c.in-Ok.is in
    c.is_some.ensures ∙ (ap (λ (k : Option Content). is_some k) c.kind_at.ensures ∙ (some_is _ ∙ sym (leaf_by_kind _ _ _ _ place)))

pub returns-in-Err : goal.returns-in-Err
returns-in-Err c = sym (leaf_in_gap _ _ _ c.in-Err.field-0 (sym c.find.ensures ∙ c.in-Err.is))
