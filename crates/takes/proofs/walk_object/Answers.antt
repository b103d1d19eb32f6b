-- `walk_object` meets its contract. Assumes nothing.
use Rattle.std.proofs.Common.{refl, ap, None, Some}
use Rattle.takes.proofs.ReadLaws.{reads_empty, reads_start, reads_no_name, reads_no_value, reads_on, reads_last, reads_wrong}
use Rattle.takes.proofs.WalkLaws.{name_found}
use Rattle.takes.proofs.walk_object.Goals as goal

pub returns-in-End : goal.returns-in-End
returns-in-End g c = reads_empty c.requires.0 c.requires.1 c.open_at.ensures c.in-End.is

pub loop-to-init : goal.loop-to-init
loop-to-init g c = reads_start c.requires.0 c.requires.1 c.open_at.ensures c.in-Item.is

pub returns-in_err-to : goal.returns-in_err-to
returns-in_err-to g c = rw c.from_residual.ensures (reads_no_name c.loop-to.invariant c.args.path.now c.requires.1 c.name_at.result c.name_at.ensures c.in_err-to.was)

pub returns-in_err-e : goal.returns-in_err-e
returns-in_err-e g c =
    rw c.from_residual-in_err-e.ensures
    (reads_no_value c.loop-to.invariant c.args.path.now c.requires.1 (name_found c.name_at.result _ _ c.name_at.ensures c.in_ok-to.was) c.value-value.ensures c.in_err-e.was)

pub loop-to-preserved : goal.loop-to-preserved
loop-to-preserved g c =
    reads_on c.loop-to.invariant c.args.path.now c.requires.1 (name_found c.name_at.result _ _ c.name_at.ensures c.in_ok-to.was) c.value-value.ensures
    _ c.in_ok-e.was c.which_name-name.ensures c.see.ensures (Some c.in_ok-j.field-0) _ c.in_ok-j.ensures (ap Some c.in-Item-2.is)

pub returns-in-End-2 : goal.returns-in-End-2
returns-in-End-2 g c =
    reads_last c.loop-to.invariant c.args.path.now c.requires.1 (name_found c.name_at.result _ _ c.name_at.ensures c.in_ok-to.was) c.value-value.ensures
    _ c.in_ok-e.was c.which_name-name.ensures c.see.ensures (Some c.in_ok-j.field-0) _ c.in_ok-j.ensures (ap Some c.in-End-2.is)

pub returns-in_err-j : goal.returns-in_err-j
returns-in_err-j g c =
    rw c.from_residual-in_err-j.ensures (reads_wrong c.loop-to.invariant c.args.path.now c.requires.1 (name_found c.name_at.result _ _ c.name_at.ensures c.in_ok-to.was) c.value-value.ensures
    _ c.in_ok-e.was c.which_name-name.ensures c.see.ensures None c.in_err-j.ensures refl)
