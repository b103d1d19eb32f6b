-- `edit` meets its contract: what was found of the document and the parent decides its own refusals, and else it is the path write. Assumes nothing.
use mathlib.Core.Path.{◌≡◌, refl, sym, ◌∙◌}
use mathlib.Core.Bool.{true}
use lib.ListN.{length}
use mir.Syntax.{w8}
use borrow.Kind.Array.{e_int, good_length}
use Rattle.rules.specs.Edit.{parent_rule}
use Rattle.rules.specs.Room.{hash_size}
use Rattle.store.specs.Documents.{Shows}
use Rattle.rules.specs.Replica.{tree_of}
use Rattle.store.specs.Storage.{replica_of}
use Rattle.store.proofs.FitLaws.{stored_laid}
use Rattle.writes.proofs.WriteLaws.{place_looked, place_shows}
use Rattle.edits.specs.Edit.{edit_of, IsOn}
use Rattle.edits.proofs.ParentLaws.{searchable, not_last}
use Rattle.edits.proofs.DoneLaws.{refused_id, Taken, ruled, refused_parent, refused_last, refused_known, can_write, edit_done}
use Rattle.edits.proofs.edit.Goals.{After-body_at-body, After-parent_of-parent, After-rule_met, After-last_number}
use Rattle.edits.proofs.edit.Goals as goal

pub returns-then-bad_id : goal.returns-then-bad_id
returns-then-bad_id c = refused_id c.args.b.now _ c.requires (sym c.bad_id.ensures ∙ c.if-bad_id.true)

pub find_document-found-requires : goal.find_document-found-requires
find_document-found-requires c = stored_laid _ c.requires

pub body_at-body-requires : goal.body_at-body-requires
body_at-body-requires c = place_looked c.args.id.now c.requires (sym c.find_document-found.ensures)

-- ---- the document's rows, and the parent that is taken

shows : (c : After-body_at-body) → Shows c.args.b.now c.body_at-body.result (tree_of (replica_of c.args.b.now) c.args.id.now)
shows c = place_shows c.args.id.now c.requires (sym c.find_document-found.ensures) c.body_at-body.ensures

pub parent_of-parent-requires : goal.parent_of-parent-requires
parent_of-parent-requires c = searchable _ c.requires (shows (goal.at.parent_of-parent-requires c).After-body_at-body)

pub rule_met-requires : goal.rule_met-requires
rule_met-requires c = searchable _ c.requires (shows (goal.at.rule_met-requires c).After-body_at-body)

pub is_missing-requires : goal.is_missing-requires
is_missing-requires c = searchable _ c.requires (shows (goal.at.is_missing-requires c).After-body_at-body)

taken : (c : After-parent_of-parent)
    → let a = c.args in Taken a.b.now a.id.now a.named (edit_of a.id.now a.hash a.content a.named) c.body_at-body.result c.parent_of-parent.result
taken c =
    let on : let a = c.args in IsOn a.b.now c.body_at-body.result a.named (edit_of a.id.now a.hash a.content a.named) = record { stored = c.requires; shows = shows (goal.at.After-parent_of-parent c).After-body_at-body; parent = refl } in
    record { good_id = sym c.bad_id.ensures ∙ c.if-bad_id.false; on = on; parent = c.parent_of-parent.ensures _ on }

pub returns-then-not-rule_met : goal.returns-then-not-rule_met
returns-then-not-rule_met c =
    let t = taken (goal.at.returns-then-not-rule_met c).After-parent_of-parent in
    refused_parent t (sym (c.rule_met.ensures _ (ruled t)) ∙ c.if-not-rule_met.true)

-- ---- the rule is met

rule : (c : After-last_number) → let a = c.args in parent_rule (replica_of a.b.now) (edit_of a.id.now a.hash a.content a.named) ≡ true
rule c = sym (c.rule_met.ensures _ (ruled (taken (goal.at.After-last_number c).After-parent_of-parent))) ∙ c.if-not-rule_met.false

pub returns-then-last_number : goal.returns-then-last_number
returns-then-last_number c =
    let h = goal.at.returns-then-last_number c in
    let t = taken h.After-parent_of-parent in
    refused_last t (rule h.After-last_number) (sym (c.last_number.ensures _ _ t.parent) ∙ c.if-last_number.true)

pub next_number-number-requires : goal.next_number-number-requires
next_number-number-requires c =
    let t = taken (goal.at.next_number-number-requires c).After-parent_of-parent in
    not_last _ _ _ t.parent (sym (c.last_number.ensures _ _ t.parent) ∙ c.if-last_number.false)

-- ---- a number is left

pub returns-then-not-is_missing : goal.returns-then-not-is_missing
returns-then-not-is_missing c =
    let h = goal.at.returns-then-not-is_missing c in
    let t = taken h.After-parent_of-parent in
    let last = sym (c.last_number.ensures _ _ t.parent) ∙ c.if-last_number.false in
    refused_known t (rule h.After-last_number) last (c.next_number-number.ensures _ _ t.parent) (sym c.is_missing.ensures ∙ c.if-not-is_missing.true)

pub write_child-requires : goal.write_child-requires
write_child-requires c =
    let h = goal.at.write_child-requires c in
    let t = taken h.After-parent_of-parent in
    let last = sym (c.last_number.ensures _ _ t.parent) ∙ c.if-last_number.false in
    let size : length c.args.hash ≡ hash_size = good_length (e_int w8) hash_size c.args.hash _ c.well_formed.1.1.0 in
    can_write t (rule h.After-last_number) last (c.next_number-number.ensures _ _ t.parent) size _ (sym c.find_document-found.ensures)

pub returns : goal.returns
returns c =
    let h = goal.at.returns c in
    let t = taken h.After-parent_of-parent in
    let last = sym (c.last_number.ensures _ _ t.parent) ∙ c.if-last_number.false in
    let size : length c.args.hash ≡ hash_size = good_length (e_int w8) hash_size c.args.hash _ c.well_formed.1.1.0 in
    let new = sym c.is_missing.ensures ∙ c.if-not-is_missing.false in
    edit_done t (rule h.After-last_number) last (c.next_number-number.ensures _ _ t.parent) size new c.write_child.ensures
