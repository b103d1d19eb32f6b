-- `replica::answer_change` meets its contract. Assumes nothing.
use mathlib.Core.Path.{refl, ap, ◌∙◌}
use lib.ListN.{length}
use Rattle.rules.specs.Read.{leaves}
use Rattle.rules.specs.Replica.{Tree}
use Rattle.store.proofs.BodyLaws.{body_shows}
use Rattle.reads.specs.Next.{deletion_wins}
use Rattle.reads.proofs.OpenLaws.{tree_rows}
use Rattle.reads.proofs.NextLaws.{change_short, change_answers}
use Rattle.reads.proofs.replica.answer_change.Goals as goal

pub id_of-id-requires : goal.id_of-id-requires
id_of-id-requires c = c.requires.document

pub returns-then-out-id_len : goal.returns-then-out-id_len
returns-then-out-id_len c = change_short _ _ _ c.id_of-id.ensures c.if-out-id_len.true

pub body_of-body-requires : goal.body_of-body-requires
body_of-body-requires c = c.requires.document

pub own_sequence-seq-requires : goal.own_sequence-seq-requires
own_sequence-seq-requires c = c.requires.document

pub leaf_count-leaves-requires : goal.leaf_count-leaves-requires
leaf_count-leaves-requires c = (body_shows _ _ _ c.body_of-body.ensures).within

pub deletion_wins-deleted-requires : goal.deletion_wins-deleted-requires
deletion_wins-deleted-requires c = (tree_rows _ _ _ c.requires c.body_of-body.ensures).rows

pub returns : goal.returns
returns c =
    let w = body_shows _ _ _ c.body_of-body.ensures in
    change_answers _ _ _ c.id_of-id.ensures refl c.own_sequence-seq.ensures
    (c.leaf_count-leaves.ensures ∙ ap (λ (t : Tree). length (leaves t)) w.tree)
    (c.deletion_wins-deleted.ensures ∙ ap deletion_wins w.tree) c.if-out-id_len.false c.copy_in.ensures
