-- `report::line::put_line` meets its contract. Assumes nothing.
use Prim.Native.Nat.{◌≤◌}
use native.Mathlib.Omega.{arith}
use lib.ListN.{length}
use Rattle.rules.specs.Report.{text}
use Rattle.rules.specs.Room.{id_most}
use Rattle.text.proofs.TextLaws.{length-hex, put_then, put_as}
use Rattle.store.specs.Documents.{documents_of, document_at, HasDocument}
use Rattle.store.proofs.BodyLaws.{body_shows, body_standing}
use Rattle.store.proofs.FitLaws.{stored_laid}
use Rattle.reads.proofs.OpenLaws.{each_document, has_tree, tree_rows}
use Rattle.report.proofs.StandingLaws.{id_at_most, line_joined}
use Rattle.report.proofs.line.put_line.Goals as goal

-- ---- the needs
pub id_of-requires : goal.id_of-requires
id_of-requires c =
    let document : HasDocument c.args.b.now c.args.d = record { laid = stored_laid _ c.requires.stored; within = c.requires.within } in
    document

pub put_hex-q-requires : goal.put_hex-q-requires
put_hex-q-requires c =
    let id-size : length c.id_of.result.now ≤ id_most = id_at_most c.args.b.now c.args.d c.requires.stored c.requires.within c.id_of.ensures in
    omega (arith, id-size, c.requires.room)

pub own_sequence-seq-requires : goal.own_sequence-seq-requires
own_sequence-seq-requires c =
    let document : HasDocument c.args.b.now c.args.d = record { laid = stored_laid _ c.requires.stored; within = c.requires.within } in
    document

pub put_field-w-requires : goal.put_field-w-requires
put_field-w-requires c =
    let id-size : length c.id_of.result.now ≤ id_most = id_at_most c.args.b.now c.args.d c.requires.stored c.requires.within c.id_of.ensures in
    omega (arith, id-size, length-hex c.id_of.result.now, c.requires.room, c.put_hex-q.ensures.ends)

pub body_of-body-requires : goal.body_of-body-requires
body_of-body-requires c =
    let document : HasDocument c.args.b.now c.args.d = record { laid = stored_laid _ c.requires.stored; within = c.requires.within } in
    document

pub put_standing-requires : goal.put_standing-requires
put_standing-requires c =
    let id-size : length c.id_of.result.now ≤ id_most = id_at_most c.args.b.now c.args.d c.requires.stored c.requires.within c.id_of.ensures in
    let body = c.body_of-body in
    let n = body_standing _ _ _ body.ensures in
    let hex = c.put_hex-q in
    record {
      rows = tree_rows _ _ _ (has_tree _ _ c.requires.stored c.requires.within) body.ensures;
      most = omega (arith, n.rows, n.revisions_at_most);
      room = omega (arith, id-size, length-hex c.id_of.result.now, c.requires.room, hex.ensures.ends, c.put_field-w.ensures.most);
    }

pub returns : goal.returns
unfolding text
returns c =
    let id-size : length c.id_of.result.now ≤ id_most = id_at_most c.args.b.now c.args.d c.requires.stored c.requires.within c.id_of.ensures in
    let m = id-size in
    let l = length-hex c.id_of.result.now in
    let x = document_at (documents_of c.args.b.now) c.args.d in
    record {
      put =
          put_as (line_joined x (each_document _ _ c.requires.stored c.requires.within).tree c.id_of.ensures c.own_sequence-seq.ensures (body_shows _ _ _ c.body_of-body.ensures).tree)
          (put_then (put_then c.put_hex-q.ensures c.put_field-w.ensures.put (omega arith)) c.put_standing.ensures.put (omega arith));
      most = omega arith;
    }
