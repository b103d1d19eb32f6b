-- `report::line::put_head` meets its contract. Assumes nothing.
use Rattle.store.specs.Storage.{replica_of}
use native.Mathlib.Omega.{arith}
use Rattle.rules.specs.Report.{text}
use Rattle.text.proofs.TextLaws.{put_then, put_as}
use Rattle.report.proofs.PutLaws.{head_joined}
use Rattle.report.proofs.line.put_head.Goals as goal

pub returns : goal.returns
unfolding text
returns c =
    record {
      put =
          put_as (head_joined (replica_of c.args.b.now) c.update_sequence-seq.ensures c.documents_held-documents.ensures c.revisions_held-revisions.ensures)
          (put_then
          (put_then (put_then c.put_field-d.ensures.put c.put_field-r.ensures.put (omega arith)) c.put_field-head_end.ensures.put (omega arith))
          c.put_word.ensures (omega arith));
      most = omega arith;
    }
