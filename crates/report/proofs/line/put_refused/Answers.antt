-- `report::line::put_refused` meets its contract. Assumes nothing.
use native.Mathlib.Omega.{arith}
use Rattle.rules.specs.Report.{text}
use Rattle.text.proofs.TextLaws.{put_then, put_as}
use Rattle.report.proofs.PutLaws.{refused_joined}
use Rattle.report.proofs.line.put_refused.Goals as goal

pub returns : goal.returns
unfolding text
returns c =
    let a = c.args in
    record {
      put =
          put_as (refused_joined (a.f, a.place) c.fault_number-number.ensures.is)
          (put_then (put_then c.put_field-at.ensures.put c.put_field-end.ensures.put (omega arith)) c.put_word.ensures (omega arith));
      most = omega arith;
    }
