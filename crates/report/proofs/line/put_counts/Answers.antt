-- `report::line::put_counts` meets its contract. Assumes nothing.
use Prim.Native.Nat.{◌-◌}
use native.Mathlib.Omega.{arith}
use Rattle.rules.specs.Report.{text}
use Rattle.text.proofs.TextLaws.{put_then, put_as}
use Rattle.report.proofs.PutLaws.{counts_joined}
use Rattle.report.proofs.line.put_counts.Goals as goal

pub returns : goal.returns
unfolding text
returns c =
    let n = c.args.leaves in
    record {
      put =
          put_as (counts_joined n (n - 1) (omega arith))
          (put_then (put_then c.put_field-c.ensures.put c.put_field-line_end.ensures.put (omega arith)) c.put_word.ensures (omega arith));
      most = omega arith;
    }
