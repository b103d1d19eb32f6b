-- `report::put_report` meets its contract. Assumes nothing.
use mathlib.Core.Path.{◌≡◌}
use native.Mathlib.Omega.{arith}
use lib.ListN.{length}
use Rattle.report.specs.Lines.{report_most}
use Rattle.report.proofs.JudgedLaws.{load_judges}
use Rattle.text.proofs.TextLaws.{put_as}
use borrow.Author.Rules.{rules}
use Rattle.report.proofs.put_report.Goals as goal

pub put_loaded-requires : goal.put_loaded-requires
put_loaded-requires c =
    let n : length c.args.out.now ≡ report_most = search rules in
    record { answers = (load_judges c.load-loaded.ensures).answers; room = omega arith }

pub returns : goal.returns
returns c =
    let put = c.put_loaded.ensures in
    record { put = put_as (load_judges c.load-loaded.ensures).text put.put; most = put.most }
