-- Each public function has one outcome. Assumes nothing.
use Rattle.rules.specs.Outcome.{OneOutcome}
use Rattle.rules.proofs.OutcomeLaws.{fixed, does_one}
use Rattle.report.proofs.put_report.Kinds as put-report
use Rattle.report.proofs.put_report.Reads as put-report'
use Rattle.report.proofs.report.Kinds as report
use Rattle.report.proofs.report.Reads as report'

pub put_report_outcome : OneOutcome _ put-report.ps put-report.r put-report'.Asked put-report'.Learnt (λ κs s. s.1.0.now)
put_report_outcome κs a x y s t h p q = (fixed p.put.ends q.put.ends, fixed p.put.is q.put.is)

pub report_outcome : OneOutcome _ report.ps report.r report'.Asked report'.Learnt (λ κs s. s.1.0.now)
report_outcome κs a x y s t h p q = does_one p q
