-- `refile_report` meets its contract. Assumes nothing.
use Rattle.refile.proofs.ReadCallLaws.{report_answers}
use Rattle.refile.proofs.read.refile_report.Goals as goal

pub returns : goal.returns
returns c = report_answers _ _ _ _ _ c.report.ensures c.answered.ensures
