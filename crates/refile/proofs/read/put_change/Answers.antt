-- `put_change` meets its contract. Assumes nothing.
use Rattle.refile.proofs.ReadCallLaws.{byte_flag, change_put}
use Rattle.refile.proofs.read.put_change.Goals as goal

pub returns : goal.returns
returns c = change_put _ _ _ _ (byte_flag _) c.put_numbers.ensures
