-- `form::low_number` meets its contract. Assumes nothing.
use Rattle.writes.proofs.FormLaws.{number_is}
use Rattle.writes.proofs.form.low_number.Goals as goal

pub returns : goal.returns
returns c = λ w f e. number_is w _ e _ f
