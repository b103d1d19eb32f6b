-- `written` meets its contract. Assumes nothing.
use mathlib.Core.Path.{refl}
use Rattle.rules.specs.Answer.{written_number}
use Rattle.refile.proofs.NumberLaws.{refused_case}
use Rattle.refile.proofs.number.written.Goals as goal

pub returns-in-Err : goal.returns-in-Err
returns-in-Err c = refused_case written_number _ _ c.in-Err.n _ _ c.in-Err.is refl c.refusal_number.ensures.is c.refused.ensures
