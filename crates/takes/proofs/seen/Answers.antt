-- `seen` meets its contract. Assumes nothing.
use mathlib.Core.Path.{refl}
use Rattle.takes.proofs.seen.Goals as goal

pub returns-in-Once : goal.returns-in-Once
returns-in-Once c = rw c.in-Once.is refl
