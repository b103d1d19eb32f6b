-- `form::bad_path` meets its contract. Assumes nothing.
use Rattle.writes.proofs.FormLaws.{part-hash, no_hashes, some_hashes}
use Rattle.writes.proofs.form.bad_path.Goals as goal

pub returns-then-path-ne0 : goal.returns-then-path-ne0
returns-then-path-ne0 c = λ w e. part-hash w _ e c.if-path-ne0.true

pub returns-then-count-eq0 : goal.returns-then-count-eq0
returns-then-count-eq0 c = λ w e. no_hashes w _ e c.if-path-ne0.false c.if-count-eq0.true

pub returns : goal.returns
returns c = λ w e. some_hashes w _ e c.if-path-ne0.false c.if-count-eq0.false
