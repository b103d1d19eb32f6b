-- `content_from` meets its contract. Assumes nothing.
use mathlib.Core.Path.{refl}
use borrow.Author.Tests.{eq-eqb, ne_eqb}
use Rattle.refile.proofs.number.content_from.Goals as goal

pub returns-then-kind-eq-LIVE : goal.returns-then-kind-eq-LIVE
returns-then-kind-eq-LIVE c = rw (eq-eqb _ _ c.if-kind-eq-LIVE.true) refl

pub returns : goal.returns
returns c = rw (ne_eqb _ _ c.if-kind-eq-LIVE.false) refl
