-- `refile_fresh` meets its contract. Assumes nothing.
use mathlib.Core.Path.{refl}
use Rattle.refile.specs.declared.number.HouseRefusal.TheVariants.{BadReplica}
use Rattle.refile.specs.Boundary.{fresh_call}
use Rattle.refile.proofs.CallLaws.{bad_size, sized, refuses, does, unfit_keeps, accepts}
use Rattle.refile.proofs.ChangeLaws.{fresh_stands}
use Rattle.refile.proofs.change.refile_fresh.Goals as goal

pub returns-then-replica-ne-SIZE : goal.returns-then-replica-ne-SIZE
unfolding fresh_call
returns-then-replica-ne-SIZE c = unfit_keeps BadReplica c.unfit.ensures (refuses 100 (bad_size _ c.if-replica-ne-SIZE.true) c.unfit.ensures refl)

pub returns : goal.returns
unfolding fresh_call
returns c = accepts (does (sized _ c.if-replica-ne-SIZE.false) refl refl c.make_fresh.ensures.bytes) (fresh_stands _ c.make_fresh.ensures)
