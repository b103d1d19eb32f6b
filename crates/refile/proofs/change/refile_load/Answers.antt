-- `refile_load` meets its contract. Assumes nothing.
use mathlib.Core.Path.{refl}
use Rattle.refile.specs.declared.number.HouseRefusal.TheVariants.{BadReplica}
use Rattle.refile.specs.Boundary.{load_call}
use Rattle.refile.proofs.CallLaws.{bad_size, refuses, unfit_keeps}
use Rattle.refile.proofs.ChangeLaws.{loaded_small, loads_on}
use Rattle.refile.proofs.change.refile_load.Goals as goal

pub returns-then-replica-ne-SIZE : goal.returns-then-replica-ne-SIZE
unfolding load_call
returns-then-replica-ne-SIZE c = unfit_keeps BadReplica c.unfit.ensures (refuses 100 (bad_size _ c.if-replica-ne-SIZE.true) c.unfit.ensures refl)

pub loaded-requires : goal.loaded-requires
loaded-requires c = loaded_small _ _ _ _ c.load.ensures

pub returns : goal.returns
returns c = loads_on _ _ _ _ _ c.if-replica-ne-SIZE.false c.load.ensures c.loaded.ensures
