-- `refile_update_sequence` meets its contract. Assumes nothing.
use mathlib.Core.Path.{refl, ap}
use Rattle.refile.specs.Boundary.{sequence_call}
use Rattle.refile.proofs.CallLaws.{no_house, none_first, lent_stands, lent_refuses, lent_does}
use Rattle.refile.proofs.read.refile_update_sequence.Goals as goal

pub returns-in-Err : goal.returns-in-Err
unfolding sequence_call
returns-in-Err c = lent_refuses _ _ c.check_replica.ensures c.in-Err.is c.unfit.ensures

pub sequence-q-requires : goal.sequence-q-requires
sequence-q-requires c = lent_stands _ (none_first _ c.check_replica.ensures c.in_default.is) c.requires

pub returns : goal.returns
unfolding sequence_call
returns c = lent_does _ _ (none_first _ c.check_replica.ensures c.in_default.is) no_house refl (ap (λ q. q.0) c.sequence-q.ensures) refl
