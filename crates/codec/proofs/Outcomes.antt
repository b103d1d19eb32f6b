-- Each public function has one outcome. Assumes nothing.
use mathlib.Core.Path.{refl}
use Rattle.rules.specs.Outcome.{OneOutcome, nothing}
use Rattle.rules.proofs.OutcomeLaws.{does_one}
use Rattle.codec.proofs.TellLaws.{tells_one}
use Rattle.codec.proofs.is_replica.Kinds as isReplica
use Rattle.codec.proofs.is_replica.Reads as isReplica'
use Rattle.codec.proofs.load.Kinds as load
use Rattle.codec.proofs.load.Reads as load'
use Rattle.codec.proofs.save.Kinds as save
use Rattle.codec.proofs.save.Reads as save'

pub load_outcome : OneOutcome _ load.ps load.r load'.Asked load'.Learnt (λ κs s. s.0.now)
load_outcome κs a x y s t h p q = does_one p.does q.does

pub save_outcome : OneOutcome _ save.ps save.r save'.Asked save'.Learnt (λ κs s. s.1.0.now)
save_outcome κs a x y s t h p q = does_one p q

pub is_replica_outcome : OneOutcome _ isReplica.ps isReplica.r isReplica'.Asked isReplica'.Learnt nothing
is_replica_outcome κs a x y s t h p q = (tells_one p q, refl)
