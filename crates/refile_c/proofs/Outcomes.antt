-- Each export has one outcome. Assumes nothing.
use mathlib.Core.Path.{refl}
use mathlib.Core.List.{List}
use Prim.Native.Nat.{ℕ}
use Rattle.rules.specs.Outcome.{OneOutcome, nothing}
use Rattle.rules.proofs.OutcomeLaws.{fixed}
use Rattle.refile.proofs.CallLaws.{calls_one, keeps_one, says_one}
use Rattle.refile.proofs.LineLaws.{take_one}
use Rattle.refile_c.proofs.about.refile_is_replica.Kinds as isReplica
use Rattle.refile_c.proofs.about.refile_is_replica.Reads as isReplica'
use Rattle.refile_c.proofs.about.refile_version.Kinds as version
use Rattle.refile_c.proofs.about.refile_version.Reads as version'
use Rattle.refile_c.proofs.change.refile_fresh.Kinds as fresh
use Rattle.refile_c.proofs.change.refile_fresh.Reads as fresh'
use Rattle.refile_c.proofs.change.refile_load.Kinds as load
use Rattle.refile_c.proofs.change.refile_load.Reads as load'
use Rattle.refile_c.proofs.change.refile_save.Kinds as save
use Rattle.refile_c.proofs.change.refile_save.Reads as save'
use Rattle.refile_c.proofs.change.refile_write.Kinds as write
use Rattle.refile_c.proofs.change.refile_write.Reads as write'
use Rattle.refile_c.proofs.change.refile_take_in.Kinds as take_in
use Rattle.refile_c.proofs.change.refile_take_in.Reads as takeIn'
use Rattle.refile_c.proofs.change.refile_edit.Kinds as edit
use Rattle.refile_c.proofs.change.refile_edit.Reads as edit'
use Rattle.refile_c.proofs.change.refile_pull.Kinds as pull
use Rattle.refile_c.proofs.change.refile_pull.Reads as pull'
use Rattle.refile_c.proofs.read.refile_winner.Kinds as winner
use Rattle.refile_c.proofs.read.refile_winner.Reads as winner'
use Rattle.refile_c.proofs.read.refile_leaves.Kinds as leaves
use Rattle.refile_c.proofs.read.refile_leaves.Reads as leaves'
use Rattle.refile_c.proofs.read.refile_path.Kinds as path
use Rattle.refile_c.proofs.read.refile_path.Reads as path'
use Rattle.refile_c.proofs.read.refile_missing.Kinds as missing
use Rattle.refile_c.proofs.read.refile_missing.Reads as missing'
use Rattle.refile_c.proofs.read.refile_put_out.Kinds as put_out
use Rattle.refile_c.proofs.read.refile_put_out.Reads as putOut'
use Rattle.refile_c.proofs.read.refile_put_out_size.Kinds as put_out_size
use Rattle.refile_c.proofs.read.refile_put_out_size.Reads as putOutSize'
use Rattle.refile_c.proofs.read.refile_changes.Kinds as changes
use Rattle.refile_c.proofs.read.refile_changes.Reads as changes'
use Rattle.refile_c.proofs.read.refile_counts.Kinds as counts
use Rattle.refile_c.proofs.read.refile_counts.Reads as counts'
use Rattle.refile_c.proofs.read.refile_report.Kinds as report
use Rattle.refile_c.proofs.read.refile_report.Reads as report'
use Rattle.refile_c.proofs.read.refile_update_sequence.Kinds as sequence
use Rattle.refile_c.proofs.read.refile_update_sequence.Reads as sequence'

pub refile_fresh_outcome : OneOutcome _ fresh.ps fresh.r fresh'.Asked fresh'.Learnt (λ κs s. s.0.now)
refile_fresh_outcome κs a x y s t h p q = keeps_one p q

pub refile_load_outcome : OneOutcome _ load.ps load.r load'.Asked load'.Learnt (λ κs s. s.0.now)
refile_load_outcome κs a x y s t h p q = keeps_one p q

pub refile_save_outcome : OneOutcome _ save.ps save.r save'.Asked save'.Learnt (λ κs s. s.1.0.now)
refile_save_outcome κs a x y s t h p q = calls_one p q

pub refile_write_outcome : OneOutcome _ write.ps write.r write'.Asked write'.Learnt (λ κs s. s.0.now)
refile_write_outcome κs a x y s t h p q = keeps_one p q

pub refile_take_in_outcome : OneOutcome _ take_in.ps take_in.r takeIn'.Asked takeIn'.Learnt (λ κs s. s.0.now)
refile_take_in_outcome κs a x y s t h p q = take_one p q

pub refile_edit_outcome : OneOutcome _ edit.ps edit.r edit'.Asked edit'.Learnt (λ κs s. s.0.now)
refile_edit_outcome κs a x y s t h p q = keeps_one p q

-- both the target and the answer
pub refile_pull_outcome :
    OneOutcome _ pull.ps pull.r pull'.Asked pull'.Learnt {X = List ℕ × List ℕ} (λ κs s. (s.0.now, s.1.1.1.0.now))
refile_pull_outcome κs a x y s t h p q = keeps_one p q

pub refile_update_sequence_outcome : OneOutcome _ sequence.ps sequence.r sequence'.Asked sequence'.Learnt nothing
refile_update_sequence_outcome κs a x y s t h p q = calls_one p q

pub refile_winner_outcome : OneOutcome _ winner.ps winner.r winner'.Asked winner'.Learnt (λ κs s. s.1.1.0.now)
refile_winner_outcome κs a x y s t h p q = calls_one p q

pub refile_leaves_outcome : OneOutcome _ leaves.ps leaves.r leaves'.Asked leaves'.Learnt (λ κs s. s.1.1.0.now)
refile_leaves_outcome κs a x y s t h p q = calls_one p q

pub refile_path_outcome : OneOutcome _ path.ps path.r path'.Asked path'.Learnt (λ κs s. s.1.1.1.1.0.now)
refile_path_outcome κs a x y s t h p q = calls_one p q

pub refile_missing_outcome : OneOutcome _ missing.ps missing.r missing'.Asked missing'.Learnt (λ κs s. s.1.1.1.0.now)
refile_missing_outcome κs a x y s t h p q = calls_one p q

pub refile_put_out_outcome : OneOutcome _ put_out.ps put_out.r putOut'.Asked putOut'.Learnt (λ κs s. s.1.1.0.now)
refile_put_out_outcome κs a x y s t h p q = calls_one p q

pub refile_put_out_size_outcome : OneOutcome _ put_out_size.ps put_out_size.r putOutSize'.Asked putOutSize'.Learnt nothing
refile_put_out_size_outcome κs a x y s t h p q = calls_one p q

pub refile_changes_outcome :
    OneOutcome _ changes.ps changes.r changes'.Asked changes'.Learnt {X = List ℕ × List ℕ} (λ κs s. (s.1.1.0.now, s.1.1.1.0.now))
refile_changes_outcome κs a x y s t h p q = calls_one p q

pub refile_counts_outcome : OneOutcome _ counts.ps counts.r counts'.Asked counts'.Learnt (λ κs s. s.1.0.now)
refile_counts_outcome κs a x y s t h p q = calls_one p q

pub refile_report_outcome : OneOutcome _ report.ps report.r report'.Asked report'.Learnt (λ κs s. s.1.0.now)
refile_report_outcome κs a x y s t h p q = calls_one p q

pub refile_version_outcome : OneOutcome _ version.ps version.r version'.Asked version'.Learnt nothing
refile_version_outcome κs a x y s t h p q = (fixed p q, refl)

pub refile_is_replica_outcome : OneOutcome _ isReplica.ps isReplica.r isReplica'.Asked isReplica'.Learnt nothing
refile_is_replica_outcome κs a x y s t h p q = (says_one x y p q, refl)
