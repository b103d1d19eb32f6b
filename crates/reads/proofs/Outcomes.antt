-- Each public function has one outcome. Assumes nothing.
use mathlib.Core.Path.{refl}
use Rattle.rules.specs.Outcome.{OneOutcome, nothing}
use Rattle.rules.proofs.OutcomeLaws.{fixed, does_one}
use Rattle.reads.proofs.OpenLaws.{opens_one}
use Rattle.reads.proofs.document.rows_of.Kinds as rows-of
use Rattle.reads.proofs.document.rows_of.Reads as rows-of'
use Rattle.reads.proofs.document.winner.Kinds as winner
use Rattle.reads.proofs.document.winner.Reads as winner'
use Rattle.reads.proofs.document.leaves.Kinds as leaves
use Rattle.reads.proofs.document.leaves.Reads as leaves'
use Rattle.reads.proofs.document.path.Kinds as path
use Rattle.reads.proofs.document.path.Reads as path'
use Rattle.reads.proofs.document.missing.Kinds as missing
use Rattle.reads.proofs.document.missing.Reads as missing'
use Rattle.reads.proofs.NextLaws.{one_next}
use Rattle.reads.proofs.replica.next_after.Kinds as next-after
use Rattle.reads.proofs.replica.next_after.Reads as next-after'
use Rattle.reads.proofs.replica.changes.Kinds as changes
use Rattle.reads.proofs.replica.changes.Reads as changes'
use Rattle.reads.proofs.replica.sequence.Kinds as sequence
use Rattle.reads.proofs.replica.sequence.Reads as sequence'
use Rattle.reads.proofs.replica.counts.Kinds as counts
use Rattle.reads.proofs.replica.counts.Reads as counts'

pub rows_of_outcome : OneOutcome _ rows-of.ps rows-of.r rows-of'.Asked rows-of'.Learnt nothing
rows_of_outcome κs a x y s t h p q = (opens_one x y p q, refl)

pub winner_outcome : OneOutcome _ winner.ps winner.r winner'.Asked winner'.Learnt (λ κs s. s.1.1.0.now)
winner_outcome κs a x y s t h p q = does_one p q

pub leaves_outcome : OneOutcome _ leaves.ps leaves.r leaves'.Asked leaves'.Learnt (λ κs s. s.1.1.0.now)
leaves_outcome κs a x y s t h p q = does_one p q

pub path_outcome : OneOutcome _ path.ps path.r path'.Asked path'.Learnt (λ κs s. s.1.1.1.0.now)
path_outcome κs a x y s t h p q = does_one p q

pub missing_outcome : OneOutcome _ missing.ps missing.r missing'.Asked missing'.Learnt (λ κs s. s.1.1.1.0.now)
missing_outcome κs a x y s t h p q = does_one p q

pub next_after_outcome : OneOutcome _ next-after.ps next-after.r next-after'.Asked next-after'.Learnt nothing
next_after_outcome κs a x y s t h p q = (one_next a.1.0 a.0.now h x y p q, refl)

pub changes_outcome : OneOutcome _ changes.ps changes.r changes'.Asked changes'.Learnt (λ κs s. s.1.1.0.now)
changes_outcome κs a x y s t h p q = does_one p q

pub sequence_outcome : OneOutcome _ sequence.ps sequence.r sequence'.Asked sequence'.Learnt nothing
sequence_outcome κs a x y s t h p q = (fixed p q, refl)

pub counts_outcome : OneOutcome _ counts.ps counts.r counts'.Asked counts'.Learnt nothing
counts_outcome κs a x y s t h p q = (fixed p q, refl)
