-- Each public function has one outcome. Assumes nothing.
use mathlib.Core.Path.{refl}
use Rattle.rules.specs.Outcome.{OneOutcome, nothing}
use Rattle.rules.proofs.OutcomeLaws.{fixed}
use Rattle.tree.proofs.row.put_row.Kinds as put-row
use Rattle.tree.proofs.row.put_row.Reads as put-row'
use Rattle.tree.proofs.row.compare_at.Kinds as compare-at
use Rattle.tree.proofs.row.compare_at.Reads as compare-at'
use Rattle.tree.proofs.table.row_at.Kinds as row_at
use Rattle.tree.proofs.table.row_at.Reads as row-at'
use Rattle.tree.proofs.table.rev_at.Kinds as rev-at
use Rattle.tree.proofs.table.rev_at.Reads as rev-at'
use Rattle.tree.proofs.table.kind_at.Kinds as kind_at
use Rattle.tree.proofs.table.kind_at.Reads as kind-at'
use Rattle.tree.proofs.table.find.Kinds as find
use Rattle.tree.proofs.table.find.Reads as find'
use Rattle.tree.proofs.table.is_missing.Kinds as is-missing
use Rattle.tree.proofs.table.is_missing.Reads as is-missing'
use Rattle.tree.proofs.table.insert_row.Kinds as insert-row
use Rattle.tree.proofs.table.insert_row.Reads as insert-row'
use Rattle.tree.proofs.leaf.leaf_count.Kinds as leaf-count
use Rattle.tree.proofs.leaf.leaf_count.Reads as leaf-count'
use Rattle.tree.proofs.leaf.put_leaf.Kinds as put-leaf
use Rattle.tree.proofs.leaf.put_leaf.Reads as put-leaf'
use Rattle.tree.proofs.leaf.put_leaves.Kinds as put-leaves
use Rattle.tree.proofs.leaf.put_leaves.Reads as put-leaves'
use Rattle.tree.proofs.leaf.winner_of.Kinds as winner-of
use Rattle.tree.proofs.leaf.winner_of.Reads as winner-of'
use Rattle.tree.proofs.path.path_count.Kinds as path-count
use Rattle.tree.proofs.path.path_count.Reads as path-count'
use Rattle.tree.proofs.path.put_path.Kinds as put-path
use Rattle.tree.proofs.path.put_path.Reads as put-path'

pub put_row_outcome : OneOutcome _ put-row.ps put-row.r put-row'.Asked put-row'.Learnt (λ κs s. s.0.now)
put_row_outcome κs a x y s t h p q = (refl, fixed p.is q.is)

pub compare_at_outcome : OneOutcome _ compare-at.ps compare-at.r compare-at'.Asked compare-at'.Learnt nothing
compare_at_outcome κs a x y s t h p q = (fixed p q, refl)

pub row_at_outcome : OneOutcome _ row_at.ps row_at.r row-at'.Asked row-at'.Learnt nothing
row_at_outcome κs a x y s t h p q = (fixed p q, refl)

pub rev_at_outcome : OneOutcome _ rev-at.ps rev-at.r rev-at'.Asked rev-at'.Learnt nothing
rev_at_outcome κs a x y s t h p q = (fixed p q, refl)

pub kind_at_outcome : OneOutcome _ kind_at.ps kind_at.r kind-at'.Asked kind-at'.Learnt nothing
kind_at_outcome κs a x y s t h p q = (fixed p q, refl)

pub find_outcome : OneOutcome _ find.ps find.r find'.Asked find'.Learnt nothing
find_outcome κs a x y s t h p q = (fixed p q, refl)

pub is_missing_outcome : OneOutcome _ is-missing.ps is-missing.r is-missing'.Asked is-missing'.Learnt nothing
is_missing_outcome κs a x y s t h p q = (fixed p q, refl)

pub insert_row_outcome : OneOutcome _ insert-row.ps insert-row.r insert-row'.Asked insert-row'.Learnt (λ κs s. s.0.now)
insert_row_outcome κs a x y s t h p q = (refl, fixed p.is q.is)

pub leaf_count_outcome : OneOutcome _ leaf-count.ps leaf-count.r leaf-count'.Asked leaf-count'.Learnt nothing
leaf_count_outcome κs a x y s t h p q = (fixed p q, refl)

pub put_leaf_outcome : OneOutcome _ put-leaf.ps put-leaf.r put-leaf'.Asked put-leaf'.Learnt (λ κs s. s.0.now)
put_leaf_outcome κs a x y s t h p q = (refl, fixed p.is q.is)

pub put_leaves_outcome : OneOutcome _ put-leaves.ps put-leaves.r put-leaves'.Asked put-leaves'.Learnt (λ κs s. s.1.1.0.now)
put_leaves_outcome κs a x y s t h p q = (refl, fixed p.is q.is)

pub winner_of_outcome : OneOutcome _ winner-of.ps winner-of.r winner-of'.Asked winner-of'.Learnt nothing
winner_of_outcome κs a x y s t h p q = (fixed p q, refl)

pub path_count_outcome : OneOutcome _ path-count.ps path-count.r path-count'.Asked path-count'.Learnt nothing
path_count_outcome κs a x y s t h p q = (fixed p.is q.is, refl)

pub put_path_outcome : OneOutcome _ put-path.ps put-path.r put-path'.Asked put-path'.Learnt (λ κs s. s.1.1.1.0.now)
put_path_outcome κs a x y s t h p q = (fixed p.end q.end, fixed p.is q.is)
