-- Each public function has one outcome. Assumes nothing.
use mathlib.Core.Path.{refl}
use Rattle.rules.specs.Outcome.{OneOutcome, nothing}
use Rattle.rules.proofs.OutcomeLaws.{fixed}
use Rattle.fields.proofs.read_number.Kinds as read_number
use Rattle.fields.proofs.read_number.Reads as read-number'
use Rattle.fields.proofs.put_hash.Kinds as put-hash
use Rattle.fields.proofs.put_hash.Reads as put-hash'
use Rattle.fields.proofs.read_hash.Kinds as read-hash
use Rattle.fields.proofs.read_hash.Reads as read-hash'
use Rattle.fields.proofs.read_rev.Kinds as read-rev
use Rattle.fields.proofs.read_rev.Reads as read-rev'
use Rattle.fields.proofs.is_unwritable.Kinds as is-unwritable
use Rattle.fields.proofs.is_unwritable.Reads as is-unwritable'
use Rattle.fields.proofs.is_true.Kinds as is_true
use Rattle.fields.proofs.is_true.Reads as is-true'
use Rattle.fields.proofs.which_name.Kinds as which-name
use Rattle.fields.proofs.which_name.Reads as which-name'

pub read_number_outcome : OneOutcome _ read_number.ps read_number.r read-number'.Asked read-number'.Learnt nothing
read_number_outcome κs a x y s t h p q = (fixed p q, refl)

pub put_hash_outcome : OneOutcome _ put-hash.ps put-hash.r put-hash'.Asked put-hash'.Learnt (λ κs s. s.1.0.now)
put_hash_outcome κs a x y s t h p q = (fixed p.is q.is, fixed p.left q.left)

pub read_hash_outcome : OneOutcome _ read-hash.ps read-hash.r read-hash'.Asked read-hash'.Learnt nothing
read_hash_outcome κs a x y s t h p q = (fixed p q, refl)

pub read_rev_outcome : OneOutcome _ read-rev.ps read-rev.r read-rev'.Asked read-rev'.Learnt nothing
read_rev_outcome κs a x y s t h p q = (fixed p q, refl)

pub is_unwritable_outcome : OneOutcome _ is-unwritable.ps is-unwritable.r is-unwritable'.Asked is-unwritable'.Learnt nothing
is_unwritable_outcome κs a x y s t h p q = (fixed p q, refl)

pub is_true_outcome : OneOutcome _ is_true.ps is_true.r is-true'.Asked is-true'.Learnt nothing
is_true_outcome κs a x y s t h p q = (fixed p q, refl)

pub which_name_outcome : OneOutcome _ which-name.ps which-name.r which-name'.Asked which-name'.Learnt nothing
which_name_outcome κs a x y s t h p q = (fixed p q, refl)
