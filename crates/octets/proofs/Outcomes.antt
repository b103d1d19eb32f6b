-- Each public function has one outcome. Assumes nothing.
use Rattle.std.proofs.Common.{refl}
use Rattle.rules.specs.Outcome.{OneOutcome, nothing}
use Rattle.rules.proofs.OutcomeLaws.{fixed}
use Rattle.octets.proofs.number.get2.Kinds as get2
use Rattle.octets.proofs.number.get2.Reads as get2'
use Rattle.octets.proofs.number.get4.Kinds as get4
use Rattle.octets.proofs.number.get4.Reads as get4'
use Rattle.octets.proofs.number.get8.Kinds as get8
use Rattle.octets.proofs.number.get8.Reads as get8'
use Rattle.octets.proofs.number.put2.Kinds as put2
use Rattle.octets.proofs.number.put2.Reads as put2'
use Rattle.octets.proofs.number.put4.Kinds as put4
use Rattle.octets.proofs.number.put4.Reads as put4'
use Rattle.octets.proofs.number.put8.Kinds as put8
use Rattle.octets.proofs.number.put8.Reads as put8'
use Rattle.octets.proofs.order.order_bytes.Kinds as order-bytes
use Rattle.octets.proofs.order.order_bytes.Reads as order-bytes'
use Rattle.octets.proofs.order.order_hash_at.Kinds as order-hash-at
use Rattle.octets.proofs.order.order_hash_at.Reads as order-hash-at'
use Rattle.octets.proofs.order.same_bytes.Kinds as same_bytes
use Rattle.octets.proofs.order.same_bytes.Reads as same-bytes'
use Rattle.octets.proofs.order.all_zero.Kinds as all-zero
use Rattle.octets.proofs.order.all_zero.Reads as all-zero'
use Rattle.octets.proofs.run.copy_in.Kinds as copy-in
use Rattle.octets.proofs.run.copy_in.Reads as copy-in'
use Rattle.octets.proofs.run.clear.Kinds as clear
use Rattle.octets.proofs.run.clear.Reads as clear'
use Rattle.octets.proofs.run.move_up.Kinds as move_up
use Rattle.octets.proofs.run.move_up.Reads as move-up'
use Rattle.octets.proofs.run.get_hash.Kinds as get-hash
use Rattle.octets.proofs.run.get_hash.Reads as get-hash'
use Rattle.octets.proofs.run.put_hash.Kinds as put-hash
use Rattle.octets.proofs.run.put_hash.Reads as put-hash'

pub get2_outcome : OneOutcome _ get2.ps get2.r get2'.Asked get2'.Learnt nothing
get2_outcome κs a x y s t h p q = (fixed p.is q.is, refl)

pub get4_outcome : OneOutcome _ get4.ps get4.r get4'.Asked get4'.Learnt nothing
get4_outcome κs a x y s t h p q = (fixed p.is q.is, refl)

pub get8_outcome : OneOutcome _ get8.ps get8.r get8'.Asked get8'.Learnt nothing
get8_outcome κs a x y s t h p q = (fixed p.is q.is, refl)

pub put2_outcome : OneOutcome _ put2.ps put2.r put2'.Asked put2'.Learnt (λ κs s. s.0.now)
put2_outcome κs a x y s t h p q = (refl, fixed p q)

pub put4_outcome : OneOutcome _ put4.ps put4.r put4'.Asked put4'.Learnt (λ κs s. s.0.now)
put4_outcome κs a x y s t h p q = (refl, fixed p.is q.is)

pub put8_outcome : OneOutcome _ put8.ps put8.r put8'.Asked put8'.Learnt (λ κs s. s.0.now)
put8_outcome κs a x y s t h p q = (refl, fixed p.is q.is)

pub order_bytes_outcome : OneOutcome _ order-bytes.ps order-bytes.r order-bytes'.Asked order-bytes'.Learnt nothing
order_bytes_outcome κs a x y s t h p q = (fixed p q, refl)

pub order_hash_at_outcome : OneOutcome _ order-hash-at.ps order-hash-at.r order-hash-at'.Asked order-hash-at'.Learnt nothing
order_hash_at_outcome κs a x y s t h p q = (fixed p q, refl)

pub same_bytes_outcome : OneOutcome _ same_bytes.ps same_bytes.r same-bytes'.Asked same-bytes'.Learnt nothing
same_bytes_outcome κs a x y s t h p q = (fixed p q, refl)

pub all_zero_outcome : OneOutcome _ all-zero.ps all-zero.r all-zero'.Asked all-zero'.Learnt nothing
all_zero_outcome κs a x y s t h p q = (fixed p q, refl)

pub copy_in_outcome : OneOutcome _ copy-in.ps copy-in.r copy-in'.Asked copy-in'.Learnt (λ κs s. s.0.now)
copy_in_outcome κs a x y s t h p q = (refl, fixed p q)

pub clear_outcome : OneOutcome _ clear.ps clear.r clear'.Asked clear'.Learnt (λ κs s. s.0.now)
clear_outcome κs a x y s t h p q = (refl, fixed p q)

pub move_up_outcome : OneOutcome _ move_up.ps move_up.r move-up'.Asked move-up'.Learnt (λ κs s. s.0.now)
move_up_outcome κs a x y s t h p q = (refl, fixed p q)

pub get_hash_outcome : OneOutcome _ get-hash.ps get-hash.r get-hash'.Asked get-hash'.Learnt nothing
get_hash_outcome κs a x y s t h p q = (fixed p.is q.is, refl)

pub put_hash_outcome : OneOutcome _ put-hash.ps put-hash.r put-hash'.Asked put-hash'.Learnt (λ κs s. s.0.now)
put_hash_outcome κs a x y s t h p q = (refl, fixed p.is q.is)
