-- Each public function has one outcome. Assumes nothing.
use mathlib.Core.Path.{refl}
use Rattle.rules.specs.Outcome.{OneOutcome, nothing}
use Rattle.rules.proofs.OutcomeLaws.{fixed, does_one}
use Rattle.puts.proofs.put_out_size.Kinds as put-out-size
use Rattle.puts.proofs.put_out_size.Reads as put-out-size'
use Rattle.puts.proofs.put_out.Kinds as put-out
use Rattle.puts.proofs.put_out.Reads as put-out'

pub put_out_size_outcome : OneOutcome _ put-out-size.ps put-out-size.r put-out-size'.Asked put-out-size'.Learnt nothing
put_out_size_outcome κs a x y s t h p q = (fixed p q, refl)

pub put_out_outcome : OneOutcome _ put-out.ps put-out.r put-out'.Asked put-out'.Learnt (λ κs s. s.1.1.0.now)
put_out_outcome κs a x y s t h p q = does_one p q
