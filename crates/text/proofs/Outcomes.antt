-- Each public function has one outcome. Assumes nothing.
use Rattle.std.proofs.Common.{◌≡◌, refl, List, ℕ}
use Rattle.rules.specs.Outcome.{OneOutcome, nothing}
use Rattle.rules.proofs.OutcomeLaws.{fixed}
use Rattle.text.specs.Text.{Put}
use Rattle.text.proofs.put_word.Kinds as put_word
use Rattle.text.proofs.put_word.Reads as put-word'
use Rattle.text.proofs.put_decimal.Kinds as put-decimal
use Rattle.text.proofs.put_decimal.Reads as put-decimal'
use Rattle.text.proofs.decimal_size.Kinds as decimal-size
use Rattle.text.proofs.decimal_size.Reads as decimal-size'
use Rattle.text.proofs.put_rev.Kinds as put-rev
use Rattle.text.proofs.put_rev.Reads as put-rev'
use Rattle.text.proofs.put_hex.Kinds as put-hex
use Rattle.text.proofs.put_hex.Reads as put-hex'

put_one : {text before : List ℕ} {at x y : ℕ} {s t : List ℕ} → Put text before at x s → Put text before at y t → (x ≡ y) × (s ≡ t)
put_one p q = (fixed p.ends q.ends, fixed p.is q.is)

pub put_word_outcome : OneOutcome _ put_word.ps put_word.r put-word'.Asked put-word'.Learnt (λ κs s. s.0.now)
put_word_outcome κs a x y s t h p q = put_one p q

pub put_decimal_outcome : OneOutcome _ put-decimal.ps put-decimal.r put-decimal'.Asked put-decimal'.Learnt (λ κs s. s.0.now)
put_decimal_outcome κs a x y s t h p q = put_one p q

pub put_hex_outcome : OneOutcome _ put-hex.ps put-hex.r put-hex'.Asked put-hex'.Learnt (λ κs s. s.0.now)
put_hex_outcome κs a x y s t h p q = put_one p q

pub decimal_size_outcome : OneOutcome _ decimal-size.ps decimal-size.r decimal-size'.Asked decimal-size'.Learnt nothing
decimal_size_outcome κs a x y s t h p q = (fixed p q, refl)

pub put_rev_outcome : OneOutcome _ put-rev.ps put-rev.r put-rev'.Asked put-rev'.Learnt (λ κs s. s.0.now)
put_rev_outcome κs a x y s t h p q = put_one p.put q.put
