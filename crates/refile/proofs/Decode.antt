-- A result says what was said. Assumes nothing.
use mathlib.Core.Path.{◌≡◌, sym, ap, ◌∙◌}
use Prim.Native.Nat.{ℕ}
use Rattle.rules.specs.Answer.{Numbered}
use Rattle.refile.specs.Boundary.{result_number}
use Rattle.refile.specs.Decode.{decode, InRange}
use Rattle.refile.proofs.FairLaws.{decode_number}

pub decode_result : (n : Numbered) → InRange n → decode (result_number n) ≡ n
decode_result = decode_number

-- so an accepted result and a refused one never meet, nor do two of different numbers or values
pub results_apart : (m n : Numbered) → InRange m → InRange n → result_number m ≡ result_number n → m ≡ n
results_apart m n h k e = sym (decode_result m h) ∙ (ap (λ (r : ℕ). decode r) e ∙ decode_result n k)
