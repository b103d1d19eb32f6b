-- `hash_in` meets its contract. Assumes nothing.
use mathlib.Core.Path.{◌≡◌, sym, ap, ◌∙◌}
use Prim.Native.Nat.{ℕ, ◌+◌, ◌-◌}
use native.Mathlib.Omega.{arith}
use lib.ListN.{take, drop}
use Rattle.lines.specs.Said.{read_hash}
use Rattle.takes.proofs.HashLaws.{hash_short, hash_open, hash_close, hash_in_lem}
use Rattle.takes.proofs.hash_in.Goals.{then-s-i-lt-HASH_TEXT-via-then-s-i-lt-HASH_TEXT, then-s-i-lt-HASH_TEXT-via-else-s-i-lt-HASH_TEXT+then-s-i-ne-QUOTE, then-s-i-lt-HASH_TEXT-via-else-s-i-lt-HASH_TEXT+else-s-i-ne-QUOTE+then-s-i-ne-QUOTE-2}
use Rattle.takes.proofs.hash_in.Goals as goal

pub returns-then-s-i-lt-HASH_TEXT : goal.returns-then-s-i-lt-HASH_TEXT
returns-then-s-i-lt-HASH_TEXT c =
    let a = c.args in
    elim c.then-s-i-lt-HASH_TEXT.branch [
      | then-s-i-lt-HASH_TEXT-via-then-s-i-lt-HASH_TEXT w ↦ sym (hash_short a.s.now a.i (omega (arith, w.if-s-i-lt-HASH_TEXT.true)))
      | then-s-i-lt-HASH_TEXT-via-else-s-i-lt-HASH_TEXT+then-s-i-ne-QUOTE w ↦ sym (hash_open a.s.now a.i w.if-s-i-ne-QUOTE.true)
      | then-s-i-lt-HASH_TEXT-via-else-s-i-lt-HASH_TEXT+else-s-i-ne-QUOTE+then-s-i-ne-QUOTE-2 w ↦ sym (hash_close a.s.now a.i w.if-s-i-ne-QUOTE-2.true)
    ]

pub returns : goal.returns
returns c =
    let a = c.args in
    let n : a.i + 33 - (a.i + 1) ≡ 32 = omega arith in
    c.read_hash.ensures
    ∙ (ap (λ (k : ℕ). read_hash (take k (drop (a.i + 1) a.s.now))) n
    ∙ sym (hash_in_lem a.s.now a.i (omega (arith, c.if-s-i-lt-HASH_TEXT.false)) c.if-s-i-ne-QUOTE.false c.if-s-i-ne-QUOTE-2.false))
