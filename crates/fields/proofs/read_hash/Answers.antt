-- `fields::read_hash` meets its contract. Assumes nothing.
use mathlib.Core.Path.{sym, ◌∙◌}
use Rattle.fields.proofs.HashLaws.{no_hash_size, no_hash_digits, a_hash}
use Rattle.fields.proofs.read_hash.Goals.{then-t-ne-HASH_DIGITS-via-then-t-ne-HASH_DIGITS, then-t-ne-HASH_DIGITS-via-else-t-ne-HASH_DIGITS+then-not-all_digits}
use Rattle.fields.proofs.read_hash.Goals as goal

pub returns-then-t-ne-HASH_DIGITS : goal.returns-then-t-ne-HASH_DIGITS
returns-then-t-ne-HASH_DIGITS c =
    elim c.then-t-ne-HASH_DIGITS.branch [
      | then-t-ne-HASH_DIGITS-via-then-t-ne-HASH_DIGITS w ↦ sym (no_hash_size _ w.if-t-ne-HASH_DIGITS.true)
      | then-t-ne-HASH_DIGITS-via-else-t-ne-HASH_DIGITS+then-not-all_digits w ↦
          sym (no_hash_digits _ w.if-t-ne-HASH_DIGITS.false (sym w.all_digits.ensures ∙ w.if-not-all_digits.true))
    ]

pub digit_values-requires : goal.digit_values-requires
digit_values-requires c = record { size = c.if-t-ne-HASH_DIGITS.false; digits = sym c.all_digits.ensures ∙ c.if-not-all_digits.false }

pub returns : goal.returns
returns c =
    a_hash c.args.t.now _ _ c.if-t-ne-HASH_DIGITS.false (sym c.all_digits.ensures ∙ c.if-not-all_digits.false) c.digit_values.ensures c.pairs.ensures
