-- `text::decimal_size` meets its contract. Assumes nothing.
use Rattle.std.proofs.Common.{◌+◌, ◌∙◌, ap, arith}
use Rattle.text.proofs.TextLaws.{length_log}
use Rattle.text.proofs.decimal_size.Goals as goal

pub returns : goal.returns
returns c =
    let e = c.checked_ilog10.ensures in
    ap (λ n. n + 1) c.unwrap_or.ensures ∙ length_log c.checked_ilog10.result e.none e.power_le e.next_power_gt (omega arith)
