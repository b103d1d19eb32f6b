-- `run::bytes_at` meets its contract. Assumes nothing.
use Rattle.std.proofs.Common.{◌≡◌, ◌+◌, ◌-◌, arith}
use Rattle.rules.specs.Bytes.{part}
use Rattle.octets.proofs.run.bytes_at.Goals as goal

pub returns : goal.returns
unfolding part
returns g c =
    let a = c.args in
    let n : a.at + g.row.N - a.at ≡ g.row.N = omega arith in
    rw n at c.copy_from_slice.ensures.after
