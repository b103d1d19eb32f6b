-- `row::kind` meets its contract. Assumes nothing.
use Rattle.rules.specs.Layout.{row_of, row_size, kind_in}
use Rattle.std.proofs.Common.{refl, arith, ◌+◌}
use Rattle.layout.proofs.FieldLaws.{byte_field}
use Rattle.layout.proofs.row.kind.Goals as goal

pub returns : goal.returns
unfolding row_of
returns c =
    let a = c.args in
    byte_field kind_in row_size a.at refl a.s.now (omega arith) (omega (arith, c.shared_slice_known-1.given (a.at + kind_in)))
