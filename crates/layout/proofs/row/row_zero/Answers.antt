-- `row::row_zero` meets its contract. Assumes nothing.
use Rattle.rules.specs.Layout.{row_of, row_size, row_zero_in}
use Rattle.std.proofs.Common.{refl, arith}
use Rattle.layout.proofs.FieldLaws.{number_field}
use Rattle.layout.proofs.row.row_zero.Goals as goal

pub returns : goal.returns
unfolding row_of
returns c = number_field row_zero_in row_size _ refl (omega arith) c.get2.ensures
