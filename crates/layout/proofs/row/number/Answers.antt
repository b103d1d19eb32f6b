-- `row::number` meets its contract. Assumes nothing.
use Rattle.rules.specs.Layout.{row_of, row_size}
use Rattle.std.proofs.Common.{sym, add-zero, arith}
use Rattle.layout.proofs.FieldLaws.{number_field}
use Rattle.layout.proofs.row.number.Goals as goal

pub returns : goal.returns
unfolding row_of
returns c = number_field 0 row_size _ (sym (add-zero _)) (omega arith) c.get4.ensures
