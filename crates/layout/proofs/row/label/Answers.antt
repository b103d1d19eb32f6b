-- `row::label` meets its contract. Assumes nothing.
use Rattle.rules.specs.Layout.{row_of, row_size, label_in}
use Rattle.std.proofs.Common.{refl, arith}
use Rattle.layout.proofs.FieldLaws.{number_field}
use Rattle.layout.proofs.row.label.Goals as goal

pub returns : goal.returns
unfolding row_of
returns c = number_field label_in row_size _ refl (omega arith) c.get8.ensures
