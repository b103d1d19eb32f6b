-- `row::parent` meets its contract. Assumes nothing.
use Rattle.rules.specs.Layout.{row_of, row_size, parent_hash_in}
use Rattle.std.proofs.Common.{refl, arith}
use Rattle.layout.proofs.FieldLaws.{hash_field}
use Rattle.layout.proofs.row.parent.Goals as goal

pub returns : goal.returns
unfolding row_of
returns c = hash_field parent_hash_in row_size _ refl (omega arith) c.get_hash.ensures
