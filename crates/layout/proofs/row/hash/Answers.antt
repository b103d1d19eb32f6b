-- `row::hash` meets its contract. Assumes nothing.
use Rattle.rules.specs.Layout.{row_of, row_size, hash_in}
use Rattle.std.proofs.Common.{refl, arith}
use Rattle.layout.proofs.FieldLaws.{hash_field}
use Rattle.layout.proofs.row.hash.Goals as goal

pub returns : goal.returns
unfolding row_of
returns c = hash_field hash_in row_size _ refl (omega arith) c.get_hash.ensures
