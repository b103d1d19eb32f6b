-- `entry::rows` meets its contract. Assumes nothing.
use Rattle.rules.specs.Layout.{entry_of, entry_size, count_in}
use Rattle.std.proofs.Common.{refl, arith}
use Rattle.layout.proofs.FieldLaws.{number_field}
use Rattle.layout.proofs.entry.rows.Goals as goal

pub returns : goal.returns
unfolding entry_of
returns c = number_field count_in entry_size _ refl (omega arith) c.get2.ensures
