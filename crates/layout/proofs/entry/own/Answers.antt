-- `entry::own` meets its contract. Assumes nothing.
use Rattle.rules.specs.Layout.{entry_of, entry_size, own_in}
use Rattle.std.proofs.Common.{refl, arith}
use Rattle.layout.proofs.FieldLaws.{number_field}
use Rattle.layout.proofs.entry.own.Goals as goal

pub returns : goal.returns
unfolding entry_of
returns c = number_field own_in entry_size _ refl (omega arith) c.get4.ensures
