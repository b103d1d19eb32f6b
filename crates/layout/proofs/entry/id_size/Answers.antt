-- `entry::id_size` meets its contract. Assumes nothing.
use Rattle.rules.specs.Layout.{entry_of, entry_size}
use Rattle.std.proofs.Common.{sym, add-zero, arith}
use Rattle.layout.proofs.FieldLaws.{byte_field}
use Rattle.layout.proofs.entry.id_size.Goals as goal

pub overflow_cast-result : goal.overflow_cast-result
overflow_cast-result c = omega (arith, c.shared_slice_known-1.given c.args.at)

pub returns : goal.returns
unfolding entry_of
returns c =
    let a = c.args in
    byte_field 0 entry_size a.at (sym (add-zero _)) a.s.now (omega arith) (omega (arith, c.shared_slice_known-1.given a.at))
