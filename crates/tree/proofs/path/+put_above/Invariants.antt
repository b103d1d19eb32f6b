-- `path::put_above` meets its contract. Assumes nothing.
use Prim.Native.Nat.{◌+◌, ◌*◌}
use Rattle.rules.specs.Layout.{row_size}
use Rattle.tree.specs.Rows.{rev_at}
use Rattle.tree.proofs.path.+put_above.Given as goal

abbrev pub decreases-put_above : goal.decreases-put_above
decreases-put_above l = (rev_at (l.base + l.i * row_size) l.s.now).number.0
