-- Readings of the order of revisions. Assumes nothing.
use mathlib.Core.Path.{◌≡◌, refl}
use Rattle.std.specs.declared.cmp.Ordering.TheVariants.{Less, Equal, Greater}
use mathlib.Core.List.{[], ◌∷◌, ◌++◌}
use lib.ListN.{replicate}
use Rattle.rules.specs.Order.{order_n, order_bytes, order_rev}
use Rattle.rules.specs.Replica.{revision}
use Rattle.rules.proofs.Readings.{rev}

-- "compared as sixteen bytes, first byte first", numbers as numbers ("9-" before "10-")
pub orders : order_rev (rev 9 0xaa) (rev 10 0x01)
    ∷ order_rev (rev 2 0x10) (revision 2 (0x0f ∷ replicate 15 0xff))
    ∷ order_rev (revision 2 (replicate 15 0 ++ (1 ∷ []))) (revision 2 (replicate 16 0))
    ∷ order_rev (rev 1 0x20) (rev 1 0x20)
    ∷ []
    ≡ Less ∷ Greater ∷ Greater ∷ Equal ∷ []
unfolding order_n order_bytes order_rev
orders = refl
