-- The orders. "The hash is sixteen bytes and is compared as sixteen bytes, first byte first";
-- ids go "byte by byte, a prefix first"; revisions go "by number, then hash".
use Rattle.std.specs.Prelude.{Bool, true, false, List, [], ◌∷◌}
use Rattle.std.specs.declared.cmp.Ordering.TheVariants.{Less, Equal, Greater}
use Rattle.std.specs.declared.cmp.Ordering.{Ordering}
use Prim.Native.Nat.{ℕ, compare, Ordering as Compared}
use Rattle.rules.specs.declared.Revision.{Revision}

abbrev pub from_ordering : Compared → Ordering
from_ordering Compared.lt = Less
from_ordering Compared.eq = Equal
from_ordering Compared.gt = Greater

unfoldable pub order_n : ℕ → ℕ → Ordering
order_n a b = from_ordering (compare a b)

-- by the first, and where that is Equal by the second
abbrev pub and_then : Ordering → Ordering → Ordering
and_then Less o = Less
and_then Equal o = o
and_then Greater o = Greater

-- byte by byte, a prefix first
unfoldable pub order_bytes : List ℕ → List ℕ → Ordering
order_bytes [] [] = Equal
order_bytes [] (b ∷ bs) = Less
order_bytes (a ∷ more) [] = Greater
order_bytes (a ∷ more) (b ∷ bs) = and_then (order_n a b) (order_bytes more bs)

-- by number, then by hash
unfoldable pub order_rev : Revision → Revision → Ordering
order_rev a b = and_then (order_n a.number.0 b.number.0) (order_bytes a.hash b.hash)

abbrev pub is_less : Ordering → Bool
is_less Less = true
is_less Equal = false
is_less Greater = false

abbrev pub is_equal : Ordering → Bool
is_equal Less = false
is_equal Equal = true
is_equal Greater = false

unfoldable pub same_rev : Revision → Revision → Bool
same_rev a b = is_equal (order_rev a b)
