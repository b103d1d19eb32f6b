-- Finite maps: lists of pairs whose keys strictly ascend, so that equal maps are equal lists.
use Rattle.std.specs.Prelude.{◌≡◌, List, [], ◌∷◌}
use Rattle.std.specs.declared.cmp.Ordering.TheVariants.{Less, Equal, Greater}
use Rattle.std.specs.declared.cmp.Ordering.{Ordering}
use Rattle.std.specs.Prelude.{Option, None, Some}

abbrev pub Map : Type 0 → Type 0 → Type 0
Map K A = List (K × A)

abbrev pub by_order : {X : Type 0} → Ordering → X → X → X → X
by_order Less x y z = x
by_order Equal x y z = y
by_order Greater x y z = z

module _ {K A : Type 0} (order : K → K → Ordering) where
  -- what the map has at k
  unfoldable pub find : K → Map K A → Option A
  find k [] = None
  find k (x ∷ xs) = by_order (order k x.0) None (Some x.1) (find k xs)

  -- the map with f of what it had at k
  unfoldable pub alter : K → (Option A → A) → Map K A → Map K A
  alter k f [] = (k, f None) ∷ []
  alter k f (x ∷ xs) =
      by_order (order k x.0) ((k, f None) ∷ x ∷ xs) ((k, f (Some x.1)) ∷ xs) (x ∷ alter k f xs)

  -- k is below the first key
  abbrev pub Below : K → Map K A → Type 0
  Below k [] = Unit {0}
  Below k (x ∷ xs) = order k x.0 ≡ Less

  -- the keys strictly ascend
  abbrev pub Ascending : Map K A → Type 0
  Ascending [] = Unit {0}
  Ascending (x ∷ xs) = Below x.0 xs × Ascending xs
