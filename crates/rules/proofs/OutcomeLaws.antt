-- What an equation fixes has one outcome. Assumes nothing.
use mathlib.Core.Path.{◌≡◌, sym, ◌∙◌}
use mathlib.Core.List.{List}
use Prim.Native.Nat.{ℕ}
use Rattle.rules.specs.Outcome.{Does}

-- what one equation fixes is one value
pub fixed : {A : Type 0} {x y a : A} → x ≡ a → y ≡ a → x ≡ y
fixed p q = p ∙ sym q

pub does_one :
    {A : Type 0} {o : A × List ℕ} {x y : A} {s t : List ℕ} → Does o x s → Does o y t → (x ≡ y) × (s ≡ t)
does_one p q = (fixed p.answers q.answers, fixed p.left q.left)
