-- What a path gives against what is held: whether two agree, and what is added. Assumes nothing.
use mathlib.Core.Path.{◌≡◌, refl, sym, ap, ap₂, ◌∙◌}
use mathlib.Core.Bool.{Bool, true, false, not, ◌||◌, or-true, true≢false}
use mathlib.Core.List.{List, [], ◌∷◌}
use Rattle.std.specs.Prelude.{Option, None, Some}
use Prim.Native.Nat.{◌+◌}
use native.Mathlib.Nat.{zero-add}
use native.Mathlib.Omega.{arith}
use lib.Dec.{ltb}
use borrow.Author.Tests.{lt-ltb, eqb-true, eq-eqb, not-false}
use Rattle.rules.specs.declared.Content.{Content}
use Rattle.rules.specs.declared.Content.TheVariants.{Live, Deleted}
use Rattle.rules.specs.declared.Revision.{Revision}
use Rattle.rules.specs.Choice.{pick, any, how_many}
use Rattle.rules.specs.Map.{find}
use Rattle.rules.specs.Order.{order_rev}
use Rattle.rules.specs.Replica.{Node, Tree, Replica, tree_of}
use Rattle.rules.specs.Write.{Write, gives, is_new, is_new_parent, is_addition, count_new, count_parents, adds, differ, agree}
use Rattle.rules.proofs.MapLaws.{none≢some, some_inj}

-- ---- two that agree

pub agree_true : (a b : Content) → agree a b ≡ true → a ≡ b
agree_true (Live a) (Live b) e = ap Live (eqb-true a b e)
agree_true (Live a) Deleted e = absurd (true≢false (sym e))
agree_true Deleted (Live b) e = absurd (true≢false (sym e))
agree_true Deleted Deleted e = refl

agree_self : (a : Content) → agree a a ≡ true
agree_self (Live n) = eq-eqb n n refl
agree_self Deleted = refl

pub true_agree : (a b : Content) → a ≡ b → agree a b ≡ true
true_agree a b e = rw e (agree_self b)

-- two that are there and don't differ are the same to the test
module _ {A : Type 0} (same : A → A → Bool) where
  pub differ_same : (x y : Option A) → differ same x y ≡ false → (a b : A) → x ≡ Some a → y ≡ Some b → same a b ≡ true
  differ_same None y e a b p q = absurd (none≢some p)
  differ_same (Some c) None e a b p q = absurd (none≢some q)
  differ_same (Some c) (Some d) e a b p q = rw (some_inj p, some_inj q) at (not-false (same c d) e)

  pub same_differ : (x y : Option A) → ((a b : A) → x ≡ Some a → y ≡ Some b → same a b ≡ true) → differ same x y ≡ false
  same_differ None y h = refl
  same_differ (Some a) None h = refl
  same_differ (Some a) (Some b) h = ap not (h a b refl refl)

-- ---- what is added

how_many_any : {A : Type 0} (p : A → Bool) (xs : List A) → ltb 0 (how_many p xs) ≡ any p xs
unfolding how_many any
how_many_any p [] = refl
how_many_any p (x ∷ xs) = go (p x) (how_many_any p xs)
  where
    go : (b : Bool) → ltb 0 (how_many p xs) ≡ any p xs → ltb 0 (pick b 1 0 + how_many p xs) ≡ (b || any p xs)
    go true ih = lt-ltb 0 (1 + how_many p xs) (omega arith)
    go false ih = ap (ltb 0) (zero-add (how_many p xs)) ∙ ih

any_either : {A : Type 0} (p q r : A → Bool) → ((x : A) → r x ≡ (p x || q x)) → (xs : List A) → (any p xs || any q xs) ≡ any r xs
unfolding any
any_either p q r h [] = refl
any_either p q r h (x ∷ xs) = go (p x) (q x) ∙ ap₂ ◌||◌ (sym (h x)) (any_either p q r h xs)
  where
    go : (a b : Bool) → ((a || any p xs) || (b || any q xs)) ≡ ((a || b) || (any p xs || any q xs))
    go true b = refl
    go false true = or-true (any p xs)
    go false false = refl

addition : (t : Tree) (g : Revision × Node) → is_addition t g ≡ (is_new t g || is_new_parent t g)
unfolding is_addition is_new is_new_parent
addition t g = go (find order_rev g.0 t) refl
  where
    go : (o : Option Node) → find order_rev g.0 t ≡ o → is_addition t g ≡ (is_new t g || is_new_parent t g)
    go None e = rw e refl
    go (Some n) e = rw e refl

-- "Where nothing was added": neither a revision nor a parent
counts_add : (t : Tree) (gs : List (Revision × Node)) → (ltb 0 (count_new t gs) || ltb 0 (count_parents t gs)) ≡ any (is_addition t) gs
unfolding count_new count_parents
counts_add t gs =
    ap₂ ◌||◌ (how_many_any (is_new t) gs) (how_many_any (is_new_parent t) gs)
    ∙ any_either (is_new t) (is_new_parent t) (is_addition t) (addition t) gs

pub adds_any : (r : Replica) (w : Write) → adds r w ≡ any (is_addition (tree_of r w.id)) (gives w)
unfolding adds
adds_any r w = counts_add (tree_of r w.id) (gives w)
