-- Which of our names a text is, and that names exclude each other. Assumes nothing.
use mathlib.Core.Path.{◌≡◌, refl, sym, ap, ◌∙◌}
use Rattle.std.specs.declared.cmp.Ordering.TheVariants.{Less, Equal, Greater}
use Rattle.std.specs.declared.cmp.Ordering.{Ordering}
use mathlib.Core.Bool.{Bool, true, false, not, ◌||◌, true≢false}
use mathlib.Core.List.{List, [], ◌∷◌, map}
use Rattle.std.specs.Prelude.{Option, None, Some}
use Prim.Native.Nat.{ℕ, ◌≤◌}
use lib.Dec.{eqb}
use lib.ListN.{get_or}
use borrow.Author.Tests.{eq-eqb, ne_eqb, le-leb}
use Rattle.std.specs.List.{list_any}
use Rattle.rules.specs.Choice.{pick, any, first_that}
use Rattle.rules.specs.Report.{text}
use Rattle.rules.specs.Order.{order_bytes, order_n, is_equal}
use Rattle.lines.specs.Take.{is_writable}
use Rattle.lines.specs.Said.{quoted, is_name}
use Rattle.fields.specs.declared.Name.{Name}
use Rattle.fields.specs.declared.Name.TheVariants.{Id, Rev, Revisions, Deleted, Label, Start, Ids}
use Rattle.fields.specs.Fields.{word, our_names, name_at, place, is_place}
use Rattle.fields.proofs.HashLaws.{and_true}
use Rattle.rules.proofs.MapLaws.{none≢some, some_inj}
use Rattle.rules.proofs.OrderLaws.{order_bytes_same}

-- ---- names

pub is_equal_lem : (a b : List ℕ) → is_equal (order_bytes a b) ≡ true → a ≡ b
is_equal_lem a b e = go (order_bytes a b) refl
  where
    go : (o : Ordering) → order_bytes a b ≡ o → a ≡ b
    go Less p = absurd (true≢false (sym (rw p at e)))
    go Equal p = order_bytes_same a b p
    go Greater p = absurd (true≢false (sym (rw p at e)))

-- a text that is of a name is told by it
named_at : (n : Name) → name_at (quoted (text (word n))) ≡ Some n
unfolding name_at first_that is_name quoted text order_bytes order_n
named_at Id = refl
named_at Rev = refl
named_at Revisions = refl
named_at Deleted = refl
named_at Label = refl
named_at Start = refl
named_at Ids = refl

first_is : (ns : List Name) (t : List ℕ) (m : Name) → first_that (map (λ n. (is_name (word n) t, n)) ns) ≡ Some m → is_name (word m) t ≡ true
unfolding first_that
first_is [] t m e = absurd (none≢some e)
first_is (n ∷ ns) t m e = go (is_name (word n) t) refl e (first_is ns t m)
  where
    go : (b : Bool) → is_name (word n) t ≡ b → pick b (Some n) (first_that (map (λ n. (is_name (word n) t, n)) ns)) ≡ Some m
        → (first_that (map (λ n. (is_name (word n) t, n)) ns) ≡ Some m → is_name (word m) t ≡ true) → is_name (word m) t ≡ true
    go true p q ih = rw (sym (some_inj q)) p
    go false p q ih = ih q

pub place_same : (a b : Name) → place a ≡ place b → a ≡ b
place_same a b e = sym (back a) ∙ (ap at e ∙ back b)
  where
    at : ℕ → Name
    at k = get_or our_names k Id

    back : (n : Name) → get_or our_names (place n) Id ≡ n
    back Id = refl
    back Rev = refl
    back Revisions = refl
    back Deleted = refl
    back Label = refl
    back Start = refl
    back Ids = refl

-- t is the name n exactly if n is the name that it is, so it is no two of ours
pub is_name_lem : (n : Name) (t : List ℕ) → is_name (word n) t ≡ is_place (place n) (name_at t)
is_name_lem n t = go (is_name (word n) t) refl
  where
    go : (b : Bool) → is_name (word n) t ≡ b → b ≡ is_place (place n) (name_at t)
    go true p =
        let q : quoted (text (word n)) ≡ t = unfold is_name in is_equal_lem (quoted (text (word n))) t p in
        let r : name_at t ≡ Some n = rw (sym q) (named_at n) in
        rw r (sym (eq-eqb (place n) (place n) refl))
    go false p = other (name_at t) refl
      where
        other : (o : Option Name) → name_at t ≡ o → false ≡ is_place (place n) o
        other None e = refl
        other (Some m) e =
            let f : is_name (word m) t ≡ true = unfold name_at in first_is our_names t m e in
            sym (ne_eqb (place n) (place m) (λ q. true≢false (sym f ∙ rw (place_same n m q) at p)))

-- ---- ids

pub in_range : (c : ℕ) → 32 ≤ c → c ≤ 126 → (c ≡ 34 → ⊥) → not (eqb c 92) ≡ is_writable c
unfolding is_writable
in_range c h k n = rw (ne_eqb c 34 n, le-leb 32 c h, le-leb c 126 k) (sym (and_true (not (eqb c 92))))

pub any_same : (p : ℕ → Bool) (t : List ℕ) → list_any p t ≡ any p t
unfolding any
any_same p [] = refl
any_same p (c ∷ t) = ap (λ (b : Bool). p c || b) (any_same p t)
