-- Laws of passing over a list of either kind. Assumes nothing.
use mathlib.Core.Path.{◌≡◌, refl}
use Rattle.std.specs.Prelude.{Option, None, Some}
use mathlib.Core.List.{List}
use mathlib.Core.Logic.{inl, inr}
use Prim.Native.Nat.{ℕ, ◌+◌, ◌-◌, ◌≤◌, ◌<◌}
use native.Mathlib.Omega.{arith}
use lib.ListN.{length, get_or}
use Rattle.json_text.specs.Grammar.{Rule}
use Rattle.json_text.specs.Tight.{member, value, array, begin_array, end_array, object, begin_object, end_object}
use Rattle.json_text.specs.Skips.{EndsAt, NoText, Skips}
use Rattle.json_text.proofs.StepLaws.{Goes}
use Rattle.json_text.proofs.ListLaws.{Closes, Headed, Items, Listed, closes_array, closes_object, list_none, list_first, list_no_item, list_last, list_wrong, list_more}
use Rattle.values.specs.declared.Kind.{Kind}
use Rattle.values.specs.declared.Kind.TheVariants as kind
use Rattle.values.specs.declared.Next.{Next}
use Rattle.values.specs.declared.Next.TheVariants as next
use Rattle.values.specs.Kinds.{open_of, close_of, item_of, list_of}
use Rattle.values.specs.Places.{ClosedAt, Opens, Follows}
use Rattle.values.proofs.ValueLaws.{value_headed, member_headed, value_too_deep, skips_array, skips_object}

-- the place of a walk
abbrev pub place : Next → ℕ
place (next.Item i) = i
place (next.End e) = e

-- a walk over the list P stands here: what is left of it are items by v, or it has ended
abbrev pub Walks : ℕ → Rule → Rule → List ℕ → ℕ → Next → Type 0
Walks close v P s at (next.Item i) = Goes P (Items close v) s at i
Walks close v P s at (next.End e) = EndsAt P s at e

closes : (k : Kind) → Closes (close_of k)
closes kind.Array = closes_array
closes kind.Object = closes_object

headed : (k : Kind) (d : ℕ) → Headed (close_of k) (item_of k (value d))
headed kind.Array d = value_headed d
headed kind.Object d = member_headed (value d)

module _ (close left : ℕ) (v : Rule) (C : Closes close) (H : Headed close v) (s : List ℕ) (at : ℕ) (o : get_or s at 0 ≡ left) (pos : 0 < left) where
  listed_opens : (n : Next) → Opens s at close n → Walks close v (Listed left close v) s at n
  listed_opens (next.Item i) p = list_first close v C H left s at o pos i p.white p.other
  listed_opens (next.End e) p = rw p.next (list_none close v C H left s at o pos p.bracket p.white p.is)

pub walk_opens : (k : Kind) (d : ℕ) (s : List ℕ) (at : ℕ) → get_or s at 0 ≡ open_of k → (n : Next) → Opens s at (close_of k) n
    → Walks (close_of k) (item_of k (value d)) (list_of k (value d)) s at n
unfolding array begin_array end_array object begin_object end_object Listed
walk_opens kind.Array d s at o n p = listed_opens 93 91 (value d) closes_array (value_headed d) s at o (omega arith) n p
walk_opens kind.Object d s at o n p = listed_opens 125 123 (member (value d)) closes_object (member_headed (value d)) s at o (omega arith) n p

module _ (k : Kind) (d : ℕ) (s : List ℕ) (at i : ℕ) (g : Goes (list_of k (value d)) (Items (close_of k) (item_of k (value d))) s at i) where
  pub walk_no_item : NoText (item_of k (value d)) s i → NoText (list_of k (value d)) s at
  walk_no_item f = list_no_item (close_of k) (item_of k (value d)) (closes k) (headed k d) (list_of k (value d)) s at i g f

  module _ (e : ℕ) (t : EndsAt (item_of k (value d)) s i e) where
    pub walk_follows : (n : Next) → Follows s e (close_of k) (Some n) → Walks (close_of k) (item_of k (value d)) (list_of k (value d)) s at n
    walk_follows (next.Item j) p =
        list_more (close_of k) (item_of k (value d)) (closes k) (headed k d) (list_of k (value d)) s at i g e p.comma t p.white j p.is p.spaces
    walk_follows (next.End z) p =
        rw p.next (list_last (close_of k) (item_of k (value d)) (closes k) (headed k d) (list_of k (value d)) s at i g e p.bracket t p.white p.is)

    pub walk_wrong : Follows s e (close_of k) None → NoText (list_of k (value d)) s at
    walk_wrong p =
        list_wrong (close_of k) (item_of k (value d)) (closes k) (headed k d) (list_of k (value d)) s at i g e p.place t p.white p.no_close p.no_comma

-- a value that begins with a bracket
pub value_list : (k : Kind) (d e : ℕ) (s : List ℕ) (at : ℕ) → d ≡ e + 1 → get_or s at 0 ≡ open_of k → (x : Option ℕ) → Skips (list_of k (value e)) s at x → Skips (value d) s at x
value_list kind.Array d e s at q o x h = let z : e ≡ d - 1 = omega arith in skips_array s at d o (λ f. omega arith) x (rw z at h)
value_list kind.Object d e s at q o x h = let z : e ≡ d - 1 = omega arith in skips_object s at d o (λ f. omega arith) x (rw z at h)
