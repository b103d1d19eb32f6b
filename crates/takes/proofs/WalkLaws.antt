-- Laws of a walk over the members of an object. Assumes nothing.
use mathlib.Core.List.{List, [], ◌∷◌, ◌++◌}
use Rattle.std.specs.Prelude.{Option, None, Some}
use mathlib.Core.Path.{◌≡◌, refl, subst}
use Prim.Native.Nat.{ℕ, ◌+◌, ◌-◌, ◌≤◌, ◌<◌}
use native.Mathlib.Omega.{arith}
use lib.ListN.{length, take, drop, get_or}
use Rattle.json_text.specs.Tight.{value}
use Rattle.json_text.specs.Members.{Json, member_of, object_of, value_of}
use Rattle.json_text.specs.Skips.{Placed}
use Rattle.values.specs.declared.Next.{Next}
use Rattle.values.specs.declared.Next.TheVariants as next
use Rattle.values.specs.declared.Member.{Member}
use Rattle.values.specs.Places.{ClosedAt, FirstAt, Opens, MoreAt, Follows, MemberAt}
use Rattle.values.specs.Reading.{Leads, NoList, MemberRead}
use Rattle.values.proofs.ReadingLaws.{objects}
use Rattle.values.proofs.WalkLaws.{leads_no_item}
use Rattle.values.proofs.ItemLaws.{member_no_item, member_read, walk_none, walk_first, walk_more, walk_last, walk_wrong}
use Rattle.values.proofs.PlaceLaws.{no_value, member_found}
use Rattle.fields.specs.Fields.{name_at}
use Rattle.fields.specs.declared.Name.{Name}
use Rattle.takes.specs.Spots.{ValueAt, Spots, SpotsAre, see_at, no_spots}
use Rattle.takes.specs.Walk.{NameAt, NoMember, Names, Passes}
use Rattle.takes.proofs.SpotLaws.{spots_none, spots_more}

-- the members of done are read, and their spots are p
pub record Walking (d : ℕ) (s : List ℕ) (at i : ℕ) (p : Spots) : Type 0 where
  pub done : List (List ℕ × Json d)
  pub leads : Leads (member_of (value_of d)) 125 (object_of (value_of d)) s at i done
  pub spots : SpotsAre d s done p

module _ {d : ℕ} {s : List ℕ} {at : ℕ} (brace : get_or s at 0 ≡ 123) where
  pub walked_empty : {r : Next} {e : ℕ} {p : Spots} → Opens s at 125 r → r ≡ next.End e → p ≡ no_spots → Passes d s at e p
  walked_empty {r} {e} {p} o f g =
      let c : ClosedAt s (at + 1) 125 e = subst (Opens s at 125) f o in
      record { members = []; is = walk_none (objects d) brace c; spots = rw g (spots_none d s) }

  pub walk_starts : {r : Next} {i : ℕ} {p : Spots} → Opens s at 125 r → r ≡ next.Item i → p ≡ no_spots → Walking d s at i p
  walk_starts {r} {i} {p} o f g =
      let c : FirstAt s at 125 i = subst (Opens s at 125) f o in
      record { done = []; leads = walk_first (objects d) brace c; spots = rw g (spots_none d s) }

pub name_found : {s : List ℕ} {i : ℕ} (r : Option (ℕ × ℕ)) (e v : ℕ) → Names s i r → r ≡ Some (e, v) → NameAt s i e v
name_found {s} {i} r e v h f = subst (Names s i) f h

module _ {d : ℕ} {s : List ℕ} {at i : ℕ} {p : Spots} (w : Walking d s at i p) where
  -- no name, and so no object
  pub no_name_here : (r : Option (ℕ × ℕ)) → Names s i r → r ≡ None → NoList (object_of (value_of d)) s at
  unfolding NoMember
  no_name_here r h f = leads_no_item (objects d) w.leads (member_no_item d s i (subst (Names s i) f h d))

  -- no value, and so no object
  pub no_value_here : {e v : ℕ} → NameAt s i e v → (y : Option ℕ) → Placed (value d) s v y → y ≡ None → NoList (object_of (value_of d)) s at
  no_value_here {e} {v} n y h f =
      leads_no_item (objects d) w.leads (member_no_item d s i (no_value d s i (Some e) n.named e refl n.colon n.white n.is v n.spaces y h f))

-- the member of a name and a value
pub a_member : {d : ℕ} {s : List ℕ} {i e v : ℕ} → NameAt s i e v → (y : Option ℕ) (x : ℕ) → Placed (value d) s v y → y ≡ Some x
    → MemberAt d s i (record { name = i; name_end = e; value = v; value_end = x })
a_member {d} {s} {i} {e} {v} n y x h f = member_found d s i (Some e) n.named e refl n.colon n.white n.is v n.spaces y h x f

-- the places of a member rise
pub record Rises (s : List ℕ) (i : ℕ) (m : Member) : Type 0 where
  pub name : i < m.name_end
  pub name_within : m.name_end ≤ length s
  pub value : m.name_end < m.value
  pub end : m.value ≤ m.value_end
  pub within : m.value_end ≤ length s

pub rises : {d : ℕ} {s : List ℕ} {i : ℕ} {m : Member} → MemberAt d s i m → Rises s i m
rises {d} {s} {i} {m} h =
    let a = h.white.from in
    let b = h.spaces.from in
    record {
      name = h.named.from;
      name_within = h.named.within;
      value = omega arith;
      end = h.holds.text.from;
      within = h.holds.text.within;
    }

pub walk_falls : {d : ℕ} {s : List ℕ} {i j : ℕ} {m : Member} (r : Option Next) → MemberAt d s i m → Follows s m.value_end 125 r → r ≡ Some (next.Item j)
    → length s - j < length s - i
walk_falls {d} {s} {i} {j} {m} r h o f =
    let c : MoreAt s m.value_end j = subst (Follows s m.value_end 125) f o in
    let u = rises h in
    let a = c.white.from in
    let b = c.spaces.from in
    let w = c.spaces.within in
    omega arith

module _ {d : ℕ} {s : List ℕ} {at i : ℕ} {p q : Spots} {m : Member} {k : Option Name}
    (w : Walking d s at i p) (h : MemberAt d s i m) (n : k ≡ name_at (take (m.name_end - i) (drop i s))) (g : q ≡ see_at p k m.value m.value_end) where
  stood : MemberRead d s i m.name_end m.value m.value_end
  stood = member_read d h

  now_done : List (List ℕ × Json d)
  now_done = w.done ++ ((take (m.name_end - i) (drop i s), stood.value) ∷ [])

  one_more_lem : SpotsAre d s now_done q
  unfolding now_done stood
  one_more_lem =
      let v = (member_read d h).holds in
      let a : ValueAt d (member_read d h).value s m.value m.value_end = record { from = v.from; within = v.within; is = v.is } in
      rw g (spots_more _ w.spots a n)

  pub walks_on : {j : ℕ} (r : Option Next) → Follows s m.value_end 125 r → r ≡ Some (next.Item j) → Walking d s at j q
  unfolding now_done stood
  walks_on {j} r o f =
      record { done = now_done; leads = walk_more (objects d) w.leads stood.item (subst (Follows s m.value_end 125) f o); spots = one_more_lem }

  pub walks_last : {e : ℕ} (r : Option Next) → Follows s m.value_end 125 r → r ≡ Some (next.End e) → Passes d s at e q
  unfolding now_done stood
  walks_last {e} r o f =
      record { members = now_done; is = walk_last (objects d) w.leads stood.item (subst (Follows s m.value_end 125) f o); spots = one_more_lem }

  pub walks_wrong : (r : Option Next) → Follows s m.value_end 125 r → r ≡ None → NoList (object_of (value_of d)) s at
  unfolding stood
  walks_wrong r o f = walk_wrong (objects d) w.leads stood.item (subst (Follows s m.value_end 125) f o)
