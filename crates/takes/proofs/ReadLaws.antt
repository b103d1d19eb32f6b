-- Laws of `_revisions` read while it is passed over. Assumes nothing.
use mathlib.Core.Bool.{Bool, true, false}
use mathlib.Core.List.{List}
use mathlib.Core.Logic.{◌⊎◌, inl, inr}
use Rattle.std.specs.Prelude.{Option, None, Some}
use mathlib.Core.Path.{◌≡◌, refl, sym, ap, ◌∙◌, subst}
use Prim.Native.Nat.{ℕ, suc, ◌+◌, ◌-◌, ◌≤◌, ◌<◌}
use native.Mathlib.Omega.{arith}
use borrow.Author.Tests.{eq-eqb, ne_eqb, eqb-true, eqb-false}
use lib.Dec.{eqb}
use lib.ListN.{length, take, drop, get_or}
use Rattle.rules.specs.Choice.{pick, maybe}
use Rattle.rules.specs.Replica.{Hash}
use Rattle.rules.specs.Room.{number_most}
use Rattle.json_text.specs.Tight.{value, array, object}
use Rattle.json_text.specs.Members.{Form, plain, Json, object_of, array_of, value_of}
use Rattle.json_text.specs.Skips.{Ends, EndsAt, NoText, Placed, Whether}
use Rattle.json_text.proofs.WsLaws.{at_byte, byte_at}
use Rattle.json_text.proofs.CharLaws.{exact_skips}
use Rattle.values.specs.Reading.{ListAt, NoList}
use Rattle.values.proofs.ValueLaws.{skips_array, skips_object, value_object}
use Rattle.values.proofs.ItemLaws.{object_text, array_text, no_object_text}
use Rattle.values.proofs.FirstLaws.{object_at, array_at}
use Rattle.lines.specs.Said.{both, once, of_plain, named, read_number}
use Rattle.lines.specs.Take.{Revisions, read_ids, read_revisions}
use Rattle.takes.specs.declared.Spot.{Spot}
use Rattle.takes.specs.declared.Spot.TheVariants.{Absent, Once, Repeated}
use Rattle.fields.specs.declared.Name.{Name}
use Rattle.fields.specs.declared.Name.TheVariants as name
use Rattle.fields.specs.Fields.{place, is_place}
use Rattle.takes.specs.declared.Value.{Value}
use Rattle.takes.specs.declared.Walk.{Walk}
use Rattle.takes.specs.Spots.{ValueAt, SpotIs, Fits, plain_in, part_text, Spots, spot, see_at, no_spots}
use Rattle.takes.proofs.SpotLaws.{seen_at, spot_none, spot_seen, at_place, not_at_place}
use Rattle.values.specs.declared.Next.{Next}
use Rattle.values.specs.declared.Next.TheVariants as next
use Rattle.values.specs.Places.{Opens, Follows, MemberAt}
use Rattle.fields.specs.Fields.{name_at}
use Rattle.takes.specs.Walk.{NameAt, Names}
use Rattle.takes.proofs.WalkLaws.{Walking, walked_empty, walk_starts, no_name_here, no_value_here, a_member, rises, walk_falls, walks_on, walks_last, walks_wrong}
use Rattle.takes.specs.Path.{laid_room, IdsSay, IdsAt, IdsRead}
use Rattle.takes.specs.Read.{Kept, Passed, Valued, WalkIs, WalkCase, Walks, IdsKept, IdsPassed, InnerWalks, RevsPassed, ids_in, revs_in, RevsSay, RevsAt}
use Rattle.takes.proofs.ValueLaws.{array_bracket}
use Rattle.takes.proofs.SayLaws.{said_plain, spot_fits, number_none, number_brace, number_bracket}

-- ---- a list that is read ends where the value does

pub array_ends : (d : ℕ) {us : List (Json d)} {s : List ℕ} {v e : ℕ} → ListAt (array_of (value_of d)) us s v e → get_or s v 0 ≡ 91 → EndsAt (value (suc d)) s v e
array_ends d {us} {s} {v} {e} l b =
    let q : suc d - 1 ≡ d = omega arith in
    skips_array s v (suc d) b (λ z. omega arith) (Some e) (rw q (exact_skips (array (value d)) s v (Some e) (array_text d l)))

pub object_ends : (d : ℕ) {ms : List (List ℕ × Json d)} {s : List ℕ} {v e : ℕ} → ListAt (object_of (value_of d)) ms s v e → get_or s v 0 ≡ 123 → EndsAt (value (suc d)) s v e
object_ends d {ms} {s} {v} {e} l b =
    let q : suc d - 1 ≡ d = omega arith in
    skips_object s v (suc d) b (λ z. omega arith) (Some e) (rw q (exact_skips (object (value d)) s v (Some e) (object_text d l)))

-- where no value can end there, none stands
pub no_whole : (d : ℕ) (s : List ℕ) (v e : ℕ) → EndsAt (value d) s v e → (Ends (drop e s) → ⊥) → NoText (value d) s v
unfolding NoText
no_whole d s v e h f r p z = f (subst Ends (h.only r p z) z)

pub no_object_value : (d : ℕ) (s : List ℕ) (v : ℕ) → get_or s v 0 ≡ 123 → NoList (object_of (value_of d)) s v → NoText (value (suc d)) s v
unfolding NoText
no_object_value d s v b l r p z =
    no_object_text d s v l r (value_object d (drop v s) (drop (v + 1) s) r (at_byte s v 123 b (omega arith)) p)

-- ---- what was read stays with its spot

once_place : {a b v e : ℕ} → Once a b ≡ Once v e → a ≡ v
once_place q = cc

no_once : {A : Type 0} {v e : ℕ} (p : Spot) → (p ≡ Absent) ⊎ (p ≡ Repeated) → p ≡ Once v e → A
no_once p (inl h) q = let z : ◌≡◌ {A = ℕ} 0 1 = cc in absurd (omega arith)
no_once p (inr h) q = let z : ◌≡◌ {A = ℕ} 0 1 = cc in absurd (omega arith)

module _ {T : Type 0} {R : ℕ → List ℕ → Option T → Type 0} {b : ℕ} {s : List ℕ} where
  pub kept_none : (path : List ℕ) (got : Option T) → Kept R b s Absent path got
  kept_none path got = record { at = λ v e q c. no_once Absent (inl refl) q }

  pub kept_more : {n : Name} {d : ℕ} {k : Option Name} {v : ℕ} {before after : List ℕ} {got : Option T} {r : Value T} (p : Spots) (e : ℕ) → length p ≡ 7
      → Kept R b s (spot p n) before got → Valued R n b d s k v before got r after → Kept R b s (spot (see_at p k v e) n) after r.got
  kept_more {n} {d} {k} {v} {before} {after} {got} {r} p e l h x =
      subst (λ (q : Spot). Kept R b s q after r.got) (sym (spot_seen p n k v e l)) (go (spot p n) (is_place (place n) k) refl h)
    where
      go : (q : Spot) (hit : Bool) → is_place (place n) k ≡ hit → Kept R b s q before got → Kept R b s (seen_at q hit v e) after r.got
      go q false f h =
          let t = x.kept (not_at_place n k f) in
          record { at = λ a c u w. subst (λ (l : List ℕ). R a l r.got) (sym t.1) (subst (R a before) (sym t.0) (h.at a c u w)) }
      go Absent true f h = record { at = λ a c u w. subst (λ (y : ℕ). R y after r.got) (once_place u) (x.read (at_place n k f) (ap (λ (y : ℕ). get_or s y 0) (once_place u) ∙ w)) }
      go (Once y z) true f h = record { at = λ a c u w. no_once Repeated (inr refl) u }
      go Repeated true f h = record { at = λ a c u w. no_once Repeated (inr refl) u }

-- ---- what start and ids say together

abbrev together : Option ℕ → Option (List Hash) → Option Revisions
together a b = both (λ n hs. record { start = n; ids = hs }) a b

no_array : {d : ℕ} {s : List ℕ} {v e : ℕ} (j : Json (suc (suc d))) → ValueAt (suc (suc d)) j s v e → (get_or s v 0 ≡ 91 → ⊥) → read_ids j ≡ None
unfolding read_ids
no_array (plain t) a f = refl
no_array (Form.object ms) a f = refl
no_array {d} {s} {v} (Form.array vs) a f = let z = array_bracket vs a in absurd (f (byte_at s v 91 z.0 z.1))

module _ (d : ℕ) (s : List ℕ) (vs : List (Json (suc (suc d)))) (path : List ℕ) (first : ℕ) where
  array_say : (v e : ℕ) (j : Json (suc (suc d))) (got : Option (ℕ × ℕ)) → ValueAt (suc (suc d)) j s v e → get_or s v 0 ≡ 91 → IdsAt d s v path got → IdsSay (read_ids j) path got
  unfolding read_ids IdsAt
  array_say v e j got a b h =
      let t = array_at (suc d) j s v e b a.is in
      subst (λ (x : Json (suc (suc d))). IdsSay (read_ids x) path got) (sym t.1) (h t.0 (drop e s) t.2)

  pub ids_say : (p : Spot) (got : Option (ℕ × ℕ)) → SpotIs (suc (suc d)) s vs p → IdsKept d s p path got
      → RevsSay (together (Some first) (maybe None read_ids (once vs))) path (ids_in s p got first)
  ids_say Absent got h k = rw h
  ids_say Repeated got h k = rw h.3
  ids_say (Once v e) None h k = rw (h.1, go (eqb (get_or s v 0) 91) refl)
    where
      go : (b : Bool) → eqb (get_or s v 0) 91 ≡ b → read_ids h.0 ≡ None
      go true q = array_say v e h.0 None h.2 (eqb-true (get_or s v 0) 91 q) (k.at v e refl (eqb-true (get_or s v 0) 91 q))
      go false q = no_array h.0 h.2 (eqb-false (get_or s v 0) 91 q)
  ids_say (Once v e) (Some (n, x)) h k = rw h.1 (go (eqb (get_or s v 0) 91) refl)
    where
      go : (b : Bool) → eqb (get_or s v 0) 91 ≡ b → RevsSay (together (Some first) (read_ids h.0)) path (pick b (Some (first, n)) None)
      go true q =
          let t = array_say v e h.0 (Some (n, x)) h.2 (eqb-true (get_or s v 0) 91 q) (k.at v e refl (eqb-true (get_or s v 0) 91 q)) in
          (t.0, rw t.1, t.2)
      go false q = rw (no_array h.0 h.2 (eqb-false (get_or s v 0) 91 q))

module _ (d : ℕ) (s : List ℕ) (at : ℕ) (brace : get_or s at 0 ≡ 123) (x : Walk (ℕ × ℕ)) (after : List ℕ) (h : WalkIs (IdsAt d s) name.Ids 91 (suc (suc d)) s at x after) where
  pub start_fits : Fits s (spot x.spots name.Start)
  start_fits = spot_fits (suc d) s _ (spot x.spots name.Start) (h.passes.spots.are name.Start)

  pub revs_read : (got : Option (ℕ × ℕ)) → got ≡ revs_in s (spot x.spots name.Start) (spot x.spots name.Ids) x.got → RevsAt d s at after got
  unfolding RevsAt revs_in read_revisions
  revs_read got f j e p =
      let t = object_at (suc (suc d)) j s at e brace p in
      let q : t.0 ≡ h.passes.members = (h.passes.is.only t.0 (drop e s) t.2).0 in
      let ms = h.passes.members in
      let a : maybe None (of_plain (read_number number_most)) (once (named "start" ms)) ≡ maybe None (read_number number_most) (part_text s (plain_in (spot x.spots name.Start)))
      = said_plain (suc d) s (named "start" ms) (read_number number_most) (number_none number_most) (number_brace number_most) (number_bracket number_most) (spot x.spots name.Start) (h.passes.spots.are name.Start) in
      let r : read_revisions j ≡ together (maybe None (read_number number_most) (part_text s (plain_in (spot x.spots name.Start)))) (maybe None read_ids (once (named "ids" ms)))
      = ap read_revisions (t.1 ∙ ap (λ (l : List (List ℕ × Json (suc (suc d)))). Form.object l) q) ∙ ap (λ (o : Option ℕ). together o (maybe None read_ids (once (named "ids" ms)))) a in
      subst (λ (o : Option Revisions). RevsSay o after got) (sym r)
      (subst (RevsSay (together (maybe None (read_number number_most) (part_text s (plain_in (spot x.spots name.Start)))) (maybe None read_ids (once (named "ids" ms)))) after) (sym f)
      (go (maybe None (read_number number_most) (part_text s (plain_in (spot x.spots name.Start))))))
    where
      go : (o : Option ℕ) → RevsSay (together o (maybe None read_ids (once (named "ids" h.passes.members)))) after (maybe None (ids_in s (spot x.spots name.Ids) x.got) o)
      go None = refl
      go (Some n) = ids_say d s (named "ids" h.passes.members) after n (spot x.spots name.Ids) x.got (h.passes.spots.are name.Ids) h.kept

-- ---- the needs of `ids_array` and of a value of either kind

pub ends_yes : (s : List ℕ) (e : ℕ) (b : Bool) → Whether (Ends (drop e s)) b → b ≡ true → Ends (drop e s)
ends_yes s e b h f = subst (Whether (Ends (drop e s))) f h

pub ends_no : (s : List ℕ) (e : ℕ) (b : Bool) → Whether (Ends (drop e s)) b → b ≡ false → Ends (drop e s) → ⊥
ends_no s e b h f = subst (Whether (Ends (drop e s))) f h

module _ {d : ℕ} {s : List ℕ} {v : ℕ} {before after : List ℕ} {r : Option (ℕ × ℕ)} (i : IdsRead d s v before r after) where
  pub array_passed : (n e : ℕ) → r ≡ Some (n, e) → get_or s v 0 ≡ 91 → Ends (drop e s) → IdsPassed d s v before (record { end = Some e; got = Some (n, e) }) after
  array_passed n e q b z = record {
    end = record { text = array_ends (suc d) (i.ends n e q).1 b; ends = z };
    room = i.room;
    read = subst (IdsAt d s v after) q i.say;
  }

  pub array_skipped : (y : Option ℕ) (x : Option (ℕ × ℕ)) → r ≡ x → Placed (value (suc (suc d))) s v y → IdsPassed d s v before (record { end = y; got = x }) after
  array_skipped y x q h = record { end = h; room = i.room; read = subst (IdsAt d s v after) q i.say }

module _ {T : Type 0} {R : ℕ → List ℕ → Option T → Type 0} {n : Name} {b d : ℕ} {s : List ℕ} {k : Option Name} {v : ℕ} {path : List ℕ} {got : Option T} where
  -- another name, or a value that is not to be read
  pub value_other : (y : Option ℕ) → Placed (value d) s v y → (k ≡ Some n → get_or s v 0 ≡ b → ⊥) → Valued R n b d s k v path got (record { end = y; got = got }) path
  value_other y h f = record { end = h; room = refl; read = λ e c. absurd (f e c); kept = λ e. (refl, refl) }

  pub value_read : {r : Value T} {after : List ℕ} → k ≡ Some n → Passed R d s v path r after → Valued R n b d s k v path got r after
  value_read e h = record { end = h.end; room = h.room; read = λ q c. h.read; kept = λ q. absurd (q e) }

-- ---- the needs of `revs_object`

module _ (d : ℕ) (s : List ℕ) (v : ℕ) (brace : get_or s v 0 ≡ 123) (before after : List ℕ) (r : Option (Walk (ℕ × ℕ))) (h : InnerWalks d s v before r after) where
  pub object_wrong : r ≡ None → RevsPassed d s v before (record { end = None; got = None }) after
  unfolding RevsAt NoList
  object_wrong f =
      let l = subst (WalkCase (IdsAt d s) name.Ids 91 (suc (suc d)) s v after) f h.is in
      record {
        end = no_object_value (suc (suc d)) s v brace l;
        room = h.room;
        read = λ j e p. (let t = object_at (suc (suc d)) j s v e brace p in absurd (l t.0 (drop e s) t.2));
      }

  module _ (x : Walk (ℕ × ℕ)) (f : r ≡ Some x) where
    pub inner_is : WalkIs (IdsAt d s) name.Ids 91 (suc (suc d)) s v x after
    inner_is = subst (WalkCase (IdsAt d s) name.Ids 91 (suc (suc d)) s v after) f h.is

    pub object_passed : (got : Option (ℕ × ℕ)) → got ≡ revs_in s (spot x.spots name.Start) (spot x.spots name.Ids) x.got → Ends (drop x.end s)
        → RevsPassed d s v before (record { end = Some x.end; got = got }) after
    object_passed got g z = record {
      end = record { text = object_ends (suc (suc d)) inner_is.passes.is brace; ends = z };
      room = h.room;
      read = revs_read d s v brace x after inner_is got g;
    }

    pub object_cut : (got : Option (ℕ × ℕ)) → got ≡ revs_in s (spot x.spots name.Start) (spot x.spots name.Ids) x.got → (Ends (drop x.end s) → ⊥)
        → RevsPassed d s v before (record { end = None; got = got }) after
    object_cut got g z = record {
      end = no_whole (suc (suc (suc d))) s v x.end (object_ends (suc (suc d)) inner_is.passes.is brace) z;
      room = h.room;
      read = revs_read d s v brace x after inner_is got g;
    }

-- ---- the walks

-- the members before i are read, and what was read of them is kept
pub record Reading {T : Type 0} (R : ℕ → List ℕ → Option T → Type 0) (n : Name) (b d : ℕ) (s : List ℕ) (at i : ℕ) (path : List ℕ) (p : Spots) (got : Option T) : Type 0 where
  pub walking : Walking d s at i p
  pub kept : Kept R b s (spot p n) path got
  pub room : length path ≡ laid_room

none_kept : {T : Type 0} (R : ℕ → List ℕ → Option T → Type 0) (n : Name) (b : ℕ) (s path : List ℕ) (got : Option T) → Kept R b s (spot no_spots n) path got
none_kept R n b s path got = rw (spot_none n) (kept_none path got)

module _ {T : Type 0} {R : ℕ → List ℕ → Option T → Type 0} {n : Name} {b d : ℕ} {s : List ℕ} {at : ℕ} where
  module _ {path : List ℕ} (brace : get_or s at 0 ≡ 123) (room : length path ≡ laid_room) where
    pub reads_empty : {r : Next} {e : ℕ} {got : Option T} → Opens s at 125 r → r ≡ next.End e
        → Walks R n b d s at path (Some (record { end = e; spots = no_spots; got = got })) path
    reads_empty {r} {e} {got} o f = record { room = refl; is = record { passes = walked_empty brace o f refl; kept = none_kept R n b s path got } }

    pub reads_start : {r : Next} {i : ℕ} {got : Option T} → Opens s at 125 r → r ≡ next.Item i → Reading R n b d s at i path no_spots got
    reads_start {r} {i} {got} o f = record { walking = walk_starts brace o f refl; kept = none_kept R n b s path got; room = room }

  module _ {i : ℕ} {path : List ℕ} {p : Spots} {got : Option T} (w : Reading R n b d s at i path p got) (path₀ : List ℕ) (room₀ : length path₀ ≡ laid_room) where
    pub reads_no_name : (r : Option (ℕ × ℕ)) → Names s i r → r ≡ None → Walks R n b d s at path₀ None path
    reads_no_name r h f = record { room = w.room ∙ sym room₀; is = no_name_here w.walking r h f }

    module _ {k : Option Name} {to v : ℕ} {x : Value T} {after : List ℕ} (name : NameAt s i to v) (y : Valued R n b d s k v path got x after) where
      pub reads_no_value : x.end ≡ None → Walks R n b d s at path₀ None after
      reads_no_value f = record { room = y.room ∙ (w.room ∙ sym room₀); is = no_value_here w.walking name x.end y.end f }

      module _ (e : ℕ) (f : x.end ≡ Some e) (named : k ≡ name_at (take (to - i) (drop i s))) {q : Spots} (g : q ≡ see_at p k v e) where
        here : MemberAt d s i (record { name = i; name_end = to; value = v; value_end = e })
        here = a_member name x.end e y.end f

        now_kept : Kept R b s (spot q n) after x.got
        now_kept = subst (λ (z : Spots). Kept R b s (spot z n) after x.got) (sym g) (kept_more p e w.walking.spots.size w.kept y)

        pub reads_on : (r : Option Next) (j : ℕ) → Follows s e 125 r → r ≡ Some (next.Item j) → Reading R n b d s at j after q x.got
        reads_on r j o z = record { walking = walks_on w.walking here named g r o z; kept = now_kept; room = y.room ∙ w.room }

        pub reads_last : (r : Option Next) (z : ℕ) → Follows s e 125 r → r ≡ Some (next.End z) → Walks R n b d s at path₀ (Some (record { end = z; spots = q; got = x.got })) after
        reads_last r z o u = record { room = y.room ∙ (w.room ∙ sym room₀); is = record { passes = walks_last w.walking here named g r o u; kept = now_kept } }

        pub reads_wrong : (r : Option Next) → Follows s e 125 r → r ≡ None → Walks R n b d s at path₀ None after
        reads_wrong r o u = record { room = y.room ∙ (w.room ∙ sym room₀); is = walks_wrong w.walking here named g r o u }

-- the places of a member rise, whatever its value
pub name_rises : {s : List ℕ} {i e v : ℕ} → NameAt s i e v → (i < e) × (e ≤ length s) × (v ≤ length s)
name_rises h = (h.named.from, h.named.within, h.spaces.within)

pub member_falls : (d : ℕ) {s : List ℕ} {i to v : ℕ} (e j : ℕ) → NameAt s i to v → (y : Option ℕ) → Placed (value d) s v y → y ≡ Some e → (r : Option Next) → Follows s e 125 r → r ≡ Some (next.Item j)
    → length s - j < length s - i
member_falls d e j n y h f r o z = walk_falls r (a_member {d = d} n y e h f) o z

pub member_within : (d : ℕ) {s : List ℕ} {i to v : ℕ} (e : ℕ) → NameAt s i to v → (y : Option ℕ) → Placed (value d) s v y → y ≡ Some e → e ≤ length s
member_within d e n y h f = (rises (a_member {d = d} n y e h f)).within

-- ---- the needs of `revs_in`

module _ (s : List ℕ) (start p : Spot) (got : Option (ℕ × ℕ)) (q : Option ℕ) (h : q ≡ maybe None (read_number number_most) (part_text s (plain_in start))) where
  pub revs_no_start : q ≡ None → None ≡ revs_in s start p got
  unfolding revs_in
  revs_no_start f = rw (sym h ∙ f)

  module _ (first : ℕ) (f : q ≡ Some first) where
    started : revs_in s start p got ≡ ids_in s p got first
    unfolding revs_in
    started = ap (maybe None (ids_in s p got)) (sym h ∙ f)

    pub revs_no_ids : (p ≡ Absent) ⊎ (p ≡ Repeated) → None ≡ revs_in s start p got
    revs_no_ids (inl e) = sym (started ∙ ap (λ (x : Spot). ids_in s x got first) e)
    revs_no_ids (inr e) = sym (started ∙ ap (λ (x : Spot). ids_in s x got first) e)

    module _ (v e b : ℕ) (g : p ≡ Once v e) (k : b ≡ get_or s v 0) where
      pub revs_no_array : (b ≡ 91 → ⊥) → None ≡ revs_in s start p got
      revs_no_array z = sym (started ∙ (ap (λ (x : Spot). ids_in s x got first) g ∙ go got))
        where
          go : (y : Option (ℕ × ℕ)) → ids_in s (Once v e) y first ≡ None
          go None = refl
          go (Some (n, x)) = rw (ne_eqb (get_or s v 0) 91 (λ u. z (k ∙ u)))

      pub revs_bad_ids : got ≡ None → None ≡ revs_in s start p got
      revs_bad_ids z = sym (started ∙ (ap (λ (x : Spot). ids_in s x got first) g ∙ ap (λ (y : Option (ℕ × ℕ)). ids_in s (Once v e) y first) z))

      pub revs_said : (n x : ℕ) → b ≡ 91 → got ≡ Some (n, x) → Some (first, n) ≡ revs_in s start p got
      revs_said n x z u =
          sym (started ∙ (ap (λ (y : Spot). ids_in s y got first) g ∙ (ap (λ (y : Option (ℕ × ℕ)). ids_in s (Once v e) y first) u
          ∙ ap (λ (c : Bool). pick c (Some (first, n)) None) (eq-eqb (get_or s v 0) 91 (sym k ∙ z)))))
