-- What stands at the places of a value and of a member, as items of a walk. Assumes nothing.
use mathlib.Core.Path.{◌≡◌, sym, ap, ◌∙◌}
use mathlib.Core.List.{List, [], ◌∷◌, ◌++◌, append_cancel_right}
use Prim.Native.Nat.{ℕ, ◌+◌, ◌-◌, ◌≤◌}
use native.Mathlib.Omega.{arith}
use lib.ListN.{get_or, take, drop, take-append-drop}
use lib.Seq.{drop-drop}
use Rattle.json_text.specs.Grammar.{Rule, byte, ◌then◌, ws, string}
use Rattle.json_text.specs.Tight.{name_separator, member, object, array, value}
use Rattle.json_text.specs.Members.{Json, spelt, member_of, object_of, array_of, value_of}
use Rattle.json_text.specs.Skips.{WsTo, Ends, EndsAt, OnlyAt, NoText, WholeAt}
use Rattle.values.specs.declared.Member.{Member}
use Rattle.values.specs.Places.{ClosedAt, FirstAt, MoreAt, NeitherAt, MemberAt}
use Rattle.values.specs.Reading.{ItemAt, NoItem, Leads, ListAt, NoList, MemberRead}
use Rattle.json_text.proofs.WsLaws.{at_byte}
use Rattle.values.proofs.ReadingLaws.{Listing, value_reads, reads_value, reads_member, value_one, member_one, object_reads, reads_object, array_reads, reads_array}
use Rattle.values.proofs.WalkLaws.{list_none, leads_first, leads_more, leads_last, leads_wrong}

-- ---- the text between two places

pub cut : (s : List ℕ) (i e : ℕ) → i ≤ e → drop i s ≡ take (e - i) (drop i s) ++ drop e s
cut s i e h =
    let k : i + (e - i) ≡ e = omega arith in
    let f : drop (e - i) (drop i s) ≡ drop e s = drop-drop (e - i) i s ∙ ap (λ (n : ℕ). drop n s) k in
    sym (take-append-drop (e - i) (drop i s)) ∙ ap (λ (l : List ℕ). take (e - i) (drop i s) ++ l) f

pub cut_is : (s t : List ℕ) (i e : ℕ) → i ≤ e → drop i s ≡ t ++ drop e s → t ≡ take (e - i) (drop i s)
cut_is s t i e h q = append_cancel_right t (take (e - i) (drop i s)) (drop e s) (sym q ∙ cut s i e h)

-- ---- a value

pub value_item : (d : ℕ) {s : List ℕ} {at e : ℕ} → EndsAt (value d) s at e → Ends (drop e s) → (j : Json d) × ItemAt (value_of d) j s at e
value_item d {s} {at} {e} h z =
    let t = value_reads d (drop at s) (drop e s) h.is in (
      t.0,
      record {
        from = h.from;
        within = h.within;
        is = t.1;
        only = λ y r p k. value_one d y t.0 (drop at s) r (drop e s) p k t.1 z;
      },
    )

pub value_no_item : (d : ℕ) (s : List ℕ) (at : ℕ) → NoText (value d) s at → NoItem (value_of d) s at
unfolding NoText NoItem
value_no_item d s at f y r p k = f r (reads_value d y (drop at s) r p) k

-- ---- a member

pub member_item : (d : ℕ) {s : List ℕ} {at ne n v e : ℕ} → OnlyAt string s at ne → WsTo s ne n → get_or s n 0 ≡ 58 → WsTo s (n + 1) v
    → EndsAt (value d) s v e → Ends (drop e s) → MemberRead d s at ne v e
unfolding member_of ◌then◌ name_separator byte ws spelt
member_item d {s} {at} {ne} {n} {v} {e} name w c u h z =
    let x = value_item d h z in
    let f : drop n s ≡ 58 ∷ drop (n + 1) s = at_byte s n 58 c (omega arith) in
    let q : drop at s ≡ take (ne - at) (drop at s) ++ drop ne s = cut s at ne (omega (arith, name.from)) in
    let is : member_of (value_of d) (take (ne - at) (drop at s), x.0) (drop at s) (drop e s) =
    (drop ne s, ((name.is, q), (drop v s, ((drop n s, (w.is, (drop (n + 1) s, (f, u.is)))), x.1.is)))) in
    record {
      value = x.0;
      holds = x.1;
      item = record {
        from = omega (arith, name.from, w.from, u.from, h.from);
        within = h.within;
        is = is;
        only = λ y r p k. member_one d y (take (ne - at) (drop at s), x.0) (drop at s) r (drop e s) p k is z;
      };
    }

pub member_no_item : (d : ℕ) (s : List ℕ) (at : ℕ) → NoText (member (value d)) s at → NoItem (member_of (value_of d)) s at
unfolding NoText NoItem
member_no_item d s at f y r p k = f r (reads_member d y (drop at s) r p) k

-- ---- the same from what the functions of this crate answer

pub value_read : (d : ℕ) {s : List ℕ} {at e : ℕ} → WholeAt (value d) s at e → (j : Json d) × ItemAt (value_of d) j s at e
value_read d h = value_item d h.text h.ends

pub member_read : (d : ℕ) {s : List ℕ} {at : ℕ} {m : Member} → MemberAt d s at m → MemberRead d s at m.name_end m.value m.value_end
member_read d h = member_item d h.named h.white h.is h.spaces h.holds.text h.holds.ends

module _ {A : Type 0} {left close : ℕ} {item : A → Rule} {P : List A → Rule} (L : Listing left close item P) where
  pub walk_none : {s : List ℕ} {at e : ℕ} → get_or s at 0 ≡ left → ClosedAt s (at + 1) close e → ListAt P [] s at e
  walk_none opens c = rw c.next (list_none L opens c.white c.is)

  pub walk_first : {s : List ℕ} {at i : ℕ} → get_or s at 0 ≡ left → FirstAt s at close i → Leads item close P s at i []
  walk_first opens c = leads_first L opens c.white c.other

  module _ {s : List ℕ} {at i e : ℕ} {done : List A} {x : A} (leads : Leads item close P s at i done) (it : ItemAt item x s i e) where
    pub walk_more : {j : ℕ} → MoreAt s e j → Leads item close P s at j (done ++ (x ∷ []))
    walk_more c = leads_more L leads it c.white c.is c.spaces

    pub walk_last : {n : ℕ} → ClosedAt s e close n → ListAt P (done ++ (x ∷ [])) s at n
    walk_last c = rw c.next (leads_last L leads it c.white c.is)

    pub walk_wrong : NeitherAt s e close → NoList P s at
    walk_wrong c = leads_wrong L leads it c.white c.no_close c.no_comma

-- ---- a list and its text

pub object_text : (d : ℕ) {ms : List (List ℕ × Json d)} {s : List ℕ} {at e : ℕ} → ListAt (object_of (value_of d)) ms s at e → OnlyAt (object (value d)) s at e
object_text d {ms} {s} {at} {e} h = record {
  from = h.from;
  within = h.within;
  is = reads_object d ms (drop at s) (drop e s) h.is;
  only = λ r p. let t = object_reads d (drop at s) r p in (h.only t.0 r t.1).1;
}

pub array_text : (d : ℕ) {vs : List (Json d)} {s : List ℕ} {at e : ℕ} → ListAt (array_of (value_of d)) vs s at e → OnlyAt (array (value d)) s at e
array_text d {vs} {s} {at} {e} h = record {
  from = h.from;
  within = h.within;
  is = reads_array d vs (drop at s) (drop e s) h.is;
  only = λ r p. let t = array_reads d (drop at s) r p in (h.only t.0 r t.1).1;
}

-- no list, and so no text
pub no_object_text : (d : ℕ) (s : List ℕ) (at : ℕ) → NoList (object_of (value_of d)) s at → (r : List ℕ) → object (value d) (drop at s) r → ⊥
unfolding NoList
no_object_text d s at f r p = let t = object_reads d (drop at s) r p in f t.0 r t.1

pub no_array_text : (d : ℕ) (s : List ℕ) (at : ℕ) → NoList (array_of (value_of d)) s at → (r : List ℕ) → array (value d) (drop at s) r → ⊥
unfolding NoList
no_array_text d s at f r p = let t = array_reads d (drop at s) r p in f t.0 r t.1
