-- Past the oldest addition and its parent, a path alters nothing. Assumes nothing.
use mathlib.Core.Path.{◌≡◌, refl, sym, ap, ap₂, ◌∙◌, subst}
use Rattle.std.specs.declared.cmp.Ordering.TheVariants.{Less, Equal, Greater}
use Rattle.std.specs.declared.cmp.Ordering.{Ordering}
use mathlib.Core.Bool.{Bool, true, false, not}
use mathlib.Core.List.{List, [], ◌∷◌}
use Rattle.std.specs.Prelude.{Option, None, Some}
use Prim.Native.Nat.{ℕ, zero, suc, pred, ◌-◌, ◌≤◌}
use native.Mathlib.Omega.{arith}
use lib.ListN.{take, drop, take-append-drop}
use Rattle.rules.specs.declared.Content.{Content}
use Rattle.rules.specs.declared.Revision.{Revision}
use Rattle.rules.specs.Choice.{any, maybe, or_else}
use Rattle.rules.specs.Map.{Map, find, alter}
use Rattle.rules.specs.Order.{order_rev, is_equal, same_rev}
use Rattle.rules.specs.Replica.{Hash, revision, Node, Tree, HasParent, HasContent, IsTree}
use Rattle.rules.specs.Write.{Write, hashes, along, gives, newest_of, is_none, lacks_parent, is_addition, differ, other_parent, keeps, learn}
use Rattle.rules.proofs.ChoiceLaws.{or_left, or_right}
use Rattle.rules.proofs.OrderLaws.{TotalOrder, rev_order}
use Rattle.rules.proofs.MapLaws.{find_lt, find_eq, find_gt, none≢some, some_inj}
use Rattle.writes.specs.Path.{add_last}
use Rattle.writes.proofs.PathLaws.{later, drop-along}
use Rattle.writes.proofs.AddLaws.{add_last_append}

-- ---- altering to what is there

module _ {K A : Type 0} (O : TotalOrder K) where
  alter_still : (k : K) (f : Option A → A) (xs : Map K A) (n : A) → find O.cmp k xs ≡ Some n → f (Some n) ≡ n → alter O.cmp k f xs ≡ xs
  unfolding alter find
  alter_still k f [] n e h = absurd (none≢some e)
  alter_still k f (x ∷ xs) n e h = go (O.cmp k x.0) refl (λ (d : find O.cmp k xs ≡ Some n). alter_still k f xs n d h)
    where
      go : (o : Ordering) → O.cmp k x.0 ≡ o → (find O.cmp k xs ≡ Some n → alter O.cmp k f xs ≡ xs) → alter O.cmp k f (x ∷ xs) ≡ x ∷ xs
      go Less p ih = absurd (none≢some (sym (find_lt O k x xs p) ∙ e))
      go Equal p ih =
          let v : x.1 ≡ n = some_inj (sym (find_eq O k x xs p) ∙ e) in
          let u : f (Some x.1) ≡ x.1 = ap (λ (a : A). f (Some a)) v ∙ (h ∙ sym v) in
          let q : k ≡ x.0 = O.same k x.0 p in
          rw p (λ i. (q i, u i) ∷ xs)
      go Greater p ih = rw p (ap (λ (l : Map K A). x ∷ l) (ih (sym (find_gt O k x xs p) ∙ e)))

-- ---- tests that fail

any_drop : {A : Type 0} (p : A → Bool) (xs : List A) (k : ℕ) → any p xs ≡ false → any p (drop k xs) ≡ false
unfolding any
any_drop p xs zero e = e
any_drop p [] (suc k) e = e
any_drop p (x ∷ xs) (suc k) e = any_drop p xs k (or_right (p x) (any p xs) e)

-- ---- a revision that is known with its parent

not_none : {A : Type 0} (o : Option A) → is_none o ≡ false → (a : A) × (o ≡ Some a)
not_none None e = let z : ◌≡◌ {A = ℕ} 0 1 = cc in absurd (omega arith)
not_none (Some a) e = (a, refl)

known : (t : Tree) (g : Revision × Node) → is_addition t g ≡ false → (n : Node) × (find order_rev g.0 t ≡ Some n) × (lacks_parent g.1.parent n.parent ≡ false)
unfolding is_addition
known t g e = go (find order_rev g.0 t) refl
  where
    go : (o : Option Node) → find order_rev g.0 t ≡ o → (n : Node) × (find order_rev g.0 t ≡ Some n) × (lacks_parent g.1.parent n.parent ≡ false)
    go None p =
        let q : ◌≡◌ {A = Bool} true false = sym (ap (maybe true (λ (n : Node). lacks_parent g.1.parent n.parent)) p) ∙ e in
        let z : ◌≡◌ {A = ℕ} 0 1 = cc in absurd (omega arith)
    go (Some n) p = (n, p, sym (ap (maybe true (λ (m : Node). lacks_parent g.1.parent m.parent)) p) ∙ e)

-- a parent that it is given is the one that it has
same_parent : (t : Tree) (g : Revision × Node) (v : Revision) → is_addition t g ≡ false → other_parent t g ≡ false → g.1.parent ≡ Some v → HasParent t g.0 v
unfolding other_parent same_rev
same_parent t g v a o e =
    let k = known t g a in
    let n = k.0 in
    let l : lacks_parent (Some v) n.parent ≡ false = subst (λ (p : Option Revision). lacks_parent p n.parent ≡ false) e k.2 in
    let q = not_none n.parent l in
    let d : differ same_rev n.parent g.1.parent ≡ false = sym (ap (maybe false (λ (m : Node). differ same_rev m.parent g.1.parent)) k.1) ∙ o in
    let d' : not (same_rev q.0 v) ≡ false = sym (ap₂ (λ (a b : Option Revision). differ same_rev a b) q.1 e) ∙ d in
    (n, k.1, q.1 ∙ ap {B = Option Revision} Some (same q.0 v d'))
  where
    equal : (o : Ordering) → not (is_equal o) ≡ false → o ≡ Equal
    equal Less e = let z : ◌≡◌ {A = ℕ} 0 1 = cc in absurd (omega arith)
    equal Equal e = refl
    equal Greater e = let z : ◌≡◌ {A = ℕ} 0 1 = cc in absurd (omega arith)

    same : (a b : Revision) → not (same_rev a b) ≡ false → a ≡ b
    same a b e = rev_order.same a b (equal (order_rev a b) e)

-- ---- what a path alters

-- a revision that has a child has no content
abbrev pub Parted : Tree → Type 0
Parted t = (v p : Revision) (c : Content) → HasParent t v p → HasContent t p c → ⊥

keeps_parent : (h g : Option Revision) → lacks_parent g h ≡ false → or_else h g ≡ h
keeps_parent None None e = refl
keeps_parent None (Some p) e = let z : ◌≡◌ {A = ℕ} 0 1 = cc in absurd (omega arith)
keeps_parent (Some q) g e = refl

no_content_lem : (t : Tree) (v u : Revision) (n : Node) → Parted t → HasParent t u v → find order_rev v t ≡ Some n → n.content ≡ None
no_content_lem t v u n d h e = go n.content refl
  where
    go : (o : Option Content) → n.content ≡ o → o ≡ None
    go None p = refl
    go (Some c) p = absurd (d u v c h (n, e, p))

-- a known revision of the path under another known one stays
stays : (t : Tree) (u : Revision) (g : Revision × Node) → Parted t → HasParent t u g.0 → g.1.content ≡ None → is_addition t g ≡ false → alter order_rev g.0 (learn g.1) t ≡ t
stays t u g d h c a =
    let k = known t g a in
    let n = k.0 in
    let p : or_else n.parent g.1.parent ≡ n.parent = keeps_parent n.parent g.1.parent k.2 in
    let q : keeps g.1.content n.content ≡ n.content =
    ap (λ (o : Option Content). keeps o n.content) c ∙ sym (no_content_lem t g.0 u n d h k.1) in
    alter_still rev_order g.0 (learn g.1) t n k.1 (λ i. record { parent = p i; content = q i })

stays_along : (t : Tree) (n : ℕ) (h : Hash) (hs : List Hash) (c : Option Content) → Parted t
    → any (is_addition t) (along n (h ∷ hs) c) ≡ false
    → any (other_parent t) (along n (h ∷ hs) c) ≡ false
    → add_last (along (pred n) hs None) t ≡ t
unfolding along add_last any
stays_along t n h [] c d a o = refl
stays_along t n h (x ∷ hs) c d a o =
    let g : Revision × Node = (revision n h, record { parent = newest_of (pred n) (x ∷ hs); content = c }) in
    let g' : Revision × Node = (revision (pred n) x, record { parent = newest_of (pred (pred n)) hs; content = None }) in
    let rest = along (pred (pred n)) hs None in
    let a' : any (is_addition t) (g' ∷ rest) ≡ false = or_right (is_addition t g) (any (is_addition t) (g' ∷ rest)) a in
    let o' : any (other_parent t) (g' ∷ rest) ≡ false = or_right (other_parent t g) (any (other_parent t) (g' ∷ rest)) o in
    let p : HasParent t (revision n h) (revision (pred n) x) =
    same_parent t g (revision (pred n) x) (or_left (is_addition t g) (any (is_addition t) (g' ∷ rest)) a) (or_left (other_parent t g) (any (other_parent t) (g' ∷ rest)) o) refl in
    ap (alter order_rev (revision (pred n) x) (learn g'.1)) (stays_along t (pred n) x hs None d a' o')
    ∙ stays t (revision n h) g' d p refl (or_left (is_addition t g') (any (is_addition t) rest) a')

past_reach : (t : Tree) (n : ℕ) (hs : List Hash) (c : Option Content) → Parted t → any (is_addition t) (along n hs c) ≡ false → any (other_parent t) (along n hs c) ≡ false
    → add_last (drop 1 (along n hs c)) t ≡ t
unfolding along add_last
past_reach t n [] c d a o = refl
past_reach t n (h ∷ hs) c d a o = stays_along t n h hs c d a o

drop_one : {A : Type 0} (k : ℕ) (xs : List A) → drop 1 (drop k xs) ≡ drop (suc k) xs
drop_one zero xs = refl
drop_one (suc k) [] = refl
drop_one (suc k) (x ∷ xs) = drop_one k xs

-- the m newest are enough where from the last of them on nothing is added
pub add_within : (t : Tree) (w : Write) (m : ℕ) → Parted t → any (other_parent t) (gives w) ≡ false → 1 ≤ m → any (is_addition t) (drop (m - 1) (gives w)) ≡ false
    → add_last (take m (gives w)) t ≡ add_last (gives w) t
unfolding gives
add_within t w zero d o h a = absurd (omega arith)
add_within t w (suc k) d o h a =
    let n : ℕ = w.number.0 in
    let c : Option Content = Some w.content in
    let s : suc k - 1 ≡ k = omega arith in
    let e : drop k (gives w) ≡ along (n - k) (drop k (hashes w)) (later k c) = drop-along k n (hashes w) c in
    let a' : any (is_addition t) (drop k (gives w)) ≡ false = sym (ap (λ (j : ℕ). any (is_addition t) (drop j (gives w))) s) ∙ a in
    let o' = any_drop (other_parent t) (gives w) k o in
    let r : add_last (drop (suc k) (gives w)) t ≡ t =
    ap (λ (l : List (Revision × Node)). add_last l t) (sym (drop_one k (gives w)) ∙ ap (drop 1) e)
    ∙ past_reach t (n - k) (drop k (hashes w)) (later k c) d (sym (ap (any (is_addition t)) e) ∙ a') (sym (ap (any (other_parent t)) e) ∙ o') in
    sym
    (ap (λ (l : List (Revision × Node)). add_last l t) (sym (take-append-drop (suc k) (gives w)))
    ∙ (add_last_append (take (suc k) (gives w)) (drop (suc k) (gives w)) t ∙ ap (add_last (take (suc k) (gives w))) r))

-- a tree is parted, and so is none
pub tree_parted : (t : Tree) → IsTree t → Parted t
tree_parted t i v p c h k = ((i.leaves p).0 (c, k)).1 (v, h)

pub none_parted : Parted []
unfolding find
none_parted v p c h k = none≢some h.1
