-- One step of the pass over a path: what a row that is held, or none, does to the plan, and which rows can still matter. Assumes nothing.
use mathlib.Core.Path.{◌≡◌, refl, sym, ap, ap₂, ◌∙◌, subst}
use Rattle.std.specs.declared.cmp.Ordering.TheVariants.{Less, Equal, Greater}
use Rattle.std.specs.declared.cmp.Ordering.{Ordering}
use Rattle.std.specs.Prelude.{Ok, Err}
use mathlib.Core.Bool.{Bool, true, false, not, ◌||◌}
use mathlib.Core.List.{List, [], ◌∷◌, ◌++◌}
use Rattle.std.specs.Prelude.{Option, None, Some, is_some}
use Rattle.std.specs.Int.{from_bool}
use Prim.Native.Nat.{ℕ, suc, pred, ◌+◌, ◌-◌, ◌≤◌, ◌<◌}
use native.Mathlib.Nat.{add-zero}
use native.Mathlib.Numerals.{add-one, sub-one}
use native.Mathlib.Omega.{arith}
use lib.Dec.{ltb}
use lib.ListN.{length, get_or, take, drop, take-append-drop, drop_of_length-le}
use lib.Seq.{drop-cons, drop-append-le, length-take-le}
use borrow.Author.Tests.{lt-ltb, le-ltb}
use Rattle.rules.specs.declared.Content.{Content}
use Rattle.rules.specs.declared.Revision.{Revision}
use Rattle.rules.specs.declared.RevNumber.{RevNumber}
use Rattle.rules.specs.Choice.{pick, maybe}
use Rattle.rules.specs.Map.{by_order, find, Below}
use Rattle.rules.specs.Order.{and_then, is_equal, order_bytes, order_rev, same_rev}
use Rattle.rules.specs.Replica.{Hash, revision, Node, Tree}
use Rattle.rules.specs.Write.{Write, gives, is_none, lacks_parent, is_new, is_addition, differ, other_parent, agree, other_content, parent_in, is_new_parent}
use Rattle.rules.proofs.OrderLaws.{order_n_self, less_order_n, rev_order}
use Rattle.rules.proofs.MapLaws.{find_below}
use Rattle.tree.specs.declared.row.Row.{Row}
use Rattle.tree.specs.Rows.{parent_of, meaning, row_at}
use Rattle.tree.specs.declared.table.Body.{Body}
use Rattle.tree.specs.Table.{body, tree_at, tree_in, row_start, place, place_of}
use Rattle.tree.proofs.RowLaws.{row_at_means}
use Rattle.tree.proofs.TableLaws.{no_row, length-tree, tree_row, tree_take}
use Rattle.tree.proofs.PlaceLaws.{place_at, place_gap}
use Rattle.writes.specs.declared.plan.Pass.{Pass}
use Rattle.writes.specs.declared.plan.Plan.{Plan}
use Rattle.writes.specs.Path.{count_of, hash_at, rev_at, parent_at, content_at, given_at, write_of, gives_of}
use Rattle.writes.specs.Plan.{no_plan, planned, plan_from, plan_of, Stepped}
use Rattle.writes.proofs.PathLaws.{length-gives, gives_next}
use Rattle.writes.proofs.PlanLaws.{or_false}

-- ---- what a path gives, as a row

one_lower : (number k : ℕ) → pred (number - k) ≡ number - (k + 1)
one_lower number k = let s = sub-one (number - k) in omega arith

module _ (number : ℕ) (path : List ℕ) (c : Content) (k : ℕ) (r : Row) (rev : r.rev ≡ rev_at number path k) (content : r.content ≡ content_at c k) where
  means : (o : Option Revision) → parent_of r.rev r.parent ≡ o → parent_at number path k ≡ o → meaning r ≡ given_at number path c k
  unfolding meaning given_at
  means o p q = λ i. (rev i, record { parent = (p ∙ sym q) i; content = content i })

  pub given_with : k + 1 < count_of path → r.parent ≡ Some (hash_at path (k + 1)) → meaning r ≡ given_at number path c k
  unfolding parent_at rev_at
  given_with h p =
      let t : ltb (k + 1) (count_of path) ≡ true = lt-ltb (k + 1) (count_of path) h in
      let q : parent_of r.rev r.parent ≡ Some (revision (pred (number - k)) (hash_at path (k + 1))) =
      ap₂ (λ (v : Revision) (o : Option Hash). parent_of v o) rev p in
      means (Some (rev_at number path (k + 1))) (q ∙ ap (λ (n : ℕ). Some (revision n (hash_at path (k + 1)))) (one_lower number k))
      (ap (λ (b : Bool). pick b (Some (rev_at number path (k + 1))) None) t)

  pub given_last : count_of path ≤ k + 1 → r.parent ≡ None → meaning r ≡ given_at number path c k
  unfolding parent_at
  given_last h e =
      let t : ltb (k + 1) (count_of path) ≡ false = le-ltb (k + 1) (count_of path) h in
      means None (ap (λ (o : Option Hash). parent_of r.rev o) e) (ap (λ (b : Bool). pick b (Some (rev_at number path (k + 1))) None) t)

-- ---- a row's parent

has_parent : (r : Row) → not (is_none (meaning r).1.parent) ≡ is_some r.parent
unfolding meaning
has_parent r = go r.parent
  where
    go : (o : Option Hash) → not (is_none (parent_of r.rev o)) ≡ is_some o
    go None = refl
    go (Some h) = refl

pub lacks_held : (h g : Row) → is_some h.parent ≡ true → lacks_parent (meaning g).1.parent (meaning h).1.parent ≡ false
unfolding meaning
lacks_held h g e = go g.parent h.parent e
  where
    go : (o q : Option Hash) → is_some q ≡ true → lacks_parent (parent_of g.rev o) (parent_of h.rev q) ≡ false
    go None q f = refl
    go (Some a) None f = let z : ◌≡◌ {A = ℕ} 0 1 = cc in absurd (omega arith)
    go (Some a) (Some b) f = refl

lacks_none : (o : Option Revision) → lacks_parent o None ≡ not (is_none o)
lacks_none None = refl
lacks_none (Some p) = refl

pub lacks_unknown : (h g : Row) → is_some h.parent ≡ false → lacks_parent (meaning g).1.parent (meaning h).1.parent ≡ is_some g.parent
unfolding meaning
lacks_unknown h g e = go h.parent e
  where
    go : (q : Option Hash) → is_some q ≡ false → lacks_parent (meaning g).1.parent (parent_of h.rev q) ≡ is_some g.parent
    go None f = lacks_none (meaning g).1.parent ∙ has_parent g
    go (Some b) f = let z : ◌≡◌ {A = ℕ} 0 1 = cc in absurd (omega arith)

-- 4 of two rows of one revision: parents differ exactly if their hashes do
module _ (h g : Row) where
  pub differ_unknown : h.parent ≡ None → differ same_rev (meaning h).1.parent (meaning g).1.parent ≡ false
  unfolding meaning
  differ_unknown e = ap (λ (o : Option Hash). differ same_rev (parent_of h.rev o) (meaning g).1.parent) e

  pub differ_none : {a : Hash} → h.parent ≡ Some a → g.parent ≡ None → differ same_rev (meaning h).1.parent (meaning g).1.parent ≡ false
  unfolding meaning
  differ_none e f = ap₂ (λ (o q : Option Hash). differ same_rev (parent_of h.rev o) (parent_of g.rev q)) e f

  same_number : (n : ℕ) (a b : Hash) → same_rev (revision n a) (revision n b) ≡ is_equal (order_bytes a b)
  unfolding same_rev order_rev
  same_number n a b = ap (λ (o : Ordering). is_equal (and_then o (order_bytes a b))) (order_n_self n)

  pub differ_hashes : {a b : Hash} → h.rev ≡ g.rev → h.parent ≡ Some a → g.parent ≡ Some b
      → differ same_rev (meaning h).1.parent (meaning g).1.parent ≡ not (is_equal (order_bytes a b))
  unfolding meaning
  differ_hashes {a} {b} v e f =
      ap₂ (λ (o q : Option Hash). differ same_rev (parent_of h.rev o) (parent_of g.rev q)) e f
      ∙ (ap (λ (x : Revision). not (same_rev (revision (pred x.number.0) a) (revision (pred g.rev.number.0) b))) v
      ∙ ap not (same_number (pred g.rev.number.0) a b))

-- ---- the plan with one revision more

-- from what the tree knows of it
abbrev over : ℕ → Plan → Revision × Node → Option Node → Plan
over k p g o = record {
  crossed = p.crossed || maybe false (λ n. differ same_rev n.parent g.1.parent) o;
  other = p.other || maybe false (λ n. differ agree n.content g.1.content) o;
  revisions = p.revisions + pick (is_none o) 1 0;
  parents = p.parents + pick (lacks_parent g.1.parent (parent_in o)) 1 0;
  reach = pick (maybe true (λ n. lacks_parent g.1.parent n.parent) o) (k + 2) p.reach;
}

module _ (t : Tree) (k : ℕ) (p : Plan) (g : Revision × Node) where
  planned_over : (o : Option Node) → find order_rev g.0 t ≡ o → planned t k p g ≡ over k p g o
  unfolding planned is_new is_new_parent is_addition other_parent other_content
  planned_over o e = ap (over k p g) e

  new_planned : find order_rev g.0 t ≡ None
      → planned t k p g ≡ record { crossed = p.crossed; other = p.other; revisions = p.revisions + 1; parents = p.parents + pick (not (is_none g.1.parent)) 1 0; reach = k + 2 }
  new_planned e =
      planned_over None e
      ∙ (λ i. record {
        crossed = or_false p.crossed i;
        other = or_false p.other i;
        revisions = p.revisions + 1;
        parents = p.parents + pick (lacks_none g.1.parent i) 1 0;
        reach = k + 2;
      })

  pub held_planned : (n : Node) → find order_rev g.0 t ≡ Some n
      → planned t k p g ≡ record {
        crossed = p.crossed || differ same_rev n.parent g.1.parent;
        other = p.other || differ agree n.content g.1.content;
        revisions = p.revisions;
        parents = p.parents + pick (lacks_parent g.1.parent n.parent) 1 0;
        reach = pick (lacks_parent g.1.parent n.parent) (k + 2) p.reach;
      }
  held_planned n e = planned_over (Some n) e ∙ (λ i. record {
    crossed = (over k p g (Some n)).crossed;
    other = (over k p g (Some n)).other;
    revisions = add-zero p.revisions i;
    parents = (over k p g (Some n)).parents;
    reach = (over k p g (Some n)).reach;
  })

-- ---- which rows can still hold what is left

gap_from : (k i : ℕ) (v : Revision) (t : Tree) → place_of k v t ≡ Err i → (m : ℕ) × (i ≡ k + m) × Below order_rev v (drop m t)
unfolding place
gap_from k i v [] e = let q : k ≡ i = cc in (0, omega arith, tt)
gap_from k i v (x ∷ t) e = go (order_rev v x.0) refl e (λ (p : place_of (suc k) v t ≡ Err i). gap_from (suc k) i v t p)
  where
    go : (o : Ordering) → order_rev v x.0 ≡ o → by_order o (Err k) (Ok k) (place_of (suc k) v t) ≡ Err i
        → (place_of (suc k) v t ≡ Err i → (m : ℕ) × (i ≡ suc k + m) × Below order_rev v (drop m t)) → (m : ℕ) × (i ≡ k + m) × Below order_rev v (drop m (x ∷ t))
    go Less o p ih = let q : k ≡ i = cc in (0, omega arith, o)
    go Equal o p ih = let z : ◌≡◌ {A = ℕ} 0 1 = cc in absurd (omega arith)
    go Greater o p ih = let h = ih p in (suc h.0, (let q = h.1 in omega arith), h.2)

gap_below : (i : ℕ) (v : Revision) (t : Tree) → place_of 0 v t ≡ Err i → Below order_rev v (drop i t)
gap_below i v t e =
    let h = gap_from 0 i v t e in
    let q : h.0 ≡ i = let z = h.1 in omega arith in
    rw q at h.2

below_lower : (u v : Revision) (t : Tree) → order_rev u v ≡ Less → Below order_rev v t → Below order_rev u t
below_lower u v [] e b = tt
below_lower u v (x ∷ t) e b = rev_order.trans u v x.0 e b

-- a lower one is below the row where a revision is, or would go
pub lower_at : (i : ℕ) (v : Revision) (t : Tree) (d : Revision × Node) → i < length t → (get_or t i d).0 ≡ v
    → (u : Revision) → order_rev u v ≡ Less → Below order_rev u (drop i t)
lower_at i v t d h e u l = rw (drop-cons t i d h) (subst (λ (x : Revision). order_rev u x ≡ Less) (sym e) l)

pub lower_gap : (i : ℕ) (v : Revision) (t : Tree) → place_of 0 v t ≡ Err i → (u : Revision) → order_rev u v ≡ Less → Below order_rev u (drop i t)
lower_gap i v t e u l = below_lower u v (drop i t) l (gap_below i v t e)

find_front : (v : Revision) (xs ys : Tree) → Below order_rev v ys → find order_rev v (xs ++ ys) ≡ find order_rev v xs
unfolding find
find_front v [] ys b = find_below rev_order v ys b
find_front v (x ∷ xs) ys b = ap (by_order (order_rev v x.0) None (Some x.1)) (find_front v xs ys b)

-- what lies past the rows that matter changes no plan
planned_front : (t : Tree) (top k : ℕ) (p : Plan) (g : Revision × Node) → Below order_rev g.0 (drop top t) → planned (take top t) k p g ≡ planned t k p g
planned_front t top k p g b =
    planned_over (take top t) k p g (find order_rev g.0 t)
    (sym (find_front g.0 (take top t) (drop top t) b) ∙ ap (find order_rev g.0) (take-append-drop top t))
    ∙ sym (planned_over t k p g (find order_rev g.0 t) refl)

below_append : (v : Revision) (xs ys : Tree) → Below order_rev v xs → Below order_rev v ys → Below order_rev v (xs ++ ys)
below_append v [] ys b c = c
below_append v (x ∷ xs) ys b c = b

below_front : (v : Revision) (t : Tree) (i top : ℕ) → i ≤ top → top ≤ length t → Below order_rev v (drop i (take top t)) → Below order_rev v (drop top t) → Below order_rev v (drop i t)
below_front v t i top h l b c =
    let n : length (take top t) ≡ top = length-take-le top t l in
    let e : drop i t ≡ drop i (take top t) ++ drop top t =
    ap (drop i) (sym (take-append-drop top t)) ∙ drop-append-le i (take top t) (drop top t) (omega arith) in
    rw e (below_append v (drop i (take top t)) (drop top t) b c)

-- ---- the pass

next_lower : (number : ℕ) (path : List ℕ) (k : ℕ) → k + 1 ≤ number → order_rev (rev_at number path (k + 1)) (rev_at number path k) ≡ Less
unfolding order_rev rev_at
next_lower number path k h = ap (λ (o : Ordering). and_then o (order_bytes (hash_at path (k + 1)) (hash_at path k))) (less_order_n (number - (k + 1)) (number - k) (omega arith))

-- the plan after k revisions of the path
pub record Passing (t : Tree) (number : RevNumber) (path : List ℕ) (c : Content) (k top : ℕ) (p : Plan) : Type 0 where
  pub revisions : p.revisions ≤ k
  pub parents : p.parents ≤ k
  pub rows : top ≤ length t
  pub plan : plan_from t k p (drop k (gives_of number path c)) ≡ plan_of t (gives_of number path c)
  pub lower : k < count_of path → Below order_rev (rev_at number.0 path k) (drop top t)

pub passing_start : (t : Tree) (number : RevNumber) (path : List ℕ) (c : Content) (n : ℕ) → length t ≡ n → Passing t number path c 0 n no_plan
unfolding plan_of
passing_start t number path c n e = record {
  revisions = omega arith;
  parents = omega arith;
  rows = omega arith;
  plan = refl;
  lower = λ _. rw (drop_of_length-le t {i = n} (omega arith)) tt;
}

pub one_most : (b : Bool) → pick b 1 0 ≤ 1
one_most true = omega arith
one_most false = omega arith

passing_next : (t : Tree) (number : RevNumber) (path : List ℕ) (c : Content) (k top i : ℕ) (p q : Plan) → k < count_of path → count_of path ≤ number.0
    → Passing t number path c k top p → q ≡ planned (take top t) k p (given_at number.0 path c k) → i ≤ top
    → ((u : Revision) → order_rev u (rev_at number.0 path k) ≡ Less → Below order_rev u (drop i (take top t)))
    → Passing t number path c (k + 1) i q
unfolding planned plan_from gives_of given_at
passing_next t number path c k top i p q h d s e l b =
    let w : Write = write_of [] number path c in
    let g : Revision × Node = given_at number.0 path c k in
    let f : q ≡ planned t k p g = e ∙ planned_front t top k p g (s.lower h) in
    let r = ap (λ (x : Plan). x.revisions) f in
    let m = ap (λ (x : Plan). x.parents) f in
    let r₁ = one_most (is_new t g) in
    let m₁ = one_most (is_new_parent t g) in
    let r₂ = s.revisions in
    let m₂ = s.parents in
    let n : drop k (gives w) ≡ g ∷ drop (k + 1) (gives w) = gives_next w k h ∙ ap (λ (j : ℕ). g ∷ drop j (gives w)) (sym (add-one k)) in
    record {
      revisions = omega arith;
      parents = omega arith;
      rows = (let z = s.rows in omega arith);
      plan = ap (λ (x : Plan). plan_from t (k + 1) x (drop (k + 1) (gives w))) f ∙ (sym (ap (plan_from t k p) n) ∙ s.plan);
      lower = λ z.
          let u : Revision = rev_at number.0 path (k + 1) in
          let v : order_rev u (rev_at number.0 path k) ≡ Less = next_lower number.0 path k (omega arith) in
          below_front u t i top l s.rows (b u v) (below_lower u (rev_at number.0 path k) (drop top t) v (s.lower h));
    }

pub passing_end : (t : Tree) (number : RevNumber) (path : List ℕ) (c : Content) (k top : ℕ) (p : Plan) → count_of path ≤ k
    → Passing t number path c k top p → p ≡ plan_of t (gives_of number path c)
unfolding plan_from gives_of
passing_end t number path c k top p h s =
    let w : Write = write_of [] number path c in
    let l : length (gives w) ≤ k = let z = length-gives w in omega arith in
    sym (ap (plan_from t k p) (drop_of_length-le (gives w) l)) ∙ s.plan

-- ---- the two cases of a step, as the code makes them

pub from_bool_is : (b : Bool) → from_bool b ≡ pick b 1 0
from_bool_is true = refl
from_bool_is false = refl

pub with_new : (t : Tree) (k : ℕ) (p : Plan) (r : Row) (m : ℕ) → find order_rev r.rev t ≡ None → m ≡ pick (is_some r.parent) 1 0
    → ◌≡◌ {A = Plan} (record { crossed = p.crossed; other = p.other; revisions = p.revisions + 1; parents = p.parents + m; reach = k + 2 }) (planned t k p (meaning r))
unfolding meaning
with_new t k p r m e q =
    let x : m ≡ pick (not (is_none (meaning r).1.parent)) 1 0 = q ∙ ap (λ (b : Bool). pick b 1 0) (sym (has_parent r)) in
    ap {B = Plan} (λ (n : ℕ). record { crossed = p.crossed; other = p.other; revisions = p.revisions + 1; parents = p.parents + n; reach = k + 2 }) x
    ∙ sym (new_planned t k p (meaning r) e)

pub with_held : (t : Tree) (k : ℕ) (p : Plan) (h g : Row) (x y l : Bool) (m z : ℕ) → find order_rev g.rev t ≡ Some (meaning h).1
    → l ≡ lacks_parent (meaning g).1.parent (meaning h).1.parent
    → x ≡ (p.crossed || differ same_rev (meaning h).1.parent (meaning g).1.parent)
    → y ≡ (p.other || differ agree h.content g.content)
    → m ≡ pick l 1 0
    → z ≡ pick l (k + 2) p.reach
    → ◌≡◌ {A = Plan} (record { crossed = x; other = y; revisions = p.revisions; parents = p.parents + m; reach = z }) (planned t k p (meaning g))
unfolding meaning
with_held t k p h g x y l m z e a b c d f =
    let d' = d ∙ ap (λ (v : Bool). pick v 1 0) a in
    let f' = f ∙ ap (λ (v : Bool). pick v (k + 2) p.reach) a in
    ◌∙◌ {A = Plan} (λ i. record { crossed = b i; other = c i; revisions = p.revisions; parents = p.parents + d' i; reach = f' i })
    (sym (held_planned t k p (meaning g) (meaning h).1 e))

-- ---- where a row is

module _ (b : Body) (i : ℕ) (s : List ℕ) (v : Revision) where
  -- row i of the rows that were searched is the revision looked for
  pub row_found : (r : Row) → place_of 0 v (tree_in b s) ≡ Ok i → r ≡ row_at (row_start b i) s
      → (r.rev ≡ v) × (find order_rev v (tree_in b s) ≡ Some (meaning r).1) × (i < b.rows) × ((get_or (tree_in b s) i no_row).0 ≡ v)
  unfolding meaning
  row_found r e q =
      let p = place_at i v (tree_in b s) e in
      let h : i < b.rows = subst (λ (x : ℕ). i < x) (length-tree b.base b.rows s) p.within in
      let m : meaning r ≡ get_or (tree_in b s) i no_row = ap meaning q ∙ (row_at_means (row_start b i) s ∙ sym (tree_row b.base b.rows i s h)) in
      (ap (λ (x : Revision × Node). x.0) m ∙ p.is, p.found ∙ ap (λ (x : Revision × Node). Some x.1) (sym m), h, p.is)

  pub row_within : place_of 0 v (tree_in b s) ≡ Ok i → i < b.rows
  row_within e = subst (λ (x : ℕ). i < x) (length-tree b.base b.rows s) (place_at i v (tree_in b s) e).within

  pub gap_within : place_of 0 v (tree_in b s) ≡ Err i → i ≤ b.rows
  gap_within e = subst (λ (x : ℕ). i ≤ x) (length-tree b.base b.rows s) (place_gap i v (tree_in b s) e).within

-- ---- the loop of the pass

pub passing_step : (b : Body) {s : List ℕ} {number : RevNumber} {path : List ℕ} {c : Content} {k top : ℕ} {p : Plan} {g : Revision × Node} {r : Pass}
    → k < count_of path → count_of path ≤ number.0
    → Passing (tree_in b s) number path c k top p → g ≡ given_at number.0 path c k → Stepped s (body b.base top) g p k r
    → Passing (tree_in b s) number path c (k + 1) r.top r.plan
unfolding given_at
passing_step b {s} {number} {path} {c} {k} {top} {p} {g} {r} h d q e z =
    let l : top ≤ b.rows = let x = q.rows in let y = length-tree b.base b.rows s in omega arith in
    let t : take top (tree_in b s) ≡ tree_at b.base top s = tree_take b.base top b.rows s l in
    passing_next (tree_in b s) number path c k top r.top p r.plan h d q
    (z.plan ∙ ap₂ (λ (u : Tree) (x : Revision × Node). planned u k p x) (sym t) e)
    z.within
    (λ u m. subst (λ (x : Tree). Below order_rev u (drop r.top x)) (sym t) (z.lower u (subst (λ (x : Revision × Node). order_rev u x.0 ≡ Less) (sym e) m)))
