-- 25 and 26 over the rows of each document: what is left gives the same answer. Assumes nothing.
use mathlib.Core.Path.{◌≡◌, refl, sym, ap, ap₂, ◌∙◌, subst}
use mathlib.Core.Bool.{Bool, true, false}
use mathlib.Core.List.{List, [], ◌∷◌, ◌++◌, map}
use Rattle.std.specs.Prelude.{Option, None, Some}
use Prim.Native.Nat.{ℕ, zero, suc, ◌+◌, ◌-◌, ◌*◌, ◌≤◌, ◌<◌}
use native.Mathlib.Nat.{add-zero, suc-add, add-suc}
use native.Mathlib.Omega.{arith}
use lib.ListN.{length, take, drop, length-map}
use lib.Seq.{drop-drop}
use Rattle.rules.specs.declared.Revision.{Revision}
use Rattle.rules.specs.Bytes.{pieces}
use Rattle.rules.specs.Choice.{or_else}
use Rattle.rules.specs.Faults.{sum_rows, first_true, bad_rows, bad_link, bad_links, in_each}
use Rattle.rules.specs.Image.{rows_of, deal}
use Rattle.rules.specs.Layout.{Entry, Row, row_of, head_of, row_size}
use Rattle.rules.proofs.ByteLaws.{length-pieces, take-pieces, drop-pieces}
use Rattle.rules.proofs.MapLaws.{none≢some}
use Rattle.layout.specs.Fields.{entry_place}
use Rattle.images.proofs.Rules.{true_none, none_true}
use Rattle.tree.specs.Table.{body}
use Rattle.faults.specs.Each.{Rule}
use Rattle.faults.specs.Each.{Rows, Links}
use Rattle.faults.specs.Places.{row_place, entry_at, rows_at}
use Rattle.faults.specs.Each.{tests, rule_fault, Before, CanTest, CanPass}
use Rattle.faults.proofs.FirstLaws.{items, entries_from, entries_all, entries_next, entries_none}

-- the first true of two runs
first_append : (k : ℕ) (a b : List Bool) → first_true k (a ++ b) ≡ or_else (first_true k a) (first_true (k + length a) b)
unfolding first_true
first_append k [] b = rw (add-zero k)
first_append k (true ∷ a) b = refl
first_append k (false ∷ a) b = rw (add-suc k (length a), sym (suc-add k (length a))) (first_append (suc k) a b)

-- wherever counting begins
first_from : (k m : ℕ) (bs : List Bool) → first_true k bs ≡ None → first_true m bs ≡ None
first_from k m bs e = none_true m bs (true_none k bs e)

take-map : {A B : Type 0} (f : A → B) (n : ℕ) (l : List A) → take n (map f l) ≡ map f (take n l)
take-map f zero l = refl
take-map f (suc n) [] = refl
take-map f (suc n) (x ∷ l) = ap (λ t. f x ∷ t) (take-map f n l)

drop-map : {A B : Type 0} (f : A → B) (n : ℕ) (l : List A) → drop n (map f l) ≡ map f (drop n l)
drop-map f zero l = refl
drop-map f (suc n) [] = refl
drop-map f (suc n) (x ∷ l) = drop-map f n l

module _ {A : Type 0} (f : List ℕ → A) (w at n m : ℕ) (s : List ℕ) where
  items_take : n ≤ m → take n (items f w at m s) ≡ items f w at n s
  unfolding items
  items_take h = take-map f n (pieces m w (drop at s)) ∙ ap (map f) (take-pieces n m w (drop at s) h)

  items_drop : drop n (items f w at (n + m) s) ≡ items f w (at + n * w) m s
  unfolding items
  items_drop =
      drop-map f n (pieces (n + m) w (drop at s))
      ∙ ap (map f) (drop-pieces n m w (drop at s) ∙ ap (pieces m w) (drop-drop (n * w) at s))

-- a rule has as many tests as there are rows
size_rows : (before : Option Revision) (ws : List Row) → length (bad_rows before ws) ≡ length ws
unfolding bad_rows
size_rows before [] = refl
size_rows before (w ∷ ws) = ap suc (size_rows (Some w.rev) ws)

size_tests : (rule : Rule) (ws : List Row) → length (tests rule ws) ≡ length ws
unfolding bad_links
size_tests Rows ws = size_rows None ws
size_tests Links ws = length-map ws (bad_link ws)

-- ---- from one document to the next

-- what a rule still finds from entry i on, of d, where k rows are before its own, of r
unfoldable pub each_from_lem : Rule → List ℕ → ℕ → ℕ → ℕ → ℕ → Option ℕ
each_from_lem rule s d r i k =
    first_true k (in_each (tests rule) (deal (entries_from i d s) (items row_of row_size (row_place d k) (r - k) s)))

module _ (s : List ℕ) (d r i k n : ℕ) (h : i < d) (e : (entry_at i s).rows ≡ n) (q : k + n ≤ r) where
  each_next : (rule : Rule) → each_from_lem rule s d r i k ≡ or_else (first_true k (tests rule (rows_at (row_place d k) n s))) (each_from_lem rule s d r (i + 1) (k + n))
  unfolding each_from_lem in_each deal rows_at items
  each_next rule =
      let base : ℕ = row_place d k in
      let past : ℕ = row_place d (k + n) in
      let rows : List Row = items row_of row_size base (r - k) s in
      let own : List Row = items row_of row_size base n s in
      let left : List Row = items row_of row_size past (r - (k + n)) s in
      let es : List Entry = entries_from (i + 1) d s in
      let m : r - k ≡ n + (r - (k + n)) = omega arith in
      let b : base + n * row_size ≡ past = omega arith in
      let a : take n rows ≡ own = items_take row_of row_size base n (r - k) s (omega arith) in
      let l : drop n rows ≡ left =
      ap (λ (x : ℕ). drop n (items row_of row_size base x s)) m
      ∙ (items_drop row_of row_size base n (r - (k + n)) s ∙ ap (λ (x : ℕ). items row_of row_size x (r - (k + n)) s) b) in
      let z : length (tests rule own) ≡ n = size_tests rule own ∙ (length-map (pieces n row_size (drop base s)) row_of ∙ length-pieces n row_size (drop base s)) in
      ap (λ (x : List Entry). first_true k (in_each (tests rule) (deal x rows))) (entries_next i d s h)
      ∙ (ap (λ (x : ℕ). first_true k (tests rule (take x rows) ++ in_each (tests rule) (deal es (drop x rows)))) e
      ∙ (ap₂ (λ (x y : List Row). first_true k (tests rule x ++ in_each (tests rule) (deal es y))) a l
      ∙ (first_append k (tests rule own) (in_each (tests rule) (deal es left))
      ∙ ap (λ (x : ℕ). or_else (first_true k (tests rule own)) (first_true (k + x) (in_each (tests rule) (deal es left)))) z)))

  -- where 25 finds nothing from here on, it finds nothing in this document and nothing after it
  before_next : (rule : Rule) → Before rule (each_from_lem Rows s d r i k)
      → Before rule (first_true 0 (bad_rows None (rows_at (row_place d k) n s))) × Before rule (each_from_lem Rows s d r (i + 1) (k + n))
  before_next Rows g = (tt, tt)
  before_next Links g =
      let own : List Bool = bad_rows None (rows_at (row_place d k) n s) in
      let b = neither (first_true k own) (each_from_lem Rows s d r (i + 1) (k + n)) (sym (each_next Rows) ∙ g) in
      (first_from k 0 own b.0, b.1)
    where
      neither : (a b : Option ℕ) → or_else a b ≡ None → (a ≡ None) × (b ≡ None)
      neither None b e = (refl, e)
      neither (Some x) b e = absurd (none≢some (sym e))

sum-next : (s : List ℕ) (d r i k n : ℕ) → i < d → (entry_at i s).rows ≡ n → k + sum_rows (entries_from i d s) ≡ r → k + n + sum_rows (entries_from (i + 1) d s) ≡ r
unfolding sum_rows
sum-next s d r i k n h e p =
    let x : sum_rows (entries_from i d s) ≡ (entry_at i s).rows + sum_rows (entries_from (i + 1) d s) = ap sum_rows (entries_next i d s h) in omega arith

each_end : (rule : Rule) (s : List ℕ) (d r i k : ℕ) → d ≤ i → each_from_lem rule s d r i k ≡ None
unfolding each_from_lem in_each deal first_true
each_end rule s d r i k h = rw (entries_none i d s h)

each_all : (rule : Rule) (s : List ℕ) → rule_fault rule s ≡ each_from_lem rule s (head_of s).documents (head_of s).revisions 0 0
unfolding rule_fault each_from_lem rows_of items
each_all rule s =
    let e : (head_of s).revisions ≡ (head_of s).revisions - 0 = omega arith in
    rw (entries_all s, add-zero (entry_place (head_of s).documents), sym e)

-- ---- the documents before entry i were passed

pub record Passed (rule : Rule) (s : List ℕ) (d i k : ℕ) : Type 0 where
  pub most : i ≤ d
  pub sum : k + sum_rows (entries_from i d s) ≡ (head_of s).revisions
  pub before : Before rule (each_from_lem Rows s d (head_of s).revisions i k)
  pub left : rule_fault rule s ≡ each_from_lem rule s d (head_of s).revisions i k

pub passed_none : (rule : Rule) (s : List ℕ) (d : ℕ) → CanPass rule s → d ≡ (head_of s).documents → Passed rule s d 0 0
passed_none rule s d p e =
    rw e
    (record {
      most = omega arith;
      sum = (let z = ap sum_rows (entries_all s) in let y = p.listed.sum in omega arith);
      before = subst (Before rule) (each_all Rows s) p.before;
      left = each_all rule s;
    })

pub passed_all : (rule : Rule) (s : List ℕ) (d i k : ℕ) → d ≤ i → Passed rule s d i k → rule_fault rule s ≡ None
passed_all rule s d i k h p = p.left ∙ each_end rule s d (head_of s).revisions i k h

-- how document i's n rows can be asked, behind k others, and what each answer leaves
pub record Steps (rule : Rule) (s : List ℕ) (d i k n : ℕ) : Type 0 where
  pub room : k + n ≤ (head_of s).revisions
  pub can : CanTest rule (body (row_place d k) n) k s
  pub bad : (b : ℕ) → first_true k (tests rule (rows_at (row_place d k) n s)) ≡ Some b → rule_fault rule s ≡ Some b
  pub next : first_true k (tests rule (rows_at (row_place d k) n s)) ≡ None → Passed rule s d (i + 1) (k + n)

pub steps : (rule : Rule) (s : List ℕ) (d i k n : ℕ) → CanPass rule s → d ≡ (head_of s).documents → i < d → n ≡ (entry_at i s).rows → Passed rule s d i k
    → Steps rule s d i k n
steps rule s d i k n pre e h c p =
    let r : ℕ = (head_of s).revisions in
    let sum = sum-next s d r i k n h (sym c) p.sum in
    let room : k + n ≤ r = omega arith in
    let before = before_next s d r i k n h (sym c) room rule p.before in
    let step : rule_fault rule s ≡ or_else (first_true k (tests rule (rows_at (row_place d k) n s))) (each_from_lem rule s d r (i + 1) (k + n)) =
    p.left ∙ each_next s d r i k n h (sym c) room rule in
    let else-next : (o : Option ℕ) → first_true k (tests rule (rows_at (row_place d k) n s)) ≡ o → rule_fault rule s ≡ or_else o (each_from_lem rule s d r (i + 1) (k + n)) =
    λ o q. step ∙ ap (λ (x : Option ℕ). or_else x (each_from_lem rule s d r (i + 1) (k + n))) q in
    let z = pre.listed.headed in
    record {
      room = room;
      can = record { within = omega arith; most = omega arith; before = before.0 };
      bad = λ b q. else-next (Some b) q;
      next = λ q. record { most = omega arith; sum = sum; before = before.1; left = else-next None q };
    }
