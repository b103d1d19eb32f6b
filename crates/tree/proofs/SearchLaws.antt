-- Searching an ascending tree by halves and from its end. Assumes nothing.
use mathlib.Core.Path.{◌≡◌, refl, sym, ap, ◌∙◌}
use Rattle.std.specs.declared.cmp.Ordering.TheVariants.{Less, Equal, Greater}
use Rattle.std.specs.Prelude.{Ok, Err}
use mathlib.Core.List.{List, [], ◌∷◌, ◌++◌}
use mathlib.Core.Logic.{⊎_elim}
use Prim.Native.Nat.{ℕ, zero, suc, ◌+◌, ◌-◌, ◌*◌, ◌≤◌, ◌<◌, suc-le-suc}
use native.Mathlib.Nat.{not-suc-le-zero, le_of_suc-le-suc, zero-add, suc-add, add-suc, add-zero, eq-or-lt_of_le}
use native.Mathlib.Omega.{arith}
use lib.ListN.{length, get_or, take}
use Rattle.rules.specs.declared.Revision.{Revision}
use Rattle.rules.specs.Bytes.{pieces}
use Rattle.rules.specs.Layout.{row_size}
use Rattle.rules.specs.Map.{Below, Ascending}
use Rattle.rules.specs.Order.{order_rev}
use Rattle.rules.specs.Replica.{Node, Tree}
use Rattle.rules.proofs.OrderLaws.{rev_order, order_rev_same, turn_less}
use Rattle.tree.specs.declared.table.Body.{Body}
use Rattle.tree.specs.Rows.{node_at, rev_at}
use Rattle.tree.specs.Table.{tree_at, body, tree_in, row_start, place, place_of, Searchable}
use Rattle.tree.proofs.TableLaws.{no_row, length-tree, tree_row, tree_take, tree_last}

-- ---- ascending rows, by index

abbrev pub rev_in : Tree → ℕ → Revision
rev_in t i = (get_or t i no_row).0

pub rev_in_lem : (base n i : ℕ) (s : List ℕ) → i < n → rev_in (tree_at base n s) i ≡ rev_at (base + i * row_size) s
unfolding rev_at
rev_in_lem base n i s h = ap (λ (x : Revision × Node). x.0) (tree_row base n i s h)

above_first : (v : Revision) (t : Tree) → Below order_rev v t → Ascending order_rev t → (k : ℕ) → k < length t → order_rev v (rev_in t k) ≡ Less
above_first v [] b a k h = absurd (not-suc-le-zero h)
above_first v (x ∷ t) b a zero h = b
above_first v (x ∷ t) b a (suc k) h = rev_order.trans v x.0 (rev_in t k) b (above_first x.0 t a.0 a.1 k (le_of_suc-le-suc h))

pub ascends : (t : Tree) → Ascending order_rev t → (j k : ℕ) → j < k → k < length t → order_rev (rev_in t j) (rev_in t k) ≡ Less
ascends [] a j k h l = absurd (not-suc-le-zero l)
ascends (x ∷ t) a j zero h l = absurd (not-suc-le-zero h)
ascends (x ∷ t) a zero (suc k) h l = above_first x.0 t a.0 a.1 k (le_of_suc-le-suc l)
ascends (x ∷ t) a (suc j) (suc k) h l = ascends t a.1 j k (le_of_suc-le-suc h) (le_of_suc-le-suc l)

pub ascending_take : (k : ℕ) (t : Tree) → Ascending order_rev t → Ascending order_rev (take k t)
ascending_take zero t a = tt
ascending_take (suc k) [] a = tt
ascending_take (suc k) (x ∷ t) a = (below k t a.0, ascending_take k t a.1)
  where
    below : (j : ℕ) (u : Tree) → Below order_rev x.0 u → Below order_rev x.0 (take j u)
    below zero u b = tt
    below (suc j) [] b = tt
    below (suc j) (y ∷ u) b = b

-- ---- by halves

-- every row before j is below v
pub Under : Tree → Revision → ℕ → Type 0
Under t v j = (k : ℕ) → k < j → order_rev v (rev_in t k) ≡ Greater

-- every row from j on is above v
pub Over : Tree → Revision → ℕ → Type 0
Over t v j = (k : ℕ) → j ≤ k → k < length t → order_rev v (rev_in t k) ≡ Less

found_at : (m : ℕ) (v : Revision) (t : Tree) (j : ℕ) → Under t v j → j < length t → order_rev v (rev_in t j) ≡ Equal → place_of m v t ≡ Ok (m + j)
unfolding place Under
found_at m v [] j b l e = absurd (not-suc-le-zero l)
found_at m v (x ∷ t) zero b l e = rw (e, add-zero m)
found_at m v (x ∷ t) (suc j) b l e =
    rw (b 0 (omega arith)) (found_at (suc m) v t j (λ k h. b (suc k) (suc-le-suc h)) (le_of_suc-le-suc l) e ∙ rw (suc-add m j, add-suc m j))

found_gap : (m : ℕ) (v : Revision) (t : Tree) (j : ℕ) → j ≤ length t → Under t v j → Over t v j → place_of m v t ≡ Err (m + j)
unfolding place Under Over
found_gap m v [] zero l b a = rw (add-zero m)
found_gap m v [] (suc j) l b a = absurd (not-suc-le-zero l)
found_gap m v (x ∷ t) zero l b a = rw (a 0 (omega arith) (omega arith), add-zero m)
found_gap m v (x ∷ t) (suc j) l b a =
    rw (b 0 (omega arith)) (found_gap (suc m) v t j (le_of_suc-le-suc l) (λ k h. b (suc k) (suc-le-suc h)) (λ k h r. a (suc k) (suc-le-suc h) (suc-le-suc r)) ∙ rw (suc-add m j, add-suc m j))

pub gap_between : (v : Revision) (t : Tree) (j : ℕ) → j ≤ length t → Under t v j → Over t v j → place_of 0 v t ≡ Err j
gap_between v t j l b a = found_gap 0 v t j l b a ∙ rw (zero-add j)

pub under_none : (t : Tree) (v : Revision) → Under t v 0
unfolding Under
under_none t v k h = absurd (not-suc-le-zero h)

pub over_none : (t : Tree) (v : Revision) (n : ℕ) → length t ≡ n → Over t v n
unfolding Over
over_none t v n e k h l = absurd (omega arith)

module _ (t : Tree) (v : Revision) (j : ℕ) (a : Ascending order_rev t) (l : j < length t) where
  pub found_here : order_rev v (rev_in t j) ≡ Equal → place_of 0 v t ≡ Ok j
  unfolding Under
  found_here e =
      let q : v ≡ rev_in t j = order_rev_same v (rev_in t j) e in
      found_at 0 v t j (λ k h. rw q (turn_less rev_order (rev_in t k) (rev_in t j) (ascends t a k j h l))) l e ∙ rw (zero-add j)

  under_next : order_rev v (rev_in t j) ≡ Greater → Under t v (j + 1)
  unfolding Under
  under_next e k h =
      let w : order_rev (rev_in t j) v ≡ Less = rev_order.turn v (rev_in t j) e in
      ⊎_elim (λ (p : k ≡ j). rw p e)
      (λ (p : k < j). turn_less rev_order (rev_in t k) v (rev_order.trans (rev_in t k) (rev_in t j) v (ascends t a k j p l) w))
      (eq-or-lt_of_le (omega arith))

  over_from : order_rev v (rev_in t j) ≡ Less → Over t v j
  unfolding Over
  over_from e k h r =
      ⊎_elim (λ (p : j ≡ k). rw p at e) (λ (p : j < k). rev_order.trans v (rev_in t j) (rev_in t k) e (ascends t a j k p r)) (eq-or-lt_of_le h)

-- row j of a body beside v
module _ (b : Body) (v : Revision) (s : List ℕ) (able : Searchable b s) (j : ℕ) (l : j < b.rows) where
  abbrev beside : Revision
  beside = rev_at (row_start b j) s

  in_tree : j < length (tree_in b s)
  in_tree = rw (length-tree b.base b.rows s) l

  row_is : rev_in (tree_in b s) j ≡ beside
  row_is = rev_in_lem b.base b.rows j s l

  pub found_row : order_rev v beside ≡ Equal → place_of 0 v (tree_in b s) ≡ Ok j
  found_row o = found_here (tree_in b s) v j able.ascending in_tree (rw row_is o)

  pub under_row : order_rev v beside ≡ Greater → Under (tree_in b s) v (j + 1)
  under_row o = under_next (tree_in b s) v j able.ascending in_tree (rw row_is o)

  pub over_row : order_rev v beside ≡ Less → Over (tree_in b s) v j
  over_row o = over_from (tree_in b s) v j able.ascending in_tree (rw row_is o)

-- ---- from the end

-- a row above v at the end changes nothing
place_last : (k : ℕ) (v : Revision) (t : Tree) (x : Revision × Node) → order_rev v x.0 ≡ Less → place_of k v (t ++ (x ∷ [])) ≡ place_of k v t
unfolding place
place_last k v [] x e = rw e refl
place_last k v (y ∷ t) x e = rw (place_last (suc k) v t x e)

-- the first rows of a body can be searched as well
pub search_part : (b : Body) (i : ℕ) (s : List ℕ) → Searchable b s → i ≤ b.rows → Searchable (body b.base i) s
search_part b i s able h = record {
  within = let w = able.within in omega arith;
  ascending = rw (tree_take b.base i b.rows s h) at (ascending_take i (tree_in b s) able.ascending);
}

pub place_none : (base n : ℕ) (v : Revision) (s : List ℕ) → n ≡ 0 → place_of 0 v (tree_at base n s) ≡ Err 0
unfolding place tree_at pieces
place_none base n v s e = rw e

module _ (b : Body) (v : Revision) (s : List ℕ) (able : Searchable b s) (some_row : 0 < b.rows) where
  abbrev t : Tree
  t = tree_in b s

  abbrev end : ℕ
  end = b.rows - 1

  abbrev beyond : Revision
  beyond = rev_at (row_start b end) s

  pub search_front : Searchable (body b.base end) s
  search_front = search_part b end s able (omega arith)

  pub before_last : order_rev v beyond ≡ Less → place_of 0 v (tree_at b.base end s) ≡ place_of 0 v t
  unfolding rev_at
  before_last o =
      let e : end + 1 ≡ b.rows = omega arith in
      let c : t ≡ tree_at b.base end s ++ (node_at (row_start b end) s ∷ []) = rw e at (tree_last b.base end s) in
      rw c (sym (place_last 0 v (tree_at b.base end s) (node_at (row_start b end) s) o))

  pub at_last : order_rev v beyond ≡ Equal → place_of 0 v t ≡ Ok end
  at_last o = found_row b v s able end (omega arith) o

  pub past_last : order_rev v beyond ≡ Greater → place_of 0 v t ≡ Err b.rows
  past_last o =
      let e : end + 1 ≡ b.rows = omega arith in
      let l = length-tree b.base b.rows s in
      gap_between v t b.rows (omega arith) (rw e at (under_row b v s able end (omega arith) o)) (over_none t v b.rows l)
