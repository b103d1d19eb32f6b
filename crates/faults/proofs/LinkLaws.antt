-- A document's ordered rows by their places: their order, the run in which a parent lies, and the marks. Assumes nothing.
use mathlib.Core.Path.{◌≡◌, refl, sym, ap, ap₂, ◌∙◌, subst}
use Rattle.std.specs.declared.cmp.Ordering.TheVariants.{Less, Equal, Greater}
use Rattle.std.specs.declared.cmp.Ordering.{Ordering}
use Rattle.std.specs.Prelude.{Result, Ok, Err}
use mathlib.Core.Bool.{Bool, true, false, not, ◌||◌}
use mathlib.Core.List.{List, [], ◌∷◌, ◌++◌, map}
use mathlib.Core.Logic.{⊎_elim}
use Rattle.std.specs.Prelude.{Option, None, Some, MatchOption}
use Rattle.std.specs.Option.{option_map, option_or}
use Rattle.std.specs.Bool.{then_some}
use Prim.Native.Nat.{ℕ, zero, suc, pred, ◌+◌, ◌-◌, ◌*◌, ◌≤◌, ◌<◌, min}
use native.Mathlib.Nat.{add-zero, add-suc, eq-or-lt_of_le, le_refl}
use native.Mathlib.Numerals.{add-one}
use native.Mathlib.Omega.{arith}
use lib.Dec.{eqb, leb, ltb}
use lib.ListN.{length, get_or, set, take, drop, length-set, replicate, length-replicate, get_or-replicate, replicate-append-replicate}
use lib.Seq.{take_at, get_or-set_same, get_or-set_other, drop-drop}
use borrow.Author.Tests.{eq-eqb, ne_eqb, eqb-true, eqb-false, leb-true, leb-false, ltb-true, ltb-false}
use Rattle.rules.specs.declared.Revision.{Revision}
use Rattle.rules.specs.Bytes.{part, pieces}
use Rattle.rules.specs.Choice.{pick, any}
use Rattle.rules.specs.Faults.{bad_row, bad_rows, first_true, is_parent_of, bad_link, bad_links}
use Rattle.rules.specs.Image.{parent_of_row}
use Rattle.rules.specs.Layout.{Row, row_of, row_size}
use Rattle.rules.specs.Map.{Ascending}
use Rattle.rules.specs.Order.{order_rev, is_equal, same_rev}
use Rattle.rules.specs.Replica.{Tree, revision}
use Rattle.rules.proofs.ByteLaws.{pieces_add}
use Rattle.rules.proofs.MapLaws.{none≢some, some_inj}
use Rattle.rules.proofs.OrderLaws.{rev_order, turn_less, less≢greater}
use Rattle.images.proofs.Lists.{Each, map-append}
use Rattle.images.proofs.Tests.{true≢false}
use Rattle.images.proofs.Rows.{RowRules, row_rules}
use Rattle.images.proofs.Rules.{true_none}
use Rattle.images.proofs.Trees.{RowsHold, rows_back}
use Rattle.tree.specs.declared.table.Body.{Body}
use Rattle.tree.specs.Rows.{meaning, row_from, node_held, node_at, rev_at}
use Rattle.tree.specs.Table.{body, tree_at, place_of, Searchable}
use Rattle.tree.proofs.EditionLaws.{tree_held}
use Rattle.tree.proofs.TableLaws.{length-tree, tree_take, tree_cut}
use Rattle.tree.proofs.RowLaws.{rev_greater}
use Rattle.tree.proofs.PlaceLaws.{place_at}
use Rattle.tree.proofs.SearchLaws.{rev_in, rev_in_lem, ascends, ascending_take, found_here}
use Rattle.faults.specs.Each.{Links}
use Rattle.faults.specs.declared.links.Run.{Run}
use Rattle.faults.specs.declared.links.Parent.{Parent}
use Rattle.faults.specs.declared.links.Parent.TheVariants.{Unknown, Missing, Among}
use Rattle.faults.specs.Each.{CanTest}
use Rattle.faults.specs.Places.{row_at, rows_at}
use Rattle.faults.proofs.FirstLaws.{found}
use Rattle.faults.proofs.RowLaws.{rows_from, rows_all, rows_next, rows_none}
use Rattle.faults.specs.Links.{row_on, number_on, Ordered, run_on, Serves, among, parent_among, parent_on, CanLink, missing, misfit, bit, Marks, FirstMissing, Marked}

-- ---- rows one after the other

rows_snoc : (base n : ℕ) (s : List ℕ) → rows_at base (n + 1) s ≡ rows_at base n s ++ (row_on base n s ∷ [])
unfolding rows_at pieces part
rows_snoc base n s =
    ap (map row_of) (pieces_add n 1 row_size (drop base s))
    ∙ (map-append row_of (pieces n row_size (drop base s)) (pieces 1 row_size (drop (n * row_size) (drop base s)))
    ∙ ap (λ (l : List ℕ). map row_of (pieces n row_size (drop base s)) ++ (row_of (take row_size l) ∷ [])) (drop-drop (n * row_size) base s))

any_snoc : {A : Type 0} (f : A → Bool) (xs : List A) (x : A) → any f (xs ++ (x ∷ [])) ≡ (any f xs || f x)
unfolding any
any_snoc f [] x = go (f x)
  where
    go : (b : Bool) → (b || false) ≡ b
    go true = refl
    go false = refl
any_snoc f (y ∷ xs) x = rw (any_snoc f xs x) (go (f y) (any f xs) (f x))
  where
    go : (a b c : Bool) → (a || (b || c)) ≡ ((a || b) || c)
    go true b c = refl
    go false b c = refl

module _ (base : ℕ) (s : List ℕ) (f : Row → Bool) where
  -- one row more
  any_next : (n : ℕ) → any f (rows_at base (n + 1) s) ≡ (any f (rows_at base n s) || f (row_on base n s))
  any_next n = ap (any f) (rows_snoc base n s) ∙ any_snoc f (rows_at base n s) (row_on base n s)

  any_empty : any f (rows_at base 0 s) ≡ false
  unfolding any rows_at pieces
  any_empty = refl

  any_none : (n : ℕ) → ((m : ℕ) → m < n → f (row_on base m s) ≡ false) → any f (rows_at base n s) ≡ false
  any_none zero h = any_empty
  any_none (suc n) h =
      ap (λ (k : ℕ). any f (rows_at base k s)) (sym (add-one n))
      ∙ (any_next n ∙ ap₂ (λ (a b : Bool). a || b) (any_none n (λ m l. h m (omega arith))) (h n (omega arith)))

  any_some : (n m : ℕ) → m < n → f (row_on base m s) ≡ true → any f (rows_at base n s) ≡ true
  any_some zero m l e = absurd (omega arith)
  any_some (suc n) m l e =
      ap (λ (k : ℕ). any f (rows_at base k s)) (sym (add-one n))
      ∙ (any_next n ∙ ⊎_elim (λ (q : m ≡ n). later (any f (rows_at base n s)) (ap (λ (k : ℕ). f (row_on base k s)) (sym q) ∙ e))
      (λ (q : m < n). ap (λ (b : Bool). b || f (row_on base n s)) (any_some n m q e)) (eq-or-lt_of_le (omega arith)))
    where
      later : (a : Bool) → f (row_on base n s) ≡ true → (a || f (row_on base n s)) ≡ true
      later true q = refl
      later false q = q

-- ---- ordered rows

each_none : (f : Row → Bool) (ws : List Row) → Each (λ w. f w ≡ false) ws → any f ws ≡ false
unfolding any
each_none f [] h = refl
each_none f (w ∷ ws) h = ap₂ (λ (a b : Bool). a || b) h.0 (each_none f ws h.1)

number_le : (a b : Revision) → order_rev a b ≡ Less → a.number.0 ≤ b.number.0
number_le a b e = go (leb a.number.0 b.number.0) refl
  where
    go : (t : Bool) → leb a.number.0 b.number.0 ≡ t → a.number.0 ≤ b.number.0
    go true q = leb-true a.number.0 b.number.0 q
    go false q = absurd (less≢greater (sym e ∙ rev_greater a b (leb-false a.number.0 b.number.0 q)))

same_self : (v : Revision) → same_rev v v ≡ true
unfolding same_rev
same_self v = ap is_equal (rev_order.self v)

-- "A parent's number is one lower."
parent_below : (w : Row) (p : Revision) → 1 ≤ w.rev.number.0 → parent_of_row w ≡ Some p → suc p.number.0 ≡ w.rev.number.0
unfolding parent_of_row
parent_below w p h e = go (eqb w.flag 0) e
  where
    go : (b : Bool) → pick b None (Some (revision (pred w.rev.number.0) w.parent)) ≡ Some p → suc p.number.0 ≡ w.rev.number.0
    go true q = absurd (none≢some q)
    go false q = let k : pred w.rev.number.0 ≡ p.number.0 = ap (λ (v : Revision). v.number.0) (some_inj q) in omega arith

same_not : (o : Ordering) → (o ≡ Equal → ⊥) → is_equal o ≡ false
same_not Less h = refl
same_not Equal h = absurd (h refl)
same_not Greater h = refl

ascending_after : (a b : Tree) → Ascending order_rev (a ++ b) → Ascending order_rev b
ascending_after [] b h = h
ascending_after (x ∷ a) b h = ascending_after a b h.1

-- what 26 asks of rows is that they are ordered
pub rows_ordered : (b : Body) (k : ℕ) (s : List ℕ) → CanTest Links b k s → Ordered b.base b.rows s
rows_ordered b k s p = let m = p.most in record { within = p.within; most = omega arith; good = p.before }

module _ (base n : ℕ) (s : List ℕ) (o : Ordered base n s) where
  held : RowsHold None (rows_at base n s)
  held = rows_back None (rows_at base n s) (true_none 0 (bad_rows None (rows_at base n s)) o.good)

  tree_ascends : Ascending order_rev (tree_at base n s)
  unfolding rows_at
  tree_ascends = subst (Ascending order_rev) (sym (tree_held base n s)) held.ascending

  -- two rows
  rows_ascend : (i j : ℕ) → i < j → j < n → order_rev (row_on base i s).rev (row_on base j s).rev ≡ Less
  unfolding rev_at node_at node_held meaning row_from
  rows_ascend i j h l =
      let k = length-tree base n s in
      let a = ascends (tree_at base n s) tree_ascends i j h (omega arith) in
      let x = rev_in_lem base n i s (omega arith) in
      let y = rev_in_lem base n j s l in
      rw (x, y) at a

  numbers_ascend : (i j : ℕ) → i ≤ j → j < n → number_on base i s ≤ number_on base j s
  numbers_ascend i j h l =
      ⊎_elim (λ (q : i ≡ j). rw q (le_refl (number_on base j s)))
      (λ (q : i < j). number_le (row_on base i s).rev (row_on base j s).rev (rows_ascend i j q l)) (eq-or-lt_of_le h)

  pub row_good : (i : ℕ) → i < n → RowRules (row_on base i s)
  row_good i h = row_rules (row_on base i s) (go (bad_row (row_on base i s)) refl)
    where
      go : (b : Bool) → bad_row (row_on base i s) ≡ b → bad_row (row_on base i s) ≡ false
      go false q = q
      go true q = absurd (true≢false (sym (any_some base s bad_row n i h q) ∙ each_none bad_row (rows_at base n s) held.each))

  -- two rows are two revisions
  rows_differ : (i j : ℕ) → i < n → j < n → (i ≡ j → ⊥) → same_rev (row_on base i s).rev (row_on base j s).rev ≡ false
  unfolding same_rev
  rows_differ i j a b h = go (ltb i j) refl
    where
      go : (t : Bool) → ltb i j ≡ t → is_equal (order_rev (row_on base i s).rev (row_on base j s).rev) ≡ false
      go true q = ap is_equal (rows_ascend i j (ltb-true i j q) b)
      go false q =
          let l = ltb-false i j q in
          let k : j < i = omega arith in
          ap is_equal (turn_less rev_order (row_on base j s).rev (row_on base i s).rev (rows_ascend j i k a))

  -- a run within them can be searched
  pub run_searchable : (lo hi : ℕ) → lo ≤ hi → hi ≤ n → Searchable (body (base + lo * row_size) (hi - lo)) s
  run_searchable lo hi a b =
      let front : Ascending order_rev (tree_at base hi s) = rw (tree_take base hi n s b) at (ascending_take hi (tree_at base n s) tree_ascends) in
      let cut = tree_cut base lo (hi - lo) hi s (omega arith) in
      record {
        within = let w = o.within in omega arith;
        ascending = ascending_after (tree_at base lo s) (tree_at (base + lo * row_size) (hi - lo) s) (rw cut at front);
      }

  -- ---- the run in which a parent lies

  -- one row further
  serves_next : (j : ℕ) (run : Run) → j < n → Serves base j run s → Serves base (suc j) (run_on base run j s) s × (number_on base (run_on base run j s).hi s ≡ number_on base j s)
  unfolding run_on
  serves_next j run l v = go (eqb (number_on base run.hi s) (number_on base j s)) refl
    where
      go : (b : Bool) → eqb (number_on base run.hi s) (number_on base j s) ≡ b
          → Serves base (suc j) (pick b run (record { lo = run.hi; hi = j })) s
          × (number_on base (pick b run (record { lo = run.hi; hi = j })).hi s ≡ number_on base j s)
      go true q =
          let e = eqb-true (number_on base run.hi s) (number_on base j s) q in (
            record {
              ordered = v.ordered;
              within = let w = v.within in omega arith;
              far = v.far;
              below = v.below;
              top = λ m h. ⊎_elim (λ (p : m ≡ j). rw p (omega arith)) (λ (p : m < j). v.top m p) (eq-or-lt_of_le (omega arith));
            },
            e,
          )
      go false q =
          let e = eqb-false (number_on base run.hi s) (number_on base j s) q in
          let up : number_on base run.hi s < number_on base j s = (let a = numbers_ascend run.hi j v.within l in omega arith) in (
            record {
              ordered = v.within;
              within = omega arith;
              far = λ m h. let a = v.below m h in omega arith;
              below = λ m h. let a = v.top m h in omega arith;
              top = λ m h. numbers_ascend m j (omega arith) l;
            },
            refl,
          )

  serves_run : (j : ℕ) (run next : Run) → j < n → Serves base j run s → next ≡ run_on base run j s
      → Serves base (suc j) next s × (number_on base next.hi s ≡ number_on base j s)
  serves_run j run next l v e =
      subst (λ (r : Run). Serves base (suc j) r s × (number_on base r.hi s ≡ number_on base j s)) (sym e) (serves_next j run l v)

  -- what a search of the run for row j's parent finds
  module _ (j : ℕ) (run : Run) (here : j < n) (v : Serves base (suc j) run s) (level : number_on base run.hi s ≡ number_on base j s) where
    run_within : run.hi ≤ n
    run_within = let w = v.within in omega arith

    abbrev run_tree : Tree
    run_tree = tree_at (base + run.lo * row_size) (run.hi - run.lo) s

    in_run : (i : ℕ) → i < run.hi - run.lo → rev_in run_tree i ≡ (row_on base (run.lo + i) s).rev
    unfolding rev_at node_at node_held meaning row_from
    in_run i h =
        let e : base + run.lo * row_size + i * row_size ≡ base + (run.lo + i) * row_size = omega arith in
        rev_in_lem (base + run.lo * row_size) (run.hi - run.lo) i s h ∙ ap (λ (k : ℕ). (row_at k s).rev) e

    -- found there
    pub run_found : (p : Revision) (i : ℕ) → place_of 0 p run_tree ≡ Ok i → (run.lo + i < n) × ((row_on base (run.lo + i) s).rev ≡ p)
    run_found p i e =
        let q = place_at i p run_tree e in
        let l = q.within in
        let k = length-tree (base + run.lo * row_size) (run.hi - run.lo) s in
        let h : i < run.hi - run.lo = omega arith in
        let w = run_within in
        (omega arith, sym (in_run i h) ∙ q.is)

    -- not found there, so nowhere among the rows
    run_missing : (p : Revision) (i : ℕ) → suc p.number.0 ≡ number_on base j s → place_of 0 p run_tree ≡ Err i
        → (m : ℕ) → m < n → same_rev p (row_on base m s).rev ≡ false
    unfolding same_rev
    run_missing p i below e m h = same_not (order_rev p (row_on base m s).rev) (λ q. not_here q (ltb m run.lo) refl (ltb m run.hi) refl)
      where
        not_here : order_rev p (row_on base m s).rev ≡ Equal → (a : Bool) → ltb m run.lo ≡ a → (b : Bool) → ltb m run.hi ≡ b → ⊥
        not_here q true x b y =
            let is = ap (λ (u : Revision). u.number.0) (rev_order.same p (row_on base m s).rev q) in
            let f = v.far m (ltb-true m run.lo x) in
            omega arith
        not_here q false x true y =
            let is = ltb-false m run.lo x in
            let up = ltb-true m run.hi y in
            let k = length-tree (base + run.lo * row_size) (run.hi - run.lo) s in
            let r : run.lo + (m - run.lo) ≡ m = omega arith in
            let t = in_run (m - run.lo) (omega arith) ∙ ap (λ (z : ℕ). (row_on base z s).rev) r in
            let g = found_here run_tree p (m - run.lo) (run_searchable run.lo run.hi v.ordered run_within).ascending (omega arith) (rw t q) in
            let z : ◌≡◌ {A = ℕ} 0 1 = cc in
            omega arith
        not_here q false x false y =
            let is = ap (λ (u : Revision). u.number.0) (rev_order.same p (row_on base m s).rev q) in
            let f = numbers_ascend run.hi m (ltb-false m run.hi y) h in
            omega arith

    -- ---- what the search says of row j

    -- row j's parent is missing or not, and among the rows it has none
    abbrev Apart : Bool → Type 0
    Apart b = (missing (rows_at base n s) (row_on base j s) ≡ b) × ((m : ℕ) → m < n → is_parent_of (row_on base m s).rev (row_on base j s) ≡ false)

    -- or row i is the one
    abbrev Linked : Parent → Type 0
    Linked Unknown = Apart false
    Linked Missing = Apart true
    Linked (Among i) =
        (i < n) × (missing (rows_at base n s) (row_on base j s) ≡ false)
        × ((m : ℕ) → m < n → is_parent_of (row_on base m s).rev (row_on base j s) ≡ eqb m i)

    same_turned : (a b : Revision) → same_rev a b ≡ false → same_rev b a ≡ false
    unfolding same_rev
    same_turned a b e =
        same_not (order_rev b a) (λ q. true≢false (sym (ap is_equal (rev_order.self a)) ∙ (ap (λ (x : Revision). is_equal (order_rev a x)) (sym (rev_order.same b a q)) ∙ e)))

    linked_some : (p : Revision) → parent_of_row (row_on base j s) ≡ Some p → suc p.number.0 ≡ number_on base j s
        → (f : Result ℕ ℕ) → place_of 0 p run_tree ≡ f → Linked (among run.lo f)
    unfolding missing is_parent_of
    linked_some p e below (Err i) q =
        let none_is = run_missing p i below q in (
          rw e (ap not (any_none base s (λ x. same_rev p x.rev) n none_is)),
          λ m h. rw e (same_turned p (row_on base m s).rev (none_is m h)),
        )
    linked_some p e below (Ok i) q =
        let f = run_found p i q in (
          f.0,
          rw e (ap not (any_some base s (λ x. same_rev p x.rev) n (run.lo + i) f.0 (ap (same_rev p) f.1 ∙ same_self p))),
          λ m h. rw e (go m h f.0 f.1 (eqb m (run.lo + i)) refl),
        )
      where
        go : (m : ℕ) → m < n → run.lo + i < n → (row_on base (run.lo + i) s).rev ≡ p → (b : Bool) → eqb m (run.lo + i) ≡ b → same_rev (row_on base m s).rev p ≡ b
        go m h l is true t =
            let k = eqb-true m (run.lo + i) t in
            ap (λ (x : ℕ). same_rev (row_on base x s).rev p) k ∙ (ap (λ (x : Revision). same_rev x p) is ∙ same_self p)
        go m h l is false t =
            ap (same_rev (row_on base m s).rev) (sym is) ∙ rows_differ m (run.lo + i) h l (eqb-false m (run.lo + i) t)

    linked_as : (r : Option Revision) → parent_of_row (row_on base j s) ≡ r → Linked (parent_among run.lo run_tree r)
    unfolding missing is_parent_of
    linked_as None e = (rw e refl, λ m h. rw e refl)
    linked_as (Some p) e = linked_some p e (parent_below (row_on base j s) p (row_good j here).number e) (place_of 0 p run_tree) refl

    linked : (r : Parent) → parent_on base run j s ≡ r → Linked r
    unfolding parent_on
    linked r e = subst Linked e (linked_as (parent_of_row (row_on base j s)) refl)

-- ---- what is sought

-- the run for row j, by the numbers x and y of its end and of row j
module _ (base j : ℕ) (run : Run) (s : List ℕ) (x y : ℕ) (ex : x ≡ number_on base run.hi s) (ey : y ≡ number_on base j s) where
  pub run_stays : x ≡ y → run ≡ run_on base run j s
  unfolding run_on
  run_stays e = rw (eq-eqb (number_on base run.hi s) (number_on base j s) (sym ex ∙ (e ∙ ey)))

  pub run_moves : (x ≡ y → ⊥) → record { lo = run.hi; hi = j } ≡ run_on base run j s
  unfolding run_on
  run_moves h = rw (ne_eqb (number_on base run.hi s) (number_on base j s) (λ e. h (ex ∙ (e ∙ sym ey))))

pub parent_none : (base j : ℕ) (run : Run) (s : List ℕ) → (row_on base j s).flag ≡ 0 → Unknown ≡ parent_on base run j s
unfolding parent_on parent_of_row
parent_none base j run s e = rw (eq-eqb (row_on base j s).flag 0 e)

-- the revision of number x and hash h
pub parent_sought : (base j : ℕ) (run : Run) (s : List ℕ) (x : ℕ) (h : List ℕ) → ((row_on base j s).flag ≡ 0 → ⊥) → x ≡ pred (number_on base j s)
    → h ≡ (row_on base j s).parent → among run.lo (place_of 0 (revision x h) (tree_at (base + run.lo * row_size) (run.hi - run.lo) s)) ≡ parent_on base run j s
unfolding parent_on parent_of_row
parent_sought base j run s x h f a b =
    let e : revision x h ≡ revision (pred (number_on base j s)) (row_on base j s).parent = ap₂ (λ (y : ℕ) (g : List ℕ). revision y g) a b in
    rw (ne_eqb (row_on base j s).flag 0 f)
    (ap (λ (v : Revision). among run.lo (place_of 0 v (tree_at (base + run.lo * row_size) (run.hi - run.lo) s))) e)

-- ---- the marks, one row further

bit_back : (b : Bool) → eqb (bit b) 1 ≡ b
bit_back true = refl
bit_back false = refl

or-true : (a b : Bool) → b ≡ true → (a || b) ≡ true
or-true true b e = refl
or-true false b e = e

or_false : (a b : Bool) → b ≡ false → (a || b) ≡ a
or_false true b e = refl
or_false false b e = e

module _ (base n j : ℕ) (s ms : List ℕ) where
  abbrev is_parent : ℕ → Row → Bool
  is_parent m = is_parent_of (row_on base m s).rev

  -- row j is no child of row m, or it is one
  same_any : (m : ℕ) → is_parent m (row_on base j s) ≡ false → any (is_parent m) (rows_at base j s) ≡ any (is_parent m) (rows_at base (j + 1) s)
  same_any m e = sym (any_next base s (is_parent m) j ∙ or_false (any (is_parent m) (rows_at base j s)) (is_parent m (row_on base j s)) e)

  true_any : (m : ℕ) → is_parent m (row_on base j s) ≡ true → true ≡ any (is_parent m) (rows_at base (j + 1) s)
  true_any m e = sym (any_next base s (is_parent m) j ∙ or-true (any (is_parent m) (rows_at base j s)) (is_parent m (row_on base j s)) e)

  marks_same : Marks base n j s ms → ((m : ℕ) → m < n → is_parent m (row_on base j s) ≡ false) → Marks base n (j + 1) s ms
  marks_same k f = record { size = k.size; each = λ m h. k.each m h ∙ ap bit (same_any m (f m h)) }

  marks_set : (i : ℕ) → i < n → Marks base n j s ms → ((m : ℕ) → m < n → is_parent m (row_on base j s) ≡ eqb m i) → Marks base n (j + 1) s (set ms i 1)
  marks_set i l k f = record { size = length-set ms i 1 ∙ k.size; each = λ m h. go m h (eqb m i) refl }
    where
      go : (m : ℕ) → m < n → (b : Bool) → eqb m i ≡ b → get_or (set ms i 1) m 0 ≡ bit (any (is_parent m) (rows_at base (j + 1) s))
      go m h true q =
          let z = k.size in
          ap (λ (x : ℕ). get_or (set ms i 1) x 0) (eqb-true m i q) ∙ (get_or-set_same ms i 1 0 (omega arith) ∙ ap bit (true_any m (f m h ∙ q)))
      go m h false q = get_or-set_other ms i m 1 0 (eqb-false m i q) ∙ (k.each m h ∙ ap bit (same_any m (f m h ∙ q)))

module _ (base n j : ℕ) (s : List ℕ) (here : j < n) where
  first_same : (first : ℕ) → FirstMissing base n j s first → missing (rows_at base n s) (row_on base j s) ≡ false → FirstMissing base n (j + 1) s first
  first_same first f e = record {
    most = f.most;
    before = λ m h l. ⊎_elim (λ (q : m ≡ j). ap (λ (k : ℕ). missing (rows_at base n s) (row_on base k s)) q ∙ e) (λ (q : m < j). f.before m q l) (eq-or-lt_of_le (omega arith));
    at = f.at;
  }

  first_more : (first : ℕ) → FirstMissing base n j s first → missing (rows_at base n s) (row_on base j s) ≡ true → FirstMissing base n (j + 1) s (min first j)
  first_more first f e = go (leb first j) refl
    where
      go : (b : Bool) → leb first j ≡ b → FirstMissing base n (j + 1) s (min first j)
      go true q =
          let l = leb-true first j q in
          let k : min first j ≡ first = omega arith in
          rw k (record { most = f.most; before = λ m h u. f.before m (omega arith) u; at = f.at })
      go false q =
          let l = leb-false first j q in
          let k : min first j ≡ j = omega arith in
          rw k (record { most = omega arith; before = λ m h u. f.before m u (omega arith); at = λ u. e })

-- the first j rows were looked at: the run serves them, each parent among them is marked, and `first` is the first
-- whose parent is missing
pub record Looked (base n : ℕ) (s : List ℕ) (j : ℕ) (run : Run) (ms : List ℕ) (first : ℕ) : Type 0 where
  pub most : j ≤ n
  pub serves : Serves base j run s
  pub marked : Marked base n j s ms first

-- how row j can be looked at, and what each answer on its parent leaves
pub record Steps (base n : ℕ) (s : List ℕ) (j : ℕ) (run : Run) (ms : List ℕ) (first : ℕ) : Type 0 where
  pub link : CanLink base j run s
  pub unknown : parent_on base run j s ≡ Unknown → Looked base n s (j + 1) run ms first
  pub missing : parent_on base run j s ≡ Missing → Looked base n s (j + 1) run ms (min first j)
  pub among : (i : ℕ) → parent_on base run j s ≡ Among i → (i < n) × Looked base n s (j + 1) run (set ms i 1) first

pub steps : (base n : ℕ) (s : List ℕ) → Ordered base n s → (j : ℕ) (was run : Run) (ms : List ℕ) (first : ℕ) → j < n → Looked base n s j was ms first
    → run ≡ run_on base was j s → Steps base n s j run ms first
steps base n s o j was run ms first here l e =
    let v = serves_run base n s o j was run here l.serves e in
    let serves : Serves base (j + 1) run s = rw (add-one j) v.0 in
    let linked-so = linked base n s o j run here v.0 v.1 in
    let marks = l.marked.marks in
    let gone = l.marked.missing in
    record {
      link = record { n = n; ordered = o; here = here; serves = v.0; level = v.1 };
      unknown = λ q. let k = linked-so Unknown q in record {
        most = omega arith;
        serves = serves;
        marked = record { marks = marks_same base n j s ms marks k.1; missing = first_same base n j s here first gone k.0 };
      };
      missing = λ q. let k = linked-so Missing q in record {
        most = omega arith;
        serves = serves;
        marked = record { marks = marks_same base n j s ms marks k.1; missing = first_more base n j s here first gone k.0 };
      };
      among = λ i q. let k = linked-so (Among i) q in (
        k.0,
        record {
          most = omega arith;
          serves = serves;
          marked = record { marks = marks_set base n j s ms i k.0 marks k.2; missing = first_same base n j s here first gone k.1 };
        },
      );
    }

-- before any row is looked at
pub looked_none : (base n : ℕ) (s ms : List ℕ) → Marks base n 0 s ms → Looked base n s 0 (record { lo = 0; hi = 0 }) ms n
looked_none base n s ms m = record {
  most = omega arith;
  serves = record {
    ordered = omega arith;
    within = omega arith;
    far = λ m h. absurd (omega arith);
    below = λ m h. absurd (omega arith);
    top = λ m h. absurd (omega arith);
  };
  marked = record {
    marks = m;
    missing = record { most = le_refl n; before = λ m h l. absurd (omega arith); at = λ h. absurd (omega arith) };
  };
}

-- after all of them
pub looked_all : (base n : ℕ) (s : List ℕ) (j : ℕ) (run : Run) (ms : List ℕ) (first : ℕ) → n ≤ j → Looked base n s j run ms first → Marked base n n s ms first
looked_all base n s j run ms first h l =
    let m = l.most in let e : j ≡ n = omega arith in subst (λ (k : ℕ). Marked base n k s ms first) e l.marked

pub marks_none : (base n : ℕ) (s ms : List ℕ) → ms ≡ replicate n 0 → Marks base n 0 s ms
unfolding rows_at pieces any
marks_none base n s ms e = record {
  size = ap length e ∙ length-replicate n 0;
  each = λ m h. ap (λ (l : List ℕ). get_or l m 0) e ∙ get_or-replicate n m 0 0 h;
}

-- the first n of m zeros
pub take-blank : (n m : ℕ) (ms : List ℕ) → ms ≡ replicate m 0 → n ≤ m → take n ms ≡ replicate n 0
take-blank n m ms e h =
    let k : m ≡ n + (m - n) = omega arith in
    ap (take n) (e ∙ (ap (λ (x : ℕ). replicate x 0) k ∙ sym (replicate-append-replicate n (m - n) 0)))
    ∙ take_at (replicate n 0) (replicate (m - n) 0) n (length-replicate n 0)

-- ---- the first bad row

module _ (base n k : ℕ) (s : List ℕ) where
  -- what is still to be found from row j on
  unfoldable pub links_from : ℕ → Option ℕ
  links_from j = first_true (k + j) (map (bad_link (rows_at base n s)) (rows_from base j n s))

  links_all : first_true k (bad_links (rows_at base n s)) ≡ links_from 0
  unfolding links_from bad_links
  links_all = rw (add-zero k) (ap (λ (l : List Row). first_true k (map (bad_link (rows_at base n s)) l)) (rows_all base n s))

  links_bad : (j : ℕ) → j < n → bad_link (rows_at base n s) (row_on base j s) ≡ true → links_from j ≡ Some (k + j)
  unfolding links_from first_true
  links_bad j h e = rw (rows_next base j n s h, e)

  links_next : (j : ℕ) → j < n → bad_link (rows_at base n s) (row_on base j s) ≡ false → links_from j ≡ links_from (j + 1)
  unfolding links_from first_true
  links_next j h e = rw (rows_next base j n s h, e, add-one j, add-suc k j)

  links_end : (j : ℕ) → n ≤ j → links_from j ≡ None
  unfolding links_from first_true
  links_end j h = rw (rows_none base j n s h)

  -- where parents are there, the kind decides
  link_kind : (j : ℕ) → missing (rows_at base n s) (row_on base j s) ≡ false → bad_link (rows_at base n s) (row_on base j s) ≡ misfit (rows_at base n s) (row_on base j s)
  unfolding bad_link missing misfit
  link_kind j e = rw e

  link_missing : (j : ℕ) → missing (rows_at base n s) (row_on base j s) ≡ true → bad_link (rows_at base n s) (row_on base j s) ≡ true
  unfolding bad_link missing
  link_missing j e = rw e

-- a mark read back
mark_kind : (base n j : ℕ) (s ms : List ℕ) → j < n → Marks base n n s ms
    → pick (eqb (get_or ms j 0) 1) (not (eqb (row_on base j s).kind 0)) (eqb (row_on base j s).kind 0) ≡ misfit (rows_at base n s) (row_on base j s)
unfolding misfit
mark_kind base n j s ms h k =
    ap (λ (b : Bool). pick b (not (eqb (row_on base j s).kind 0)) (eqb (row_on base j s).kind 0))
    (ap (λ (x : ℕ). eqb x 1) (k.each j h) ∙ bit_back (any (is_parent_of (row_on base j s).rev) (rows_at base n s)))

module _ (base n k : ℕ) (s ms : List ℕ) (first : ℕ) (m : Marked base n n s ms first) where
  -- row j's kind doesn't fit its mark
  abbrev pub unfit : ℕ → Bool
  unfit j = pick (eqb (get_or ms j 0) 1) (not (eqb (row_on base j s).kind 0)) (eqb (row_on base j s).kind 0)

  -- so a kind and a mark say whether a row is bad, where its parent is there
  unfit_bad : (j : ℕ) → j < first → bad_link (rows_at base n s) (row_on base j s) ≡ unfit j
  unfit_bad j h =
      let most = m.missing.most in
      link_kind base n k s j (m.missing.before j (omega arith) h) ∙ sym (mark_kind base n j s ms (omega arith) m.marks)

  abbrev pub last_missing : Option ℕ
  last_missing = then_some (ltb first n) first

  -- of the rows up to the first whose parent is missing the first unfit one is the first bad row, or else that one
  pub kinds_found : (r : Option ℕ)
      → MatchOption r ((i : ℕ) → 0 ≤ i → i < first → unfit i ≡ false) (λ j. (0 ≤ j) × (j < first) × (unfit j ≡ true) × ((i : ℕ) → 0 ≤ i → i < j → unfit i ≡ false))
      → option_map (λ j. k + j) (option_or r last_missing) ≡ first_true k (bad_links (rows_at base n s))
  kinds_found r f = found first k unfit (links_from base n k s) hit miss last_missing (end (ltb first n) refl) r f ∙ sym (links_all base n k s)
    where
      hit : (j : ℕ) → j < first → unfit j ≡ true → links_from base n k s j ≡ Some (k + j)
      hit j h e = let most = m.missing.most in links_bad base n k s j (omega arith) (unfit_bad j h ∙ e)

      miss : (j : ℕ) → j < first → unfit j ≡ false → links_from base n k s j ≡ links_from base n k s (j + 1)
      miss j h e = let most = m.missing.most in links_next base n k s j (omega arith) (unfit_bad j h ∙ e)

      end : (b : Bool) → ltb first n ≡ b → links_from base n k s first ≡ option_map (λ j. k + j) (then_some b first)
      end true q = let h = ltb-true first n q in links_bad base n k s first h (link_missing base n k s first (m.missing.at h))
      end false q = links_end base n k s first (ltb-false first n q)
