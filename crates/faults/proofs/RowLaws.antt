-- A row by itself, the order of two rows, and the rows of a document one after the other. Assumes nothing.
use mathlib.Core.Path.{◌≡◌, refl, sym, ap, ap₂, ◌∙◌}
use Rattle.std.specs.declared.cmp.Ordering.{Ordering}
use mathlib.Core.Bool.{Bool, true, false, not, ◌||◌}
use mathlib.Core.List.{List, [], ◌∷◌, map}
use Rattle.std.specs.Prelude.{Option, None, Some, MatchOption}
use Rattle.std.specs.Option.{option_map}
use Prim.Native.Nat.{ℕ, suc, ◌+◌, ◌-◌, ◌*◌, ◌≤◌, ◌<◌}
use native.Mathlib.Nat.{add-zero, add-suc, le_refl}
use native.Mathlib.Numerals.{add-one}
use native.Mathlib.Omega.{arith}
use lib.ListN.{drop}
use Rattle.rules.specs.declared.Revision.{Revision}
use Rattle.rules.specs.Bytes.{part, pieces}
use Rattle.rules.specs.Faults.{first_true, bad_row, bad_rows, row_not_above}
use Rattle.rules.specs.Layout.{Row, row_of, row_size}
use Rattle.rules.specs.Order.{order_rev, is_less}
use Rattle.rules.specs.Replica.{revision}
use Rattle.images.proofs.Tests.{or_left, or_right}
use Rattle.tree.specs.Rows.{meaning, row_from, node_held, node_at, rev_at}
use Rattle.tree.proofs.RowLaws.{rev_less}
use Rattle.faults.specs.Places.{row_at, rows_at, rev_before}
use Rattle.faults.proofs.FirstLaws.{found, or_none, items, items_next, items_none}

-- ---- a row by itself

-- ---- the order of two rows

-- row j and the one before it, at a, whose number is x
module _ (base j a x : ℕ) (s : List ℕ) (h : j ≡ 0 → ⊥) (e : a ≡ base + j * row_size - row_size) (ex : x ≡ (row_at a s).rev.number.0) where
  abbrev v : Revision
  v = (row_at (base + j * row_size) s).rev

  order_next : not (is_less (order_rev (row_at a s).rev v)) ≡ row_not_above (rev_before base j s) v
  order_next =
      let k : suc (j - 1) ≡ j = omega arith in
      let p : a ≡ base + (j - 1) * row_size = omega arith in
      ap (λ (n : ℕ). not (is_less (order_rev (row_at n s).rev v))) p ∙ ap (λ (n : ℕ). row_not_above (rev_before base n s) v) k

  pub order_less : (y : ℕ) → y ≡ v.number.0 → x < y → false ≡ row_not_above (rev_before base j s) v
  order_less y ey l = ap (λ (o : Ordering). not (is_less o)) (sym (rev_less (row_at a s).rev v (omega arith))) ∙ order_next

  -- the two revisions, compared
  pub order_told : (g : List ℕ) → g ≡ (row_at a s).rev.hash → (o : Ordering) → o ≡ order_rev (revision x g) (rev_at (base + j * row_size) s)
      → not (is_less o) ≡ row_not_above (rev_before base j s) v
  unfolding rev_at node_at node_held meaning row_from
  order_told g eg o eo =
      let q : o ≡ order_rev (row_at a s).rev v = eo ∙ ap₂ (λ (n : ℕ) (l : List ℕ). order_rev (revision n l) v) ex eg in
      ap (λ (r : Ordering). not (is_less r)) q ∙ order_next

-- ---- the rows of a document

-- the rows from j on, of n
unfoldable pub rows_from : ℕ → ℕ → ℕ → List ℕ → List Row
rows_from base j n s = items row_of row_size (base + j * row_size) (n - j) s

pub rows_all : (base n : ℕ) (s : List ℕ) → rows_at base n s ≡ rows_from base 0 n s
unfolding rows_at rows_from items
rows_all base n s =
    let e : n ≡ n - 0 = omega arith in
    ap₂ (λ (k m : ℕ). map row_of (pieces k row_size (drop m s))) e (sym (add-zero base))

pub rows_next : (base j n : ℕ) (s : List ℕ) → j < n → rows_from base j n s ≡ row_at (base + j * row_size) s ∷ rows_from base (j + 1) n s
unfolding rows_from
rows_next base j n s h =
    let k : base + j * row_size + row_size ≡ base + (j + 1) * row_size = omega arith in
    items_next row_of row_size (base + j * row_size) (n - j) (n - (j + 1)) s (omega arith)
    ∙ ap (λ (m : ℕ). row_of (part (base + j * row_size) row_size s) ∷ items row_of row_size m (n - (j + 1)) s) k

pub rows_none : (base j n : ℕ) (s : List ℕ) → n ≤ j → rows_from base j n s ≡ []
unfolding rows_from
rows_none base j n s h = items_none row_of row_size (base + j * row_size) (n - j) s (omega arith)

module _ (base n k : ℕ) (s : List ℕ) where
  -- what is still to be found from row j on
  unfoldable pub bad_from : ℕ → Option ℕ
  bad_from j = first_true (k + j) (bad_rows (rev_before base j s) (rows_from base j n s))

  bad_all : first_true k (bad_rows None (rows_at base n s)) ≡ bad_from 0
  unfolding bad_from
  bad_all = rw (rows_all base n s, add-zero k)

  abbrev row : ℕ → Row
  row j = row_at (base + j * row_size) s

  bad_alone : (j : ℕ) → j < n → bad_row (row j) ≡ true → bad_from j ≡ Some (k + j)
  unfolding bad_from first_true bad_rows
  bad_alone j h e = rw (rows_next base j n s h, e)

  bad_order : (j : ℕ) → j < n → bad_row (row j) ≡ false → row_not_above (rev_before base j s) (row j).rev ≡ true → bad_from j ≡ Some (k + j)
  unfolding bad_from first_true bad_rows
  bad_order j h e f = rw (rows_next base j n s h, e, f)

  bad_next : (j : ℕ) → j < n → bad_row (row j) ≡ false → row_not_above (rev_before base j s) (row j).rev ≡ false → bad_from j ≡ bad_from (j + 1)
  unfolding bad_from first_true bad_rows
  bad_next j h e f = rw (rows_next base j n s h, e, f, add-one j, add-suc k j)

  bad_end : (j : ℕ) → n ≤ j → bad_from j ≡ None
  unfolding bad_from first_true bad_rows
  bad_end j h = rw (rows_none base j n s h)

  -- row j is bad by itself or not above the one before it
  abbrev pub is_bad : ℕ → Bool
  is_bad j = bad_row (row j) || row_not_above (rev_before base j s) (row j).rev

  pub bad_found : (r : Option ℕ) → MatchOption r ((m : ℕ) → 0 ≤ m → m < n → is_bad m ≡ false) (λ i. (0 ≤ i) × (i < n) × (is_bad i ≡ true) × ((m : ℕ) → 0 ≤ m → m < i → is_bad m ≡ false))
      → option_map (λ j. k + j) r ≡ first_true k (bad_rows None (rows_at base n s))
  bad_found r f = ap (option_map (λ j. k + j)) (sym (or_none r)) ∙ (found n k is_bad bad_from hit miss None (bad_end n (le_refl n)) r f ∙ sym bad_all)
    where
      hit : (j : ℕ) → j < n → is_bad j ≡ true → bad_from j ≡ Some (k + j)
      hit j h e = go (bad_row (row j)) refl
        where
          go : (b : Bool) → bad_row (row j) ≡ b → bad_from j ≡ Some (k + j)
          go true q = bad_alone j h q
          go false q = bad_order j h q (rw q at e)

      miss : (j : ℕ) → j < n → is_bad j ≡ false → bad_from j ≡ bad_from (j + 1)
      miss j h e = bad_next j h (or_left (bad_row (row j)) (row_not_above (rev_before base j s) (row j).rev) e) (or_right (bad_row (row j)) (row_not_above (rev_before base j s) (row j).rev) e)
