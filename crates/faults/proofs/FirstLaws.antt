-- Looking for the first bad entry: what is left gives the same answer. Assumes nothing.
use mathlib.Core.Path.{◌≡◌, refl, sym, ap, ◌∙◌}
use mathlib.Core.Bool.{Bool, true, false, ◌||◌}
use mathlib.Core.List.{List, [], ◌∷◌, map}
use Rattle.std.specs.Prelude.{Option, None, Some, MatchOption}
use Rattle.std.specs.Option.{option_map, option_or}
use Rattle.std.specs.List.{list_any, range_with_len}
use Prim.Native.Nat.{ℕ, zero, suc, ◌+◌, ◌-◌, ◌*◌, ◌≤◌, ◌<◌, max}
use native.Mathlib.Nat.{le_refl, add-zero, zero-add, add_assoc}
use native.Mathlib.Numerals.{add-one}
use native.Mathlib.Omega.{arith}
use lib.Dec.{eqb}
use lib.ListN.{take, drop}
use lib.Seq.{drop-drop}
use Rattle.rules.specs.Bytes.{part, pieces}
use Rattle.rules.specs.Choice.{pick, or_else, any}
use Rattle.rules.specs.Faults.{first_true, sum_rows, bad_entry, bad_entries, bad_contents, bad_seqs, largest, bad_sequence}
use Rattle.rules.specs.Image.{entries_of}
use Rattle.rules.specs.Layout.{Entry, entry_of, head_of, entry_size, row_size, head_size}
use Rattle.layout.specs.Fields.{entry_place}
use Rattle.faults.specs.Places.{entry_at, id_before, seq_at, seqs_before, row_place}

-- a search of n places from place 0 on: `left j` is what is still to be found from place j on
module _ (n k : ℕ) (bad : ℕ → Bool) (left : ℕ → Option ℕ) (hit : (j : ℕ) → j < n → bad j ≡ true → left j ≡ Some (k + j))
    (miss : (j : ℕ) → j < n → bad j ≡ false → left j ≡ left (j + 1)) (last : Option ℕ) (end : left n ≡ option_map (λ j. k + j) last) where
  passed : (i : ℕ) → i ≤ n → ((m : ℕ) → 0 ≤ m → m < i → bad m ≡ false) → left 0 ≡ left i
  passed zero h f = refl
  passed (suc i) h f = passed i (omega arith) (λ m z l. f m z (omega arith)) ∙ (miss i (omega arith) (f i (omega arith) (omega arith)) ∙ ap left (add-one i))

  -- what `find` answers, or else `last`, counted on from k
  pub found : (r : Option ℕ) → MatchOption r ((m : ℕ) → 0 ≤ m → m < n → bad m ≡ false) (λ i. (0 ≤ i) × (i < n) × (bad i ≡ true) × ((m : ℕ) → 0 ≤ m → m < i → bad m ≡ false))
      → option_map (λ j. k + j) (option_or r last) ≡ left 0
  found None f = sym (passed n (le_refl n) f ∙ end)
  found (Some i) f = sym (passed i (omega arith) f.3 ∙ hit i f.1 f.2)

pub or_none : (r : Option ℕ) → option_or r None ≡ r
or_none None = refl
or_none (Some i) = refl

-- n items of w bytes each, from byte `at` on
module _ {A : Type 0} (f : List ℕ → A) (w : ℕ) where
  unfoldable pub items : ℕ → ℕ → List ℕ → List A
  items at n s = map f (pieces n w (drop at s))

  pub items_next : (at n m : ℕ) (s : List ℕ) → n ≡ suc m → items at n s ≡ f (part at w s) ∷ items (at + w) m s
  unfolding items pieces part
  items_next at n m s e =
      ap (λ (k : ℕ). map f (pieces k w (drop at s))) e
      ∙ ap (λ (l : List ℕ). f (take w (drop at s)) ∷ map f (pieces m w l)) (drop-drop w at s)

  pub items_none : (at n : ℕ) (s : List ℕ) → n ≡ 0 → items at n s ≡ []
  unfolding items pieces
  items_none at n s e = ap (λ (k : ℕ). map f (pieces k w (drop at s))) e

-- the entries from i on, of d
unfoldable pub entries_from : ℕ → ℕ → List ℕ → List Entry
entries_from i d s = items entry_of entry_size (entry_place i) (d - i) s

pub entries_all : (s : List ℕ) → entries_of s ≡ entries_from 0 (head_of s).documents s
unfolding entries_of entries_from items
entries_all s = let e : (head_of s).documents ≡ (head_of s).documents - 0 = omega arith in ap (λ (k : ℕ). map entry_of (pieces k entry_size (drop head_size s))) e

pub entries_next : (i d : ℕ) (s : List ℕ) → i < d → entries_from i d s ≡ entry_at i s ∷ entries_from (i + 1) d s
unfolding entries_from
entries_next i d s h =
    let k : entry_place i + entry_size ≡ entry_place (i + 1) = omega arith in
    items_next entry_of entry_size (entry_place i) (d - i) (d - (i + 1)) s (omega arith)
    ∙ ap (λ (n : ℕ). entry_of (part (entry_place i) entry_size s) ∷ items entry_of entry_size n (d - (i + 1)) s) k

pub entries_none : (i d : ℕ) (s : List ℕ) → d ≤ i → entries_from i d s ≡ []
unfolding entries_from
entries_none i d s h = items_none entry_of entry_size (entry_place i) (d - i) s (omega arith)

-- ---- 23

module _ (s : List ℕ) (d r : ℕ) where
  -- what is still to be found from entry i on, where `rows` rows are before it
  unfoldable pub contents_from : ℕ → ℕ → Option ℕ
  contents_from i rows =
      or_else (first_true i (bad_entries (row_place d rows) (id_before i s) (entries_from i d s)))
      (pick (eqb (rows + sum_rows (entries_from i d s)) r) None (Some d))

  pub contents_bad : (i rows : ℕ) → i < d → bad_entry (row_place d rows) (id_before i s) (entry_at i s) ≡ true → contents_from i rows ≡ Some i
  unfolding contents_from first_true bad_entries
  contents_bad i rows h e = rw (entries_next i d s h, e)

  pub contents_next : (i rows : ℕ) → i < d → bad_entry (row_place d rows) (id_before i s) (entry_at i s) ≡ false
      → contents_from i rows ≡ contents_from (i + 1) (rows + (entry_at i s).rows)
  unfolding contents_from first_true bad_entries sum_rows
  contents_next i rows h e =
      let k : row_place d rows + row_size * (entry_at i s).rows ≡ row_place d (rows + (entry_at i s).rows) = omega arith in
      rw (entries_next i d s h, e, k, add-one i, sym (add_assoc rows (entry_at i s).rows (sum_rows (entries_from (suc i) d s))))

  pub contents_end : (i rows : ℕ) → d ≤ i → contents_from i rows ≡ pick (eqb rows r) None (Some d)
  unfolding contents_from first_true bad_entries sum_rows
  contents_end i rows h = rw (entries_none i d s h, add-zero rows)

pub contents_all : (s : List ℕ) → bad_contents s ≡ contents_from s (head_of s).documents (head_of s).revisions 0 0
unfolding bad_contents contents_from
contents_all s = rw (entries_all s, add-zero (entry_place (head_of s).documents), zero-add (sum_rows (entries_from 0 (head_of s).documents s)))

-- ---- 24

module _ (s : List ℕ) (d q : ℕ) where
  -- what is still to be found from entry i on, where `most` is the largest sequence before it
  unfoldable pub sequence_from : ℕ → ℕ → Option ℕ
  sequence_from i most =
      or_else (first_true i (bad_seqs (seqs_before i s) (entries_from i d s)))
      (pick (eqb q (max most (largest (entries_from i d s)))) None (Some d))

  pub sequence_bad : (i most : ℕ) → i < d → (eqb (seq_at i s) 0 || any (eqb (seq_at i s)) (seqs_before i s)) ≡ true → sequence_from i most ≡ Some i
  unfolding sequence_from first_true bad_seqs
  sequence_bad i most h e = rw (entries_next i d s h, e)

  pub sequence_next : (i most : ℕ) → i < d → (eqb (seq_at i s) 0 || any (eqb (seq_at i s)) (seqs_before i s)) ≡ false
      → sequence_from i most ≡ sequence_from (i + 1) (max most (seq_at i s))
  unfolding sequence_from first_true bad_seqs largest seqs_before
  sequence_next i most h e =
      let rest : ℕ = largest (entries_from (i + 1) d s) in
      let k : max most (max (seq_at i s) rest) ≡ max (max most (seq_at i s)) rest = omega arith in
      rw (entries_next i d s h, e, k, add-one i)

  pub sequence_end : (i most : ℕ) → d ≤ i → sequence_from i most ≡ pick (eqb q most) None (Some d)
  unfolding sequence_from first_true bad_seqs largest
  sequence_end i most h = let k : max most 0 ≡ most = omega arith in rw (entries_none i d s h, k)

pub sequence_all : (s : List ℕ) → bad_sequence s ≡ sequence_from s (head_of s).documents (head_of s).seq 0 0
unfolding bad_sequence sequence_from seqs_before
sequence_all s =
    let k : max 0 (largest (entries_from 0 (head_of s).documents s)) ≡ largest (entries_from 0 (head_of s).documents s) = omega arith in
    rw (entries_all s, k)

-- an own sequence among those before it
or_assoc : (a b c : Bool) → (a || (b || c)) ≡ ((a || b) || c)
or_assoc true b c = refl
or_assoc false b c = refl

or_swap : (a b : Bool) → (a || b) ≡ (b || a)
or_swap true true = refl
or_swap true false = refl
or_swap false true = refl
or_swap false false = refl

-- the last place of a run that is asked
any_last : (f : ℕ → Bool) (a n : ℕ) → list_any f (range_with_len a (suc n)) ≡ (list_any f (range_with_len a n) || f (a + n))
any_last f a zero = or_swap (f a) false ∙ ap f (sym (add-zero a))
any_last f a (suc n) =
    let e : a + 1 + n ≡ a + suc n = omega arith in
    ap (λ (b : Bool). f a || b) (any_last f (a + 1) n)
    ∙ (or_assoc (f a) (list_any f (range_with_len (a + 1) n)) (f (a + 1 + n)) ∙ ap (λ (k : ℕ). (f a || list_any f (range_with_len (a + 1) n)) || f k) e)

pub own_among : (q i : ℕ) (s : List ℕ) → list_any (λ j. eqb q (seq_at j s)) (range_with_len 0 i) ≡ any (eqb q) (seqs_before i s)
unfolding any seqs_before
own_among q zero s = refl
own_among q (suc i) s =
    any_last (λ j. eqb q (seq_at j s)) 0 i
    ∙ (ap (λ (k : ℕ). list_any (λ j. eqb q (seq_at j s)) (range_with_len 0 i) || eqb q (seq_at k s)) (zero-add i)
    ∙ (ap (λ (b : Bool). b || eqb q (seq_at i s)) (own_among q i s) ∙ or_swap (any (eqb q) (seqs_before i s)) (eqb q (seq_at i s))))
