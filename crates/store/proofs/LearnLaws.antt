-- What is known of a revision once a row is learnt. Assumes nothing.
use mathlib.Core.Path.{◌≡◌, refl, sym, ap, ◌∙◌}
use Rattle.rules.specs.declared.Content.{Content}
use Rattle.std.specs.Prelude.{Option, Result, Ok, Err}
use mathlib.Core.Bool.{true, false}
use Rattle.std.specs.Option.{option_or, option_and}
use Rattle.std.specs.Prelude.{None, Some}
use Prim.Native.Nat.{ℕ, pred, ◌+◌, ◌<◌}
use native.Mathlib.Omega.{arith}
use mathlib.Core.List.{List}
use lib.ListN.{get_or, set, length-set}
use Rattle.rules.specs.declared.Revision.{Revision}
use Rattle.rules.specs.Choice.{or_else}
use Rattle.rules.specs.Map.{alter}
use Rattle.rules.specs.Order.{order_rev}
use Rattle.rules.specs.Replica.{Hash, revision, Node, Tree}
use Rattle.rules.specs.Write.{keeps, learn}
use Rattle.tree.specs.declared.table.Body.{Body}
use Rattle.tree.specs.declared.row.Row.{Row}
use Rattle.tree.specs.Rows.{parent_of, meaning, row_at, RowPut}
use Rattle.tree.specs.Table.{tree_in, row_start, place_of, insert_at, Searchable}
use Rattle.tree.proofs.RowLaws.{row_at_means}
use Rattle.tree.proofs.TableLaws.{no_row, tree_row}
use Rattle.tree.proofs.PlaceLaws.{Is, IsNot, place_at, place_gap}
use Rattle.store.specs.Storage.{replica_of}
use Rattle.store.specs.Documents.{documents_of, document_at, Shows}
use Rattle.store.specs.Change.{with_tree, Holds, CanInsertRow, CanLearn, Learnt}
use Rattle.store.proofs.TableLaws.{length_insert}
use Rattle.store.proofs.BodyLaws.{body_shows}
use Rattle.store.proofs.RowChangeLaws.{set_holds, body_after, tree_same}

-- ---- merging two rows of one revision

pub merged_means : (held given : Row) → held.rev ≡ given.rev
    → meaning (record { rev = held.rev; parent = option_or held.parent given.parent; content = option_and given.content held.content })
    ≡ (given.rev, learn (meaning given).1 (Some (meaning held).1))
unfolding meaning
merged_means held given e = λ i. (e i, record { parent = parents held.parent given.parent i; content = contents given.content held.content i })
  where
    parents : (h g : Option Hash) → parent_of held.rev (option_or h g) ≡ or_else (parent_of held.rev h) (parent_of given.rev g)
    parents None g = ap (λ (v : Revision). parent_of v g) e
    parents (Some h) g = refl

    contents : (g h : Option Content) → option_and g h ≡ keeps g h
    contents None h = refl
    contents (Some c) h = refl

-- ---- the row that is found, or the gap

module _ (s : List ℕ) (d : ℕ) (b : Body) (row : Row) (h : CanLearn s d b (meaning row)) where
  abbrev t : Tree
  t = (document_at (documents_of s) d).1.tree

  abbrev v : Revision
  v = row.rev

  shows : Shows s b t
  shows = body_shows s d b h.body

  pub searchable : Searchable b s
  searchable = record { within = shows.within; ascending = rw shows.tree h.ascending }

  module _ (i : ℕ) (found : Result ℕ ℕ) (p : found ≡ place_of 0 v (tree_in b s)) (q : found ≡ Ok i) where
    is : Is i v t
    is = place_at i v t (rw shows.tree at (sym p ∙ q))

    pub found_within : i < b.rows
    found_within = let w = is.within in omega (arith, h.body.rows)

    -- what the row there means
    held_means : meaning (row_at (row_start b i) s) ≡ get_or t i no_row
    held_means =
        row_at_means (row_start b i) s ∙ (sym (tree_row b.base b.rows i s found_within) ∙ ap (λ (u : Tree). get_or u i no_row) shows.tree)

    pub held_same : (row_at (row_start b i) s).rev ≡ v
    unfolding meaning
    held_same = ap (λ (x : Revision × Node). x.0) held_means ∙ is.is

    pub learnt_at : (s₁ : List ℕ) (at : ℕ) (x : Row) → at ≡ row_start b i → meaning x ≡ (v, learn (meaning row).1 (Some (meaning (row_at (row_start b i) s)).1))
        → RowPut s at x s₁ → Learnt s d (meaning row) b s₁
    unfolding meaning
    learnt_at s₁ at x e m put =
        let y = meaning x in
        let f : Tree → Tree = λ u. set u i y in
        let n : y ≡ (v, learn (meaning row).1 (Some (get_or t i no_row).1)) = m ∙ ap (λ (z : Revision × Node). (v, learn (meaning row).1 (Some z.1))) held_means in
        let a : f t ≡ alter order_rev v (learn (meaning row).1) t = rw n (sym (is.altered (learn (meaning row).1))) in
        let w = tree_same (replica_of s) d f (alter order_rev v (learn (meaning row).1)) a in
        let k = set_holds s s₁ d b i at y h.body found_within put.fits e put.is in
        record { holds = rw w at k; body = body_after s s₁ d b b f h.body k refl (h.body.rows ∙ sym (length-set t i y)) }

  module _ (i : ℕ) (found : Result ℕ ℕ) (p : found ≡ place_of 0 v (tree_in b s)) (q : found ≡ Err i) where
    is_not : IsNot i v t
    is_not = place_gap i v t (rw shows.tree at (sym p ∙ q))

    pub can_insert : CanInsertRow s d b i
    unfolding meaning
    can_insert =
        let w = is_not.within in
        record { body = h.body; place = omega (arith, h.body.rows); room = h.room is_not.found }

    pub learnt_gap : (s₁ : List ℕ) (b₁ : Body) → b₁.base ≡ b.base → b₁.rows ≡ b.rows + 1 → Holds (with_tree d (insert_at i (meaning row)) (replica_of s)) s₁ → Learnt s d (meaning row) b₁ s₁
    unfolding meaning
    learnt_gap s₁ b₁ o n k =
        let a : insert_at i (meaning row) t ≡ alter order_rev v (learn (meaning row).1) t = sym (is_not.altered (learn (meaning row).1)) in
        let w = tree_same (replica_of s) d (insert_at i (meaning row)) (alter order_rev v (learn (meaning row).1)) a in
        let m = length_insert i (meaning row) t is_not.within in
        record { holds = rw w at k; body = body_after s s₁ d b b₁ (insert_at i (meaning row)) h.body k o (omega (arith, h.body.rows)) }
