-- Where every parent is known, a path has as many hashes as its revision's number says. Assumes nothing.
use mathlib.Core.Path.{◌≡◌, refl, sym, ap, ◌∙◌}
use Rattle.std.specs.Prelude.{Result, Ok, Err}
use mathlib.Core.Bool.{true}
use mathlib.Core.List.{List, [], ◌∷◌}
use Rattle.std.specs.Prelude.{Option, None, Some, is_some}
use Prim.Native.Nat.{ℕ, zero, suc, pred, ◌<◌}
use native.Mathlib.Omega.{arith}
use lib.ListN.{length, get_or}
use Rattle.rules.specs.declared.Revision.{Revision}
use Rattle.rules.specs.Choice.{maybe}
use Rattle.rules.specs.Map.{find}
use Rattle.rules.specs.Order.{order_rev}
use Rattle.rules.specs.Read.{path_of}
use Rattle.rules.specs.Replica.{Hash, revision, Tree, Known, HasParent, IsTree}
use Rattle.rules.specs.Write.{parent_in}
use Rattle.rules.proofs.MapLaws.{none≢some}
use Rattle.tree.specs.declared.table.Body.{Body}
use Rattle.tree.specs.Rows.{parent_of, meaning, row_at}
use Rattle.tree.specs.Table.{tree_in, row_start, place_of}
use Rattle.tree.proofs.PlaceLaws.{place_at, place_gap}
use Rattle.tree.proofs.RowLaws.{row_at_means}
use Rattle.tree.proofs.TableLaws.{no_row, length-tree, tree_row}
use Rattle.reads.proofs.TreeLaws.{path_unfolds}
use Rattle.puts.specs.Puts.{Rooted}

given : {A : Type 0} (o : Option A) → is_some o ≡ true → (g : A) × (o ≡ Some g)
given None e = let z : ◌≡◌ {A = ℕ} 0 1 = cc in absurd (omega arith)
given (Some g) e = (g, refl)

module _ (b : Body) (s : List ℕ) (h : IsTree (tree_in b s)) (all : Rooted b s b.rows) where
  abbrev t : Tree
  t = tree_in b s

  -- a revision numbered above 1 has a parent
  parent : (v : Revision) → Known t v → 1 < v.number.0 → (p : Revision) × (parent_in (find order_rev v t) ≡ Some p)
  unfolding meaning
  parent v k high = go (place_of 0 v t) refl
    where
      go : (f : Result ℕ ℕ) → place_of 0 v t ≡ f → (p : Revision) × (parent_in (find order_rev v t) ≡ Some p)
      go (Err j) e = absurd (none≢some (sym (place_gap j v t e).found ∙ k.1))
      go (Ok j) e =
          let a = place_at j v t e in
          let n = length-tree b.base b.rows s in
          let w : j < b.rows = omega (arith, a.within) in
          let r = row_at (row_start b j) s in
          let is : get_or t j no_row ≡ meaning r = tree_row b.base b.rows j s w ∙ sym (row_at_means (row_start b j) s) in
          let rev : r.rev ≡ v = sym (ap (λ x. x.0) is) ∙ a.is in
          let m : r.rev.number.0 ≡ v.number.0 = ap (λ (x : Revision). x.number.0) rev in
          let known : (g : Hash) × (r.parent ≡ Some g) = given r.parent (all j w (omega arith)) in
          let q : parent_in (find order_rev v t) ≡ parent_of r.rev r.parent = ap parent_in a.found ∙ ap (λ x. x.1.parent) is in
          (revision (pred r.rev.number.0) known.0, q ∙ ap (λ (o : Option Hash). parent_of r.rev o) known.1)

  -- and one without a parent is numbered 1
  first : (v : Revision) → Known t v → parent_in (find order_rev v t) ≡ None → (m : ℕ) → v.number.0 ≡ suc m → 1 ≡ suc m
  first v k q zero e = refl
  first v k q (suc m) e = absurd (none≢some (sym q ∙ (parent v k (omega arith)).1))

  counted : (n : ℕ) (v : Revision) → Known t v → v.number.0 ≡ n → length (path_of t v) ≡ n
  counted zero v k e = absurd (let l = (h.revisions v k).least in omega arith)
  counted (suc n) v k e = ap length (path_unfolds t h v k) ∙ go (parent_in (find order_rev v t)) refl (λ p l q. counted n p l q)
    where
      go : (o : Option Revision) → parent_in (find order_rev v t) ≡ o → ((p : Revision) → Known t p → p.number.0 ≡ n → length (path_of t p) ≡ n)
          → length (v.hash ∷ maybe {A = Revision} {B = List Hash} [] (path_of t) o) ≡ suc n
      go None q f = first v k q n e
      go (Some p) q f =
          let up : HasParent t v p = (k.0, k.1, sym (ap parent_in k.1) ∙ q) in
          let l = h.lower v p up in
          ap suc (f p (h.parents v p up) (omega arith))

  -- its hashes are counted by its number
  pub rooted_count : (v : Revision) → Known t v → v.number.0 ≡ length (path_of t v)
  rooted_count v k = sym (counted v.number.0 v k refl)
