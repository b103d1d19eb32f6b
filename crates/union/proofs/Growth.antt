-- How much a write adds: the revisions held afterwards are those held and the new ones. Assumes nothing.
use mathlib.Core.Path.{◌≡◌, refl, ap, ap₂}
use Rattle.std.specs.declared.cmp.Ordering.TheVariants.{Equal}
use mathlib.Core.Bool.{false}
use mathlib.Core.List.{List, [], ◌∷◌}
use mathlib.Core.Logic.{inl, inr}
use Rattle.std.specs.Prelude.{Option, None, Some}
use Prim.Native.Nat.{ℕ, zero, suc, ◌+◌, ◌≤◌}
use native.Mathlib.Omega.{arith}
use lib.ListN.{length}
use borrow.Author.Tests.{ltb-false}
use Rattle.rules.specs.declared.Content.{Content}
use Rattle.rules.specs.declared.Revision.{Revision}
use Rattle.rules.specs.Choice.{pick, how_many}
use Rattle.rules.specs.Map.{Map, find}
use Rattle.rules.specs.Order.{order_bytes, order_rev}
use Rattle.rules.specs.Replica.{Id, Hash, revision, Node, Tree, Document, Replica, tree_in, document_of, tree_of, revisions_held}
use Rattle.rules.specs.Union.{In}
use Rattle.rules.specs.Write.{Write, hashes, newest_of, along, gives, learn, add_all, added, is_none, is_new, count_new, low_number}
use Rattle.rules.proofs.OrderLaws.{bytes_order, rev_order}
use Rattle.rules.proofs.MapLaws.{find_other}
use Rattle.union.proofs.Trees.{Entry, add}
use Rattle.union.proofs.Paths.{along_numbers}
use Rattle.union.proofs.Count.{on, sum, sum_alter}
use Rattle.union.proofs.Cases.{now}

one : Node → ℕ
one c = 1

length-sum : (t : Tree) → sum one t ≡ length t
unfolding sum one
length-sum [] = refl
length-sum (x ∷ xs) = let h = length-sum xs in omega arith

abbrev new_at : Option Node → ℕ
new_at o = pick (is_none o) 1 0

add_length : (t : Tree) (e : Entry) → length (add t e) ≡ length t + new_at (find order_rev e.0 t)
add_length t e = go (find order_rev e.0 t) (sum_alter rev_order one e.0 (learn e.1) t)
  where
    go : (o : Option Node) → sum one (add t e) + on one o ≡ sum one t + one (learn e.1 o) → length (add t e) ≡ length t + new_at o
    go None h = let a = length-sum t in let b = length-sum (add t e) in unfold one in omega arith
    go (Some c) h = let a = length-sum t in let b = length-sum (add t e) in unfold one in omega arith

-- another revision's being new does not change
new_stays : (t : Tree) (e : Entry) (es : List Entry) → ((x : Entry) → In x es → order_rev x.0 e.0 ≡ Equal → ⊥) → count_new (add t e) es ≡ count_new t es
unfolding count_new how_many is_new
new_stays t e [] n = refl
new_stays t e (x ∷ xs) n =
    ap₂ ◌+◌ (ap new_at (find_other rev_order x.0 e.0 (learn e.1) t (n x (inl refl)))) (new_stays t e xs (λ y m. n y (inr m)))

add_all_length : (hs : List Hash) (n : ℕ) (b : Option Content) (t : Tree) → length hs ≤ n
    → length (add_all (along n hs b) t) ≡ length t + count_new t (along n hs b)
unfolding add_all along count_new how_many is_new
add_all_length [] n b t h = omega arith
add_all_length (y ∷ ys) zero b t h = absurd (omega arith)
add_all_length (y ∷ ys) (suc n) b t h =
    let e : Entry = (revision (suc n) y, record { parent = newest_of n ys; content = b }) in
    let a = add_all_length ys n None (add t e) (omega arith) in
    let c = add_length t e in
    let d = new_stays t e (along n ys None)
    (λ x m q. let u = (along_numbers ys n None (omega arith) x m).high in
    let v : x.0.number.0 ≡ suc n = ap (λ (r : Revision). r.number.0) (rev_order.same x.0 e.0 q) in
    omega arith) in
    omega arith

document_size : Document → ℕ
document_size d = length d.tree

held_sum : (ds : Map Id Document) → sum document_size ds ≡ revisions_held ds
unfolding sum document_size revisions_held
held_sum [] = refl
held_sum (d ∷ ds) = ap (λ (n : ℕ). length d.1.tree + n) (held_sum ds)

size_on : (o : Option Document) → on document_size o ≡ length (tree_in o)
unfolding document_size
size_on None = refl
size_on (Some d) = refl

-- what refusal 7 counts
pub held_after : (r : Replica) (w : Write) → low_number w ≡ false
    → revisions_held (added r w).documents ≡ revisions_held r.documents + count_new (tree_of r w.id) (gives w)
unfolding added tree_of document_of gives low_number document_size
held_after r w e =
    let h = sum_alter bytes_order document_size w.id (λ d. now r w) r.documents in
    let a = held_sum r.documents in
    let b = held_sum (added r w).documents in
    let c = size_on (find order_bytes w.id r.documents) in
    let d = add_all_length (hashes w) w.number.0 (Some w.content) (tree_of r w.id) (ltb-false w.number.0 (length (hashes w)) e) in
    omega arith
