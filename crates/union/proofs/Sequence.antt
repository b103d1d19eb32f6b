-- From fresh the sequence never runs out: each change adds a revision or a parent. Assumes nothing.
use mathlib.Core.Path.{◌≡◌, refl, sym, ap, ap₂, ◌∙◌}
use Rattle.std.specs.declared.cmp.Ordering.TheVariants.{Less, Equal, Greater}
use Rattle.std.specs.declared.cmp.Ordering.{Ordering}
use Rattle.std.specs.Prelude.{Err}
use mathlib.Core.Bool.{Bool, true, false, ◌&&◌, ◌||◌, true≢false}
use mathlib.Core.List.{List, [], ◌∷◌}
use mathlib.Core.Logic.{inl, inr}
use Rattle.std.specs.Prelude.{Option, None, Some}
use Prim.Native.Nat.{ℕ, suc, ◌+◌, ◌≤◌, ◌<◌}
use native.Mathlib.Omega.{arith}
use lib.Dec.{eqb}
use lib.ListN.{length}
use borrow.Author.Tests.{eqb-true}
use Rattle.rules.specs.declared.Refusal.TheVariants.{SequenceSpent}
use Rattle.rules.specs.declared.Revision.{Revision}
use Rattle.rules.specs.Choice.{or_else, maybe, any}
use Rattle.rules.specs.Map.{Map, find}
use Rattle.rules.specs.Order.{order_bytes, order_rev}
use Rattle.rules.specs.Replica.{Id, Node, Tree, Document, Replica, fresh, tree_in, document_of, tree_of, revisions_held}
use Rattle.rules.specs.Room.{seq_most}
use Rattle.rules.specs.Union.{In, given, Compatible, Fits, write_all, SeqSuffices}
use Rattle.rules.specs.Write.{Write, gives, learn, add_all, added, lacks_parent, is_addition, adds, sequence_spent, write}
use Rattle.rules.proofs.OrderLaws.{less≢equal, equal≢greater, bytes_order, rev_order}
use Rattle.rules.proofs.MapLaws.{find_same, find_other}
use Rattle.rules.proofs.GivenLaws.{adds_any}
use Rattle.union.proofs.Trees.{Agrees, Entry, add}
use Rattle.union.proofs.Paths.{Closed}
use Rattle.union.proofs.Count.{on, sum, sum_alter, sum-at}
use Rattle.union.proofs.Sets.{Givens, NoGivens, Plus, ◌⊎w◌, agrees, closed_none, closed_w, compatible_within, fits_within, only_given, things, within_sub}
use Rattle.union.proofs.Refusals.{Well, spent_only}
use Rattle.union.proofs.Cases.{now, refused_by, write_by}
use Rattle.union.proofs.Replicas.{Holds, revisions_fit, step}
use Rattle.union.proofs.Fold.{holds_fresh, one_within, rest_within}

-- a revision counts one, and its parent if known another
abbrev parent_weight : Option Revision → ℕ
parent_weight None = 0
parent_weight (Some p) = 1

node_weight : Node → ℕ
node_weight c = suc (parent_weight c.parent)

tree_weight : Tree → ℕ
tree_weight t = sum node_weight t

document_weight : Document → ℕ
document_weight d = tree_weight d.tree

abbrev bump : Bool → ℕ
bump true = 1
bump false = 0

learn_weight : (x y : Option Revision) → parent_weight (or_else x y) ≡ parent_weight x + bump (lacks_parent y x)
learn_weight None None = refl
learn_weight None (Some b) = refl
learn_weight (Some a) None = refl
learn_weight (Some a) (Some b) = refl

addition_at : (t : Tree) (e : Entry) (o : Option Node) → find order_rev e.0 t ≡ o → is_addition t e ≡ maybe true (λ n. lacks_parent e.1.parent n.parent) o
unfolding is_addition
addition_at t e o q = ap (λ z. maybe true (λ (c : Node). lacks_parent e.1.parent c.parent) z) q

add_weight : (t : Tree) (e : Entry) → tree_weight t + bump (is_addition t e) ≤ tree_weight (add t e)
unfolding tree_weight node_weight
add_weight t e = go (find order_rev e.0 t) refl
  where
    go : (o : Option Node) → find order_rev e.0 t ≡ o → tree_weight t + bump (is_addition t e) ≤ tree_weight (add t e)
    go None q = rw (addition_at t e None q) (let h = sum-at rev_order node_weight e.0 (learn e.1) t None q in omega arith)
    go (Some c) q =
        rw (addition_at t e (Some c) q)
        (let h = sum-at rev_order node_weight e.0 (learn e.1) t (Some c) q in let l = learn_weight c.parent e.1.parent in omega arith)

add_all_weight : (es : List Entry) (t : Tree) → tree_weight t ≤ tree_weight (add_all es t)
unfolding add_all
add_all_weight [] t = omega arith
add_all_weight (e ∷ es) t = let a = add_weight t e in let b = add_all_weight es (add t e) in omega arith

parent_stays : (x y : Option Revision) → lacks_parent y x ≡ false → or_else x y ≡ x
parent_stays None None e = refl
parent_stays None (Some b) e = absurd (true≢false e)
parent_stays (Some a) y e = refl

-- an entry that adds nothing leaves what the others would add
addition_stays : (t : Tree) (e x : Entry) → is_addition t e ≡ false → is_addition (add t e) x ≡ is_addition t x
addition_stays t e x q = go (order_rev x.0 e.0) refl
  where
    apart : (order_rev x.0 e.0 ≡ Equal → ⊥) → is_addition (add t e) x ≡ is_addition t x
    apart n =
        addition_at (add t e) x (find order_rev x.0 t) (find_other rev_order x.0 e.0 (learn e.1) t n)
        ∙ sym (addition_at t x (find order_rev x.0 t) refl)

    same : (o : Option Node) → find order_rev e.0 t ≡ o → x.0 ≡ e.0 → is_addition (add t e) x ≡ is_addition t x
    same None f p = absurd (true≢false (sym (addition_at t e None f) ∙ q))
    same (Some c) f p =
        addition_at (add t e) x (Some (learn e.1 (Some c)))
        (rw p (find_same rev_order e.0 (learn e.1) t ∙ ap (λ o. Some (learn e.1 o)) f))
        ∙ ap (λ z. lacks_parent x.1.parent z) (parent_stays c.parent e.1.parent (sym (addition_at t e (Some c) f) ∙ q))
        ∙ sym (addition_at t x (Some c) (rw p f))

    go : (o : Ordering) → order_rev x.0 e.0 ≡ o → is_addition (add t e) x ≡ is_addition t x
    go Less p = apart (λ z. less≢equal (sym p ∙ z))
    go Equal p = same (find order_rev e.0 t) refl (rev_order.same x.0 e.0 p)
    go Greater p = apart (λ z. equal≢greater (sym z ∙ p))

any_cong : {A : Type 0} (p q : A → Bool) → ((x : A) → p x ≡ q x) → (xs : List A) → any p xs ≡ any q xs
unfolding any
any_cong p q h [] = refl
any_cong p q h (x ∷ xs) = ap₂ ◌||◌ (h x) (any_cong p q h xs)

addition_weight : (es : List Entry) (t : Tree) → any (is_addition t) es ≡ true → tree_weight t < tree_weight (add_all es t)
unfolding add_all any
addition_weight [] t e = absurd (true≢false (sym e))
addition_weight (x ∷ xs) t e = go (is_addition t x) refl (λ q. addition_weight xs (add t x) q)
  where
    go : (b : Bool) → is_addition t x ≡ b → (any (is_addition (add t x)) xs ≡ true → tree_weight (add t x) < tree_weight (add_all xs (add t x)))
        → tree_weight t < tree_weight (add_all xs (add t x))
    go true q ih =
        let a : tree_weight t + 1 ≤ tree_weight (add t x) = rw q at (add_weight t x) in
        let b = add_all_weight xs (add t x) in
        omega arith
    go false q ih =
        let a = add_weight t x in
        let b = ih (any_cong (is_addition (add t x)) (is_addition t) (λ y. addition_stays t x y q) xs ∙ (sym (rw q refl) ∙ e)) in
        omega arith

-- ---- the replica

replica_weight : Replica → ℕ
replica_weight r = sum document_weight r.documents

weight_on : (o : Option Document) → on document_weight o ≡ tree_weight (tree_in o)
unfolding document_weight tree_weight sum
weight_on None = refl
weight_on (Some d) = refl

added_weight : (r : Replica) (w : Write) → adds r w ≡ true → replica_weight r < replica_weight (added r w)
unfolding replica_weight added tree_of document_of document_weight
added_weight r w e =
    let h = sum_alter bytes_order document_weight w.id (λ d. now r w) r.documents in
    let a = weight_on (find order_bytes w.id r.documents) in
    let b = addition_weight (gives w) (tree_of r w.id) (sym (adds_any r w) ∙ e) in
    omega arith

tree_twice : (t : Tree) → tree_weight t ≤ length t + length t
unfolding tree_weight sum node_weight
tree_twice [] = omega arith
tree_twice (x ∷ xs) = go x.1.parent (tree_twice xs)
  where
    go : (o : Option Revision) → tree_weight xs ≤ length xs + length xs → suc (parent_weight o) + tree_weight xs ≤ length (x ∷ xs) + length (x ∷ xs)
    go None ih = omega arith
    go (Some p) ih = omega arith

documents_twice : (ds : Map Id Document) → sum document_weight ds ≤ revisions_held ds + revisions_held ds
unfolding sum document_weight revisions_held
documents_twice [] = omega arith
documents_twice (d ∷ ds) = let a = tree_twice d.1.tree in let b = documents_twice ds in omega arith

-- refused or not
write_weight : (r : Replica) (w : Write) → r.seq.0 ≤ replica_weight r → (write r w).1.seq.0 ≤ replica_weight (write r w).1
write_weight r w h =
    write_by r w (λ s. s.seq.0 ≤ replica_weight s) h (λ e n. let a = added_weight r w n in unfold added in omega arith)

writes_weight : (ws : List Write) (r : Replica) → r.seq.0 ≤ replica_weight r → (write_all ws r).seq.0 ≤ replica_weight (write_all ws r)
unfolding write_all
writes_weight [] r h = h
writes_weight (w ∷ ws) r h = writes_weight ws (write r w).1 (write_weight r w h)

-- what writes from fresh leave has a sequence of at most twice its revisions
pub seq_twice : (ws : List Write) → (write_all ws fresh).seq.0 ≤ revisions_held (write_all ws fresh).documents + revisions_held (write_all ws fresh).documents
unfolding replica_weight sum
seq_twice ws =
    let a = writes_weight ws fresh (omega arith) in let b = documents_twice (write_all ws fresh).documents in omega arith

-- a write raises the sequence by one at most
write_seq : (r : Replica) (w : Write) → (write r w).1.seq.0 ≤ suc r.seq.0
write_seq r w = write_by r w (λ s. s.seq.0 ≤ suc r.seq.0) (omega arith) (λ e n. unfold added in omega arith)

-- where a sequence is left, 8 is not answered
not_spent : (r : Replica) (w : Write) → r.seq.0 < seq_most → (write r w).0 ≡ Err SequenceSpent → ⊥
unfolding sequence_spent
not_spent r w h e = no (adds r w) (spent_only r w (refused_by r w SequenceSpent e))
  where
    no : (b : Bool) → (b && eqb r.seq.0 seq_most) ≡ true → ⊥
    no true q = let z = eqb-true r.seq.0 seq_most q in omega arith
    no false q = true≢false (sym q)

pub suffices_room : (ws : List Write) (r : Replica) → r.seq.0 + length ws ≤ seq_most → SeqSuffices ws r
suffices_room [] r h = tt
suffices_room (w ∷ ws) r h = (not_spent r w (omega arith), suffices_room ws (write r w).1 (let t = write_seq r w in omega arith))

-- ---- from fresh

suffices_from : (ws : List Write) (r : Replica) (G : Givens) → Holds r G → ((i : Id) → Closed (G i))
    → ((w : Write) → In w ws → Well w) → Compatible (things (Plus G ws)) → Fits (things (Plus G ws)) → r.seq.0 ≤ replica_weight r → SeqSuffices ws r
suffices_from [] r G a c k g f h = tt
suffices_from (w ∷ ws) r G a c k g f h = (
  not_spent r w small,
  suffices_from ws (write r w).1 (G ⊎w w) (step r w G a g1 (k w (inl refl)) f1 c (not_spent r w small)).1 (closed_w G w c) (λ v m. k v (inr m))
      (compatible_within (things (Plus (G ⊎w w) ws)) (things (Plus G (w ∷ ws))) (rest_within G w ws) g)
      (fits_within (things (Plus (G ⊎w w) ws)) (things (Plus G (w ∷ ws))) (rest_within G w ws) f)
      (write_weight r w h),
)
  where
    g1 : (i : Id) → Agrees ((G ⊎w w) i)
    g1 = agrees (G ⊎w w) (compatible_within (things (G ⊎w w)) (things (Plus G (w ∷ ws))) (one_within G w ws) g)

    f1 : Fits (things (G ⊎w w))
    f1 = fits_within (things (G ⊎w w)) (things (Plus G (w ∷ ws))) (one_within G w ws) f

    small : r.seq.0 < seq_most
    small =
        let a1 = revisions_fit r G a (fits_within (things G) (things (G ⊎w w)) (within_sub G (G ⊎w w) (λ i x m. inr m)) f1) in
        let a2 = documents_twice r.documents in
        let a3 : r.seq.0 ≤ sum document_weight r.documents = unfold replica_weight in h in
        omega arith

pub suffices_fresh : (ws : List Write) → ((w : Write) → In w ws → Well w) → Compatible (given ws) → Fits (given ws) → SeqSuffices ws fresh
unfolding replica_weight sum
suffices_fresh ws k g f =
    suffices_from ws fresh NoGivens holds_fresh closed_none k
    (compatible_within (things (Plus NoGivens ws)) (given ws) (only_given ws) g)
    (fits_within (things (Plus NoGivens ws)) (given ws) (only_given ws) f) (omega arith)
