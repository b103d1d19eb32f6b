-- The changes of a write one after the other: documents by index, and how many revisions are held. Assumes nothing.
use mathlib.Core.Path.{◌≡◌, refl, sym, ap, ◌∙◌}
use mathlib.Core.List.{List, [], ◌∷◌}
use Rattle.std.specs.Prelude.{Option, Some}
use Prim.Native.Nat.{ℕ, zero, suc, ◌+◌, ◌≤◌, ◌<◌}
use native.Mathlib.Nat.{not-suc-le-zero, le_of_suc-le-suc}
use native.Mathlib.Omega.{arith}
use lib.ListN.{length, get_or}
use Rattle.rules.specs.declared.Seq.{Seq}
use Rattle.rules.specs.Map.{Map, alter}
use Rattle.rules.specs.Order.{order_bytes}
use Rattle.rules.specs.Replica.{Id, Tree, Document, Replica, document_of, tree_in, tree_of, revisions_held}
use Rattle.rules.specs.Write.{Write, gives, add_all, next, added}
use Rattle.tree.specs.Table.{insert_at}
use Rattle.store.specs.Change.{modify, blank, with_document, set_seq, with_seq, set_tree, with_tree}
use Rattle.store.specs.Documents.{no_document, document_at}
use Rattle.store.proofs.PlaceLaws.{IsAt, IsGap}

-- ---- lists changed at one place

module _ {A : Type 0} where
  pub modify_none : (d : ℕ) (xs : List A) → modify d (λ x. x) xs ≡ xs
  unfolding modify
  modify_none d [] = refl
  modify_none zero (x ∷ xs) = refl
  modify_none (suc d) (x ∷ xs) = ap (λ (l : List A). x ∷ l) (modify_none d xs)

  pub modify_twice : (d : ℕ) (f g : A → A) (xs : List A) → modify d f (modify d g xs) ≡ modify d (λ x. f (g x)) xs
  unfolding modify
  modify_twice d f g [] = refl
  modify_twice zero f g (x ∷ xs) = refl
  modify_twice (suc d) f g (x ∷ xs) = ap (λ (l : List A). x ∷ l) (modify_twice d f g xs)

  -- only what stands there matters
  modify_here : (d : ℕ) (f g : A → A) (xs : List A) (x : A) → f (get_or xs d x) ≡ g (get_or xs d x) → modify d f xs ≡ modify d g xs
  unfolding modify
  modify_here d f g [] x e = refl
  modify_here zero f g (y ∷ xs) x e = ap (λ (z : A). z ∷ xs) e
  modify_here (suc d) f g (y ∷ xs) x e = ap (λ (l : List A). y ∷ l) (modify_here d f g xs x e)

  pub at_modify : (d : ℕ) (f : A → A) (xs : List A) (x : A) → d < length xs → get_or (modify d f xs) d x ≡ f (get_or xs d x)
  unfolding modify
  at_modify d f [] x h = absurd (not-suc-le-zero h)
  at_modify zero f (y ∷ xs) x h = refl
  at_modify (suc d) f (y ∷ xs) x h = at_modify d f xs x (le_of_suc-le-suc h)

  modify_insert : (d : ℕ) (f : A → A) (x : A) (xs : List A) → d ≤ length xs → modify d f (insert_at d x xs) ≡ insert_at d (f x) xs
  unfolding modify insert_at
  modify_insert zero f x xs h = refl
  modify_insert (suc d) f x [] h = absurd (not-suc-le-zero h)
  modify_insert (suc d) f x (y ∷ xs) h = ap (λ (l : List A). y ∷ l) (modify_insert d f x xs (le_of_suc-le-suc h))

  pub at_insert : (d : ℕ) (x : A) (xs : List A) (y : A) → d ≤ length xs → get_or (insert_at d x xs) d y ≡ x
  unfolding insert_at
  at_insert zero x xs y h = refl
  at_insert (suc d) x [] y h = absurd (not-suc-le-zero h)
  at_insert (suc d) x (z ∷ xs) y h = at_insert d x xs y (le_of_suc-le-suc h)

-- ---- revisions held

pub held_tree : (d : ℕ) (f : Tree → Tree) (ds : Map Id Document) → d < length ds
    → revisions_held (modify d (set_tree f) ds) + length (document_at ds d).1.tree ≡ revisions_held ds + length (f (document_at ds d).1.tree)
unfolding modify revisions_held document_at
held_tree d f [] h = absurd (not-suc-le-zero h)
held_tree zero f (x ∷ ds) h = omega arith
held_tree (suc d) f (x ∷ ds) h = let i = held_tree d f ds (le_of_suc-le-suc h) in omega arith

pub held_blank : (d : ℕ) (i : Id) (ds : Map Id Document) → d ≤ length ds → revisions_held (insert_at d (blank i) ds) ≡ revisions_held ds
unfolding insert_at revisions_held
held_blank zero i ds h = omega arith
held_blank (suc d) i [] h = absurd (not-suc-le-zero h)
held_blank (suc d) i (x ∷ ds) h = ap (λ (n : ℕ). length x.1.tree + n) (held_blank d i ds (le_of_suc-le-suc h))

-- ---- what a write adds, by index

-- document d of r is the one of the write, and t is what its tree becomes
module _ (r : Replica) (w : Write) (d : ℕ) (f : Tree → Tree) where
  abbrev q : Seq
  q = next r.seq

  abbrev F : Option Document → Document
  F o = record { seq = q; tree = add_all (gives w) (tree_of r w.id) }

  abbrev both : Id × Document → Id × Document
  both x = (x.0, record { seq = q; tree = f x.1.tree })

  pub held_tree_of : IsAt d w.id r.documents → tree_of r w.id ≡ (document_at r.documents d).1.tree
  unfolding tree_of document_of
  held_tree_of a = ap tree_in a.found

  pub none_tree_of : IsGap d w.id r.documents → tree_of r w.id ≡ []
  unfolding tree_of document_of
  none_tree_of a = ap tree_in a.found

  -- a document that is held
  pub added_held : IsAt d w.id r.documents → f (document_at r.documents d).1.tree ≡ add_all (gives w) (tree_of r w.id)
      → with_seq d q (with_tree d f r) ≡ added r w
  unfolding with_seq with_tree added document_at
  added_held a e =
      let m : modify d (set_seq q) (modify d (set_tree f) r.documents) ≡ alter order_bytes w.id F r.documents =
      modify_twice d (set_seq q) (set_tree f) r.documents
      ∙ (modify_here d both (λ x. (x.0, F (Some x.1))) r.documents no_document
      (ap {B = Id × Document} (λ (t : Tree). ((get_or r.documents d no_document).0, record { seq = q; tree = t })) e)
      ∙ sym (a.altered F)) in
      ap {B = Replica} (λ (ds : Map Id Document). record { seq = q; documents = ds }) m

  -- a document that is not
  pub added_new : IsGap d w.id r.documents → f [] ≡ add_all (gives w) (tree_of r w.id)
      → with_seq d q (with_tree d f (with_document d w.id r)) ≡ added r w
  unfolding with_seq with_tree with_document added
  added_new a e =
      let m : modify d (set_seq q) (modify d (set_tree f) (insert_at d (blank w.id) r.documents)) ≡ alter order_bytes w.id F r.documents =
      modify_twice d (set_seq q) (set_tree f) (insert_at d (blank w.id) r.documents)
      ∙ (modify_insert d both (blank w.id) r.documents a.within
      ∙ (ap (λ (t : Tree). insert_at d (w.id, record { seq = q; tree = t }) r.documents) e ∙ sym (a.altered F))) in
      ap {B = Replica} (λ (ds : Map Id Document). record { seq = q; documents = ds }) m
