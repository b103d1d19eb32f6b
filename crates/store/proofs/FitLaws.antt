-- A replica can be laid out. Assumes nothing.
use mathlib.Core.Path.{◌≡◌, refl, sym, ap, ◌∙◌}
use Rattle.std.specs.declared.cmp.Ordering.TheVariants.{Less, Equal, Greater}
use Rattle.std.specs.declared.cmp.Ordering.{Ordering}
use Rattle.std.specs.Prelude.{Option, None, Some}
use Prim.Native.Nat.{ℕ, pred, ◌≤◌}
use native.Mathlib.Omega.{arith}
use mathlib.Core.List.{List, [], ◌∷◌}
use Rattle.rules.specs.declared.Content.{Content}
use Rattle.rules.specs.declared.Revision.{Revision}
use Rattle.rules.specs.Map.{Map, find, Below, Ascending}
use Rattle.rules.specs.Order.{order_rev}
use Rattle.rules.specs.Replica.{Id, Node, Tree, Document, Replica, document_of, largest_seq, IsTree, IsDocument, IsReplica}
use Rattle.rules.specs.Room.{seq_most}
use Rattle.rules.proofs.OrderLaws.{TotalOrder, bytes_order, rev_order}
use Rattle.rules.proofs.MapLaws.{none≢some, find_eq, find_gt, find_below}
use Rattle.tree.specs.Rows.{FitsParent, FitsContent, FitsRow}
use Rattle.store.specs.Storage.{All, FitsDocument, Storable, Laid, IsStored}

-- what holds of all that is found holds of all that is listed
module _ {K A : Type 0} (O : TotalOrder K) where
  below_trans : (j k : K) (xs : Map K A) → O.cmp j k ≡ Less → Below O.cmp k xs → Below O.cmp j xs
  below_trans j k [] e b = tt
  below_trans j k (x ∷ xs) e b = O.trans j k x.0 e b

  find_rest : (x : K × A) (xs : Map K A) (k : K) (a : A) → Below O.cmp x.0 xs → find O.cmp k xs ≡ Some a → find O.cmp k (x ∷ xs) ≡ Some a
  find_rest x xs k a b e = go (O.cmp k x.0) refl
    where
      go : (o : Ordering) → O.cmp k x.0 ≡ o → find O.cmp k (x ∷ xs) ≡ Some a
      go Less p = absurd (none≢some (sym (find_below O k xs (below_trans k x.0 xs p b)) ∙ e))
      go Equal p = absurd (none≢some (sym (find_below O k xs (rw (O.same k x.0 p) b)) ∙ e))
      go Greater p = find_gt O k x xs p ∙ e

  pub all_found : (P : K × A → Type 0) (xs : Map K A) → Ascending O.cmp xs → ((k : K) (a : A) → find O.cmp k xs ≡ Some a → P (k, a)) → All P xs
  all_found P [] s f = tt
  all_found P (x ∷ xs) s f =
      (f x.0 x.1 (find_eq O x.0 x xs (O.self x.0)), all_found P xs s.1 (λ k a e. f k a (find_rest x xs k a s.0 e)))

tree_fits : (t : Tree) → IsTree t → All FitsRow t
tree_fits t h = all_found rev_order FitsRow t h.ascending (λ v n e. record {
  number = omega (arith, (h.revisions v (n, e)).most);
  hash = (h.revisions v (n, e)).size;
  parent = parent v n e n.parent refl;
  content = content v n e n.content refl;
})
  where
    parent : (v : Revision) (n : Node) → find order_rev v t ≡ Some n → (p : Option Revision) → n.parent ≡ p → FitsParent v p
    parent v n e None q = tt
    parent v n e (Some p) q =
        let k = h.parents v p (n, e, q) in
        (ap pred (h.lower v p (n, e, q)), (h.revisions p k).size)

    content : (v : Revision) (n : Node) → find order_rev v t ≡ Some n → (c : Option Content) → n.content ≡ c → FitsContent c
    content v n e None q = tt
    content v n e (Some c) q = h.contents v c (n, e, q)

-- no own sequence is above the largest
seqs_most : (ds : Map Id Document) (m : ℕ) → largest_seq ds ≤ m → All (λ (d : Id × Document). d.1.seq.0 ≤ m) ds
unfolding largest_seq
seqs_most [] m h = tt
seqs_most (d ∷ ds) m h = (omega arith, seqs_most ds m (omega arith))

both : {A : Type 0} {P Q R : A → Type 0} → ((x : A) → P x → Q x → R x) → (xs : List A) → All P xs → All Q xs → All R xs
both f [] h k = tt
both f (x ∷ xs) h k = (f x h.0 k.0, both f xs h.1 k.1)

pub replica_fits : (r : Replica) → IsReplica r → Storable r
unfolding document_of
replica_fits r h = record {
  documents = both document r.documents
      (all_found bytes_order (λ (d : Id × Document). IsDocument r d.0 d.1) r.documents h.ascending h.documents)
      (seqs_most r.documents seq_most (omega (arith, h.seq_largest, h.seq_at_most)));
  «documents_at_most» = h.documents_at_most;
  «revisions_at_most» = h.revisions_at_most;
  «seq_at_most» = h.seq_at_most;
}
  where
    document : (d : Id × Document) → IsDocument r d.0 d.1 → d.1.seq.0 ≤ seq_most → FitsDocument d
    document d k q = record { id = k.id.most; seq = q; rows = tree_fits d.1.tree k.tree }

pub stored_laid : (s : List ℕ) → IsStored s → Laid s
stored_laid s h = record { same = h.same; fits = replica_fits _ h.replica }
