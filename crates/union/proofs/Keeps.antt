-- An accepted write on any replica leaves a replica, which holds what was held and what the path gives. Assumes nothing.
use mathlib.Core.Path.{◌≡◌, refl, sym, ap, ◌∙◌, subst}
use Rattle.std.specs.declared.cmp.Ordering.TheVariants.{Less, Equal, Greater}
use Rattle.std.specs.declared.cmp.Ordering.{Ordering}
use mathlib.Core.Bool.{Bool, true, false, ◌&&◌, true≢false}
use mathlib.Core.List.{List, [], ◌∷◌}
use mathlib.Core.Logic.{inl, inr}
use Rattle.std.specs.Prelude.{Option, None, Some}
use Prim.Native.Nat.{ℕ, suc, ◌+◌, ◌/◌, ◌≤◌, ◌<◌}
use native.Mathlib.Omega.{arith}
use lib.Dec.{eqb, leb, ltb}
use lib.ListN.{length}
use borrow.Author.Tests.{ltb-false, leb-false, eqb-false}
use Rattle.rules.specs.declared.Content.{Content}
use Rattle.rules.specs.declared.Revision.{Revision}
use Rattle.rules.specs.declared.Seq.{Seq}
use Rattle.rules.specs.Bytes.{Bytes}
use Rattle.rules.specs.Map.{Map, find, alter}
use Rattle.rules.specs.Order.{order_bytes, same_rev}
use Rattle.rules.specs.Replica.{Id, Hash, Node, Tree, Document, Replica, fresh, document_of, tree_of, revisions_held, largest_seq, IsId, IsRevision, IsContent, IsReplica}
use Rattle.rules.specs.Room.{documents_most, revisions_most, id_most, hash_size, seq_most}
use Rattle.rules.specs.Union.{In, IsWrite, write_all}
use Rattle.rules.specs.Write.{Write, hashes, gives, added, adds, other_parent, other_content, agree, bad_id, low_number, is_none, documents_full, revisions_full, sequence_spent, count_new, write}
use Rattle.rules.proofs.OrderLaws.{bytes_order, same_rev_true}
use Rattle.rules.proofs.MapLaws.{none≢some, some_inj}
use Rattle.rules.proofs.ChoiceLaws.{or_left, or_right}
use Rattle.rules.proofs.GivenLaws.{agree_true, differ_same}
use Rattle.rules.proofs.ByteLaws.{Sized, AllBytes, sized_pieces, bytes_pieces}
use Rattle.union.proofs.Lists.{any_out}
use Rattle.union.proofs.Trees.{Agrees, Entry}
use Rattle.union.proofs.Paths.{Closed, Numbers, along_content, along_hash, along_numbers, along_once}
use Rattle.union.proofs.Count.{find_in, length_alter, length_alter_some}
use Rattle.union.proofs.Growth.{held_after}
use Rattle.union.proofs.Sets.{Givens, ◌⊎w◌, closed_w}
use Rattle.union.proofs.Refusals.{Passed, Well, passed}
use Rattle.union.proofs.Cases.{added_here, added_other, each_id, now, write_by}
use Rattle.union.proofs.Replicas.{Holds, holds_added, holds_quiet}
use Rattle.union.proofs.Held.{Has, Own, Sound, closed_own, document_id, document_tree, holds_own, sound_own}

-- ---- what the tests say when they fail

other_parent_out : (t : Tree) (v : Revision) (c d : Node) → Has t (v, c) → other_parent t (v, d) ≡ false
    → (p q : Revision) → c.parent ≡ Some p → d.parent ≡ Some q → p ≡ q
unfolding other_parent
other_parent_out t v c d m e p q a b = same_rev_true p q (differ_same same_rev c.parent d.parent (rw m at e) p q a b)

other_content_out : (t : Tree) (v : Revision) (c d : Node) → Has t (v, c) → other_content t (v, d) ≡ false
    → (p q : Content) → c.content ≡ Some p → d.content ≡ Some q → p ≡ q
unfolding other_content
other_content_out t v c d m e p q a b = agree_true p q (differ_same agree c.content d.content (rw m at e) p q a b)

-- ---- what a write in range gives

sized_in : (n : ℕ) (hs : List Hash) (h : Hash) → Sized n hs → In h hs → length h ≡ n
sized_in n [] h s m = absurd m
sized_in n (y ∷ ys) h s (inl q) = ap length q ∙ s.0
sized_in n (y ∷ ys) h s (inr m) = sized_in n ys h s.1 m

bytes_in : (hs : List Hash) (h : Hash) → AllBytes hs → In h hs → Bytes h
bytes_in [] h s m = absurd m
bytes_in (y ∷ ys) h s (inl q) = subst Bytes (sym q) s.0
bytes_in (y ∷ ys) h s (inr m) = bytes_in ys h s.1 m

is_id : (i : Id) → Bytes i → bad_id i ≡ false → IsId i
unfolding bad_id
is_id i b e =
    let n = eqb-false (length i) 0 (or_left (eqb (length i) 0) (ltb id_most (length i)) e) in
    let m = ltb-false id_most (length i) (or_right (eqb (length i) 0) (ltb id_most (length i)) e) in
    record { bytes = b; least = omega arith; most = m }

module _ (w : Write) (q : IsWrite w) (k : Well w) where
  numbers : (x : Entry) → In x (gives w) → Numbers x w.number.0
  unfolding gives low_number
  numbers x m = along_numbers (hashes w) w.number.0 (Some w.content) (ltb-false w.number.0 (length (hashes w)) k.number_ok) x m

  given_revision : (x : Entry) → In x (gives w) → IsRevision x.0
  unfolding gives hashes
  given_revision x m =
      let i = along_hash (hashes w) w.number.0 (Some w.content) x m in
      let n = numbers x m in
      let h = q.number in
      record {
        bytes = bytes_in (hashes w) x.0.hash (bytes_pieces (length w.path / hash_size) hash_size w.path q.path) i;
        size = sized_in hash_size (hashes w) x.0.hash (sized_pieces (length w.path / hash_size) hash_size w.path (omega arith)) i;
        least = n.low;
        most = (let t = n.high in omega arith);
      }

  given_content : (x : Entry) (c : Content) → In x (gives w) → x.1.content ≡ Some c → IsContent c
  unfolding gives
  given_content x c m e = subst IsContent (some_inj (along_content (hashes w) w.number.0 (Some w.content) x c m e)) q.content

  sound_w : (G : Givens) → Sound G → Sound (G ⊎w w)
  sound_w G s = record {
    id = λ i x m. elim m [ inl t ↦ subst IsId t.0 (is_id w.id q.id k.id_ok) | inr t ↦ s.id i x t ];
    revision = λ i x m. elim m [ inl t ↦ given_revision x t.1 | inr t ↦ s.revision i x t ];
    under = λ i x p m e. elim m [ inl t ↦ (numbers x t.1).under p e | inr t ↦ s.under i x p t e ];
    contents = λ i x c m e. elim m [ inl t ↦ given_content x c t.1 e | inr t ↦ s.contents i x c t e ];
  }

-- ---- what is held and given agrees

module _ (r : Replica) (w : Write) (k : IsReplica r) (ok : Passed r w) where
  once : (v : Revision) (c d : Node) → In (v, c) (gives w) → In (v, d) (gives w) → c ≡ d
  unfolding gives low_number
  once v c d m n = along_once (hashes w) w.number.0 (Some w.content) (ltb-false w.number.0 (length (hashes w)) ok.form.number_ok) v c d m n

  mixed_parents : (i : Id) (v : Revision) (c d : Node) → Own r i (v, c) → w.id ≡ i → In (v, d) (gives w)
      → (p q : Revision) → c.parent ≡ Some p → d.parent ≡ Some q → p ≡ q
  mixed_parents i v c d m e n =
      other_parent_out (tree_of r i) v c d m
      (subst (λ (z : Id). other_parent (tree_of r z) (v, d) ≡ false) e (any_out (other_parent (tree_of r w.id)) (gives w) (v, d) ok.four n))

  mixed_contents : (i : Id) (v : Revision) (c d : Node) → Own r i (v, c) → w.id ≡ i → In (v, d) (gives w)
      → (p q : Content) → c.content ≡ Some p → d.content ≡ Some q → p ≡ q
  mixed_contents i v c d m e n =
      other_content_out (tree_of r i) v c d m
      (subst (λ (z : Id). other_content (tree_of r z) (v, d) ≡ false) e (any_out (other_content (tree_of r w.id)) (gives w) (v, d) ok.five n))

  same_parent : (c d : Node) (p q : Revision) → c ≡ d → c.parent ≡ Some p → d.parent ≡ Some q → p ≡ q
  same_parent c d p q e a b = some_inj (sym a ∙ (ap (λ (z : Node). z.parent) e ∙ b))

  same_content : (c d : Node) (p q : Content) → c ≡ d → c.content ≡ Some p → d.content ≡ Some q → p ≡ q
  same_content c d p q e a b = some_inj (sym a ∙ (ap (λ (z : Node). z.content) e ∙ b))

  agreeing : (i : Id) → Agrees ((Own r ⊎w w) i)
  agreeing i v = record { parents = pp; contents = cs }
    where
      pp : (c d : Node) (p q : Revision) → (Own r ⊎w w) i (v, c) → (Own r ⊎w w) i (v, d) → c.parent ≡ Some p → d.parent ≡ Some q → p ≡ q
      pp c d p q (inl m) (inl n) e f = same_parent c d p q (once v c d m.1 n.1) e f
      pp c d p q (inl m) (inr n) e f = sym (mixed_parents i v d c n m.0 m.1 q p f e)
      pp c d p q (inr m) (inl n) e f = mixed_parents i v c d m n.0 n.1 p q e f
      pp c d p q (inr m) (inr n) e f = same_parent c d p q (some_inj (sym m ∙ n)) e f

      cs : (c d : Node) (p q : Content) → (Own r ⊎w w) i (v, c) → (Own r ⊎w w) i (v, d) → c.content ≡ Some p → d.content ≡ Some q → p ≡ q
      cs c d p q (inl m) (inl n) e f = same_content c d p q (once v c d m.1 n.1) e f
      cs c d p q (inl m) (inr n) e f = sym (mixed_contents i v d c n m.0 m.1 q p f e)
      cs c d p q (inr m) (inl n) e f = mixed_contents i v c d m n.0 n.1 p q e f
      cs c d p q (inr m) (inr n) e f = same_content c d p q (some_inj (sym m ∙ n)) e f

  pub holds_more : Holds (added r w) (Own r ⊎w w)
  holds_more = holds_added r w (Own r) (holds_own r k) agreeing ok.form

  pub holds_same : adds r w ≡ false → Holds r (Own r ⊎w w)
  holds_same e = holds_quiet r w (Own r) (holds_own r k) agreeing ok.form (closed_own r k) e

-- ---- the sequences

largest_alter : (i : Id) (d : Document) (n : ℕ) (ds : Map Id Document) → d.seq.0 ≡ suc n → largest_seq ds ≤ n
    → largest_seq (alter order_bytes i (λ o. d) ds) ≡ suc n
unfolding largest_seq alter
largest_alter i d n [] e h = omega arith
largest_alter i d n (x ∷ xs) e h = go (order_bytes i x.0) refl (largest_alter i d n xs e)
  where
    go : (o : Ordering) → order_bytes i x.0 ≡ o → (largest_seq xs ≤ n → largest_seq (alter order_bytes i (λ o. d) xs) ≡ suc n)
        → largest_seq (alter order_bytes i (λ o. d) (x ∷ xs)) ≡ suc n
    go Less p ih = rw p (omega arith)
    go Equal p ih = rw p (omega arith)
    go Greater p ih = rw p (let t = ih (omega arith) in omega arith)

largest_in : (ds : Map Id Document) (x : Id × Document) → In x ds → x.1.seq.0 ≤ largest_seq ds
unfolding largest_seq
largest_in [] x m = absurd m
largest_in (y ∷ ys) x (inl q) = let e : x.1.seq.0 ≡ y.1.seq.0 = ap (λ (z : Id × Document). z.1.seq.0) q in omega arith
largest_in (y ∷ ys) x (inr m) = let h = largest_in ys x m in omega arith

module _ (r : Replica) (w : Write) (k : IsReplica r) where
  seq_below : (i : Id) (d : Document) → document_of r i ≡ Some d → d.seq.0 ≤ r.seq.0
  unfolding document_of
  seq_below i d e =
      let h = largest_in r.documents (i, d) (find_in bytes_order r.documents i d e) in let t = k.seq_largest in omega arith

  -- a document afterwards is the written one or was there
  data Which (i : Id) (d : Document) : Type 0 where
    written : i ≡ w.id → d.seq.0 ≡ suc r.seq.0 → Which i d
    kept : document_of r i ≡ Some d → Which i d

  which : (i : Id) (d : Document) → document_of (added r w) i ≡ Some d → Which i d
  which i d = each_id w.id (λ j. document_of (added r w) j ≡ Some d → Which j d)
      (λ e. written refl (ap (λ (z : Document). z.seq.0) (some_inj (sym e ∙ added_here r w))))
      (λ j n e. kept (sym (added_other r w j n) ∙ e)) i

  added_least : (i : Id) (d : Document) → document_of (added r w) i ≡ Some d → 1 ≤ d.seq.0
  added_least i d e = go (which i d e)
    where
      go : Which i d → 1 ≤ d.seq.0
      go (written p s) = omega arith
      go (kept f) = (k.documents i d f).seq_least

  added_own : (i : Id) (d : Document) → document_of (added r w) i ≡ Some d → (j : Id) (e : Document) → document_of (added r w) j ≡ Some e → e.seq ≡ d.seq → j ≡ i
  added_own i d f j e g s = go (which i d f) (which j e g)
    where
      eq : e.seq.0 ≡ d.seq.0
      eq = ap (λ (z : Seq). z.0) s

      go : Which i d → Which j e → j ≡ i
      go (written p a) (written q b) = q ∙ sym p
      go (written p a) (kept b) = absurd (let h = seq_below j e b in let t = eq in omega arith)
      go (kept a) (written q b) = absurd (let h = seq_below i d a in let t = eq in omega arith)
      go (kept a) (kept b) = (k.documents i d a).seq_own j e b s

  added_largest : suc r.seq.0 ≡ largest_seq (added r w).documents
  unfolding added
  added_largest =
      sym (largest_alter w.id (now r w) r.seq.0 r.documents refl
      (let t = k.seq_largest in omega arith))

  added_documents : documents_full r w.id ≡ false → length (added r w).documents ≤ documents_most
  unfolding documents_full document_of added
  added_documents full = go (find order_bytes w.id r.documents) refl full
    where
      go : (o : Option Document) → find order_bytes w.id r.documents ≡ o → (is_none o && leb documents_most (length r.documents)) ≡ false
          → length (added r w).documents ≤ documents_most
      go None e f =
          let a = length_alter bytes_order w.id (λ o. now r w) r.documents e in
          let b = leb-false documents_most (length r.documents) f in
          omega (arith, a)
      go (Some d) e f =
          let a = length_alter_some bytes_order w.id (λ o. now r w) r.documents d e in let b = k.documents_at_most in omega (arith, a)

  added_revisions : low_number w ≡ false → revisions_full r w ≡ false → length r.documents ≤ documents_most → revisions_held (added r w).documents ≤ revisions_most
  unfolding revisions_full
  added_revisions low full h =
      let a = held_after r w low in
      let b = ltb-false revisions_most (revisions_held r.documents + count_new (tree_of r w.id) (gives w)) full in
      omega (arith, a)

-- ---- replicas stay replicas

seq_room : (b : Bool) (n : ℕ) → (b && eqb n seq_most) ≡ false → b ≡ true → n ≤ seq_most → n < seq_most
seq_room true n e q h = let t = eqb-false n seq_most e in omega arith
seq_room false n e q h = absurd (true≢false (sym q))

pub added_keeps : (r : Replica) (w : Write) → IsReplica r → IsWrite w → Passed r w → adds r w ≡ true → IsReplica (added r w)
unfolding sequence_spent
added_keeps r w k q ok new =
    record {
      ascending = holds.ascending;
      documents = λ i d e. record {
        id = document_id (added r w) (Own r ⊎w w) holds closed sound i d e;
        tree = document_tree (added r w) (Own r ⊎w w) holds closed sound i d e;
        seq_least = added_least r w k i d e;
        seq_own = added_own r w k i d e;
      };
      documents_at_most = added_documents r w k ok.six;
      revisions_at_most = added_revisions r w k ok.form.number_ok ok.seven k.documents_at_most;
      seq_largest = (unfold added in added_largest r w k);
      seq_at_most = (unfold added in seq_room (adds r w) r.seq.0 ok.eight new k.seq_at_most);
    }
  where
    holds : Holds (added r w) (Own r ⊎w w)
    holds = holds_more r w k ok

    closed : (i : Id) → Closed ((Own r ⊎w w) i)
    closed = closed_w (Own r) w (closed_own r k)

    sound : Sound (Own r ⊎w w)
    sound = sound_w w q ok.form (Own r) (sound_own r k)

pub write_keeps : (r : Replica) (w : Write) → IsReplica r → IsWrite w → IsReplica (write r w).1
write_keeps r w k q = write_by r w IsReplica k (λ e a. added_keeps r w k q (passed r w e) a)

pub fresh_is_replica : IsReplica fresh
unfolding document_of find revisions_held largest_seq
fresh_is_replica = record {
  ascending = tt;
  documents = λ i d e. absurd (none≢some e);
  documents_at_most = omega arith;
  revisions_at_most = omega arith;
  seq_largest = refl;
  seq_at_most = omega arith;
}

pub writes_keep : (ws : List Write) → ((w : Write) → In w ws → IsWrite w) → (r : Replica) → IsReplica r → IsReplica (write_all ws r)
unfolding write_all
writes_keep [] h r k = k
writes_keep (w ∷ ws) h r k = writes_keep ws (λ v m. h v (inr m)) (write r w).1 (write_keeps r w k (h w (inl refl)))
