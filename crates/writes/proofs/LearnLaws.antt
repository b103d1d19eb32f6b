-- The loop that adds a path: what is held after each revision, and that there is room for the next. Assumes nothing.
use mathlib.Core.Path.{◌≡◌, sym, ap, ap₂, ◌∙◌, subst}
use mathlib.Core.List.{List, [], ◌∷◌}
use Rattle.std.specs.Prelude.{Option, None, Some}
use Prim.Native.Nat.{ℕ, zero, suc, ◌+◌, ◌-◌, ◌≤◌, ◌<◌}
use native.Mathlib.Numerals.{add-one}
use native.Mathlib.Omega.{arith}
use lib.ListN.{length, take, drop, drop_of_length-le}
use Rattle.rules.specs.declared.Content.{Content}
use Rattle.rules.specs.declared.Revision.{Revision}
use Rattle.rules.specs.declared.RevNumber.{RevNumber}
use Rattle.rules.specs.declared.Seq.{Seq}
use Rattle.rules.specs.Choice.{pick, how_many}
use Rattle.rules.specs.Map.{Map, find, alter, Ascending}
use Rattle.rules.specs.Order.{order_rev}
use Rattle.rules.specs.Replica.{Id, Node, Tree, Document, Replica, revisions_held}
use Rattle.rules.specs.Room.{revisions_most}
use Rattle.rules.specs.Write.{Write, hashes, gives, learn, next, is_none, is_new, count_new}
use Rattle.tree.specs.declared.table.Body.{Body}
use Rattle.store.specs.Storage.{stored, replica_of}
use Rattle.store.specs.Documents.{no_document, documents_of, document_at, HasDocument, IsBody}
use Rattle.store.specs.Change.{set_tree, with_tree, with_seq, Holds, CanLearn, Learnt}
use Rattle.store.proofs.TableLaws.{length-modify}
use Rattle.writes.specs.Path.{count_of, given_at, write_of, gives_of, add_last}
use Rattle.writes.specs.Apply.{CanApply}
use Rattle.writes.proofs.PathLaws.{gives_next}
use Rattle.writes.proofs.FormLaws.{length-hashes}
use Rattle.writes.proofs.AddLaws.{Falls, falls_along, falls_drop, falls_take, above_stays, length-add_last, ascending_add_last, count_drop, count_take, next_taken}
use Rattle.writes.proofs.StateLaws.{modify_none, modify_twice, at_modify, held_tree}

-- ---- what a write gives falls

pub falls_gives : (number : RevNumber) (path : List ℕ) (c : Content) → count_of path ≤ number.0 → Falls (gives_of number path c)
unfolding gives_of gives
falls_gives number path c h =
    let w : Write = write_of [] number path c in
    falls_along number.0 (hashes w) (Some c) (let l = length-hashes w in omega arith)

-- ---- trees of one document

-- what document d of a replica becomes
module _ (r : Replica) (d : ℕ) (f : Tree → Tree) (h : d < length r.documents) where
  tree_with : (document_at (with_tree d f r).documents d).1.tree ≡ f (document_at r.documents d).1.tree
  unfolding with_tree document_at
  tree_with = ap (λ (x : Id × Document). x.1.tree) (at_modify d (set_tree f) r.documents no_document h)

  held_with : revisions_held (with_tree d f r).documents + length (document_at r.documents d).1.tree ≡ revisions_held r.documents + length (f (document_at r.documents d).1.tree)
  unfolding with_tree
  held_with = held_tree d f r.documents h

with_none : (r : Replica) (d : ℕ) → with_tree d (add_last []) r ≡ r
unfolding with_tree add_last
with_none r d = ap {B = Replica} (λ (ds : Map Id Document). record { seq = r.seq; documents = ds }) (modify_none d r.documents)

with_twice : (r : Replica) (d : ℕ) (f g : Tree → Tree) → with_tree d f (with_tree d g r) ≡ with_tree d (λ t. f (g t)) r
unfolding with_tree
with_twice r d f g = ap {B = Replica} (λ (ds : Map Id Document). record { seq = r.seq; documents = ds }) (modify_twice d (set_tree f) (set_tree g) r.documents)

-- ---- the loop

-- those from the k-th on are added
pub record Learning (r : Replica) (d : ℕ) (gs : List (Revision × Node)) (k : ℕ) (b : Body) (s : List ℕ) : Type 0 where
  pub holds : Holds (with_tree d (add_last (drop k gs)) r) s
  pub body : IsBody s d b

pub learning_start : (s : List ℕ) (d : ℕ) (b : Body) (gs : List (Revision × Node)) (k : ℕ) → length gs ≤ k → IsBody s d b → Learning (replica_of s) d gs k b s
learning_start s d b gs k h i =
    let l = i.document.laid in
    let e : with_tree d (add_last (drop k gs)) (replica_of s) ≡ replica_of s =
    ap (λ (x : List (Revision × Node)). with_tree d (add_last x) (replica_of s)) (drop_of_length-le gs h) ∙ with_none (replica_of s) d in
    record { holds = record { bytes = l.same ∙ ap stored (sym e); laid = l; means = sym e }; body = i }

module _ (r : Replica) (d : ℕ) (gs : List (Revision × Node)) (h : d < length r.documents) (falls : Falls gs)
    (ascending : Ascending order_rev (document_at r.documents d).1.tree)
    (room : revisions_held r.documents + count_new (document_at r.documents d).1.tree gs ≤ revisions_most) where
  abbrev t : Tree
  t = (document_at r.documents d).1.tree

  learning_can : (k : ℕ) (b : Body) (s : List ℕ) (v : Revision × Node) → drop k gs ≡ v ∷ drop (suc k) gs → Learning r d gs (suc k) b s → CanLearn s d b v
  unfolding count_new how_many is_new
  learning_can k b s v e l =
      let rest = drop (suc k) gs in
      let m : documents_of s ≡ (with_tree d (add_last rest) r).documents = ap (λ (x : Replica). x.documents) l.holds.means in
      let u : (document_at (documents_of s) d).1.tree ≡ add_last rest t = ap (λ (ds : Map Id Document). (document_at ds d).1.tree) m ∙ tree_with r d (add_last rest) h in
      let f : Falls (v ∷ rest) = subst Falls e (falls_drop k gs falls) in
      let n : revisions_held (documents_of s) ≡ revisions_held (with_tree d (add_last rest) r).documents = ap revisions_held m in
      let x = held_with r d (add_last rest) h in
      let y = length-add_last rest t f.1 in
      let c = count_drop t k gs in
      let g : count_new t (drop k gs) ≡ pick (is_none (find order_rev v.0 t)) 1 0 + count_new t rest = ap (count_new t) e in
      record {
        body = l.body;
        ascending = subst (Ascending order_rev) (sym u) (ascending_add_last rest t ascending);
        room = λ z.
            let a : find order_rev v.0 t ≡ None = sym (above_stays v.0 rest t f.0) ∙ (ap (find order_rev v.0) (sym u) ∙ z) in
            let o : ◌≡◌ {A = ℕ} (pick (is_none (find order_rev v.0 t)) 1 0) 1 = ap {B = ℕ} (λ (q : Option Node). pick (is_none q) 1 0) a in
            omega arith;
      }

  learning_next : (k : ℕ) (b b' : Body) (s s' : List ℕ) (v : Revision × Node) → drop k gs ≡ v ∷ drop (suc k) gs → Learning r d gs (suc k) b s → Learnt s d v b' s' → Learning r d gs k b' s'
  unfolding add_last
  learning_next k b b' s s' v e l n =
      let rest = drop (suc k) gs in
      let q : with_tree d (alter order_rev v.0 (learn v.1)) (replica_of s) ≡ with_tree d (add_last (drop k gs)) r =
      ap (with_tree d (alter order_rev v.0 (learn v.1))) l.holds.means
      ∙ (with_twice r d (alter order_rev v.0 (learn v.1)) (add_last rest) ∙ ap (λ (x : List (Revision × Node)). with_tree d (add_last x) r) (sym e)) in
      record {
        holds = record { bytes = n.holds.bytes ∙ ap stored q; laid = n.holds.laid; means = n.holds.means ∙ q };
        body = n.body;
      }

-- ---- the loop over a path

module _ {s : List ℕ} {d : ℕ} {b : Body} {number : RevNumber} {path : List ℕ} {c : Content} {m : ℕ} (can : CanApply s d b number path c m) where
  abbrev newest : List (Revision × Node)
  newest = take m (gives_of number path c)

  path_at : (k : ℕ) → k < m → drop k newest ≡ given_at number.0 path c k ∷ drop (suc k) newest
  unfolding gives_of
  path_at k h =
      next_taken k m (gives_of number path c) (given_at number.0 path c k) h
      (gives_next (write_of [] number path c) k (let n = can.newest in omega arith))

  within : d < length (replica_of s).documents
  within = can.body.document.within

  falls : Falls newest
  falls = falls_take m (gives_of number path c) (falls_gives number path c can.deep)

  room : revisions_held (replica_of s).documents + count_new (document_at (replica_of s).documents d).1.tree newest ≤ revisions_most
  room = let e = count_take (document_at (replica_of s).documents d).1.tree m (gives_of number path c) in let r = can.room in omega arith

  pub path_can : (k : ℕ) {b' : Body} {s' : List ℕ} {v : Revision × Node} → 0 < k → k ≤ m → v ≡ given_at number.0 path c (k - 1)
      → Learning (replica_of s) d newest k b' s' → CanLearn s' d b' v
  path_can zero p q e l = absurd (omega arith)
  path_can (suc k) {b'} {s'} {v} p q e l =
      let z : suc k - 1 ≡ k = omega arith in
      let f : v ≡ given_at number.0 path c k = e ∙ ap (given_at number.0 path c) z in
      learning_can (replica_of s) d newest within falls can.ascending room k b' s' v
      (path_at k (omega arith) ∙ ap (λ (x : Revision × Node). x ∷ drop (suc k) newest) (sym f)) l

  pub path_next : (k : ℕ) {b' b'' : Body} {s' s'' : List ℕ} {v : Revision × Node} → 0 < k → k ≤ m → v ≡ given_at number.0 path c (k - 1)
      → Learning (replica_of s) d newest k b' s' → Learnt s' d v b'' s'' → Learning (replica_of s) d newest (k - 1) b'' s''
  path_next zero p q e l n = absurd (omega arith)
  path_next (suc k) {b'} {b''} {s'} {s''} {v} p q e l n =
      let z : suc k - 1 ≡ k = omega arith in
      let f : v ≡ given_at number.0 path c k = e ∙ ap (given_at number.0 path c) z in
      subst (λ (j : ℕ). Learning (replica_of s) d newest j b'' s'') (sym z)
      (learning_next (replica_of s) d newest within falls can.ascending room k b' b'' s' s'' v
      (path_at k (omega arith) ∙ ap (λ (x : Revision × Node). x ∷ drop (suc k) newest) (sym f)) l n)

  pub path_end : (k : ℕ) {b' : Body} {s' : List ℕ} → k ≤ 0 → Learning (replica_of s) d newest k b' s' → Holds (with_tree d (add_last newest) (replica_of s)) s'
  path_end zero h l = l.holds
  path_end (suc k) h l = absurd (omega arith)

-- ---- the sequence after it

-- a document of r is one of what holds r with another tree
pub still_there : (r : Replica) (d : ℕ) (f : Tree → Tree) (s : List ℕ) → d < length r.documents → Holds (with_tree d f r) s → HasDocument s d
unfolding with_tree
still_there r d f s h k =
    let e : length (documents_of s) ≡ length r.documents = ap (λ (x : Replica). length x.documents) k.means ∙ length-modify d (set_tree f) r.documents in
    record { laid = k.laid; within = omega arith }

pub sequenced : (r : Replica) (d : ℕ) (f : Tree → Tree) (q : Seq) (n : ℕ) (s s' : List ℕ) → q ≡ r.seq → n ≡ q.0 + 1 → Holds (with_tree d f r) s → Holds (with_seq d (record { 0 = n }) (replica_of s)) s'
    → Holds (with_seq d (next r.seq) (with_tree d f r)) s'
sequenced r d f q n s s' e p h k =
    let m : n ≡ suc r.seq.0 = p ∙ (add-one q.0 ∙ ap (λ (x : Seq). suc x.0) e) in
    subst (λ (x : Replica). Holds x s') (ap₂ (λ (x : ℕ) (y : Replica). with_seq d (record { 0 = x }) y) m h.means) k
