-- The outcomes of winner, leaves and path: after the refusals 1 and 12, and on the rows of a document. Assumes nothing.
use mathlib.Core.Path.{◌≡◌, refl, sym, ◌∙◌}
use Rattle.std.specs.Prelude.{Result, Ok, Err}
use mathlib.Core.Bool.{Bool, true, false}
use mathlib.Core.List.{List, [], ◌∷◌, map}
use Rattle.std.specs.Prelude.{Option, None, Some}
use Prim.Native.Nat.{ℕ, ◌*◌, ◌≤◌, ◌<◌}
use native.Mathlib.Omega.{arith}
use lib.ListN.{length}
use Rattle.rules.specs.declared.Refusal.{Refusal}
use Rattle.rules.specs.declared.Refusal.TheVariants.{NoRevision, ShortBuffer}
use Rattle.rules.specs.declared.Revision.{Revision}
use Rattle.rules.specs.Bytes.{join}
use Rattle.rules.specs.Choice.{first_that, maybe}
use Rattle.rules.specs.Map.{find}
use Rattle.rules.specs.Order.{order_rev}
use Rattle.rules.specs.Outcome.{Does}
use Rattle.rules.specs.Read.{LeafOf, leaves, winner, leaf_bytes, path_of, is_deletion, document_refusals, read_winner, read_leaves, read_path}
use Rattle.rules.specs.Replica.{Id, Node, Tree, IsTree, tree_of}
use Rattle.rules.specs.Room.{hash_size}
use Rattle.rules.specs.Write.{is_none}
use Rattle.octets.specs.Splice.{splice}
use Rattle.tree.specs.declared.table.Body.{Body}
use Rattle.tree.specs.Leaf.{leaf_size, LeavesPut}
use Rattle.tree.specs.Path.{PathPut}
use Rattle.tree.specs.Table.{tree_in}
use Rattle.store.specs.Storage.{replica_of}
use Rattle.reads.specs.Reads.{IsOpen, Reading, winner_in, leaves_in, path_in, reading_after}
use Rattle.reads.specs.Next.{deletion_wins}
use Rattle.reads.proofs.AnswerLaws.{reads_past, reads_refused, reads_short, reads_answers}
use Rattle.reads.proofs.TreeLaws.{winner_content, leaf_size_lem, leaves_size, path_size_lem}

-- ---- the winner

-- "whether its winner is a deletion"
pub deletes : (t : Tree) {o : Option LeafOf} → o ≡ winner t → deletion_wins t ≡ maybe false (λ w. is_deletion w.content) o
unfolding deletion_wins
deletes t e = rw (sym e)

module _ (t : Tree) (out : List ℕ) where
  pub winner_none : None ≡ winner t → Does (reading_after [] (winner_in t) out) (Ok 0) out
  unfolding winner_in splice
  winner_none e = rw (sym e) (reads_answers 0 [] out 0 out (omega arith) refl refl)

  module _ (h : IsTree t) {a : LeafOf} (e : Some a ≡ winner t) where
    size : length (leaf_bytes a) ≡ leaf_size
    size = leaf_size_lem t h a (winner_content t h a (sym e))

    pub winner_short : length out < leaf_size → Does (reading_after [] (winner_in t) out) (Err ShortBuffer) out
    unfolding winner_in
    winner_short l = let z = size in rw (sym e) (reads_short (length (leaf_bytes a)) (leaf_bytes a) out (omega arith))

    pub winner_answers : {after : List ℕ} → leaf_size ≤ length out → after ≡ splice out 0 (leaf_bytes a) → Does (reading_after [] (winner_in t) out) (Ok leaf_size) after
    unfolding winner_in
    winner_answers {after} l p = let z = size in rw (sym e) (reads_answers (length (leaf_bytes a)) (leaf_bytes a) out leaf_size after (omega arith) (sym z) p)

-- ---- leaves

module _ {t : Tree} (h : IsTree t) (out : List ℕ) where
  pub leaves_short : {m : ℕ} → m ≡ length (leaves t) → length out < m * leaf_size → Does (reading_after [] (leaves_in t) out) (Err ShortBuffer) out
  unfolding leaves_in
  leaves_short e l = let z = leaves_size t h in reads_short (length (leaves t)) (join (map leaf_bytes (leaves t))) out (omega arith)

  pub leaves_answers : {m : ℕ} {after : List ℕ} → m ≡ length (leaves t) → m * leaf_size ≤ length out → LeavesPut t out after
      → Does (reading_after [] (leaves_in t) out) (Ok m) after
  unfolding leaves_in
  leaves_answers {m} {after} e l p = let z = p.size in reads_answers (length (leaves t)) (join (map leaf_bytes (leaves t))) out m after (omega arith) e p.is

  -- ---- path

  module _ (v : Revision) where
    abbrev unknown : Bool × Refusal
    unknown = (is_none (find order_rev v t), NoRevision)

    known : is_none (find order_rev v t) ≡ false → (n : Node) × (find order_rev v t ≡ Some n)
    known e = go (find order_rev v t) refl e
      where
        go : (o : Option Node) → find order_rev v t ≡ o → is_none o ≡ false → (n : Node) × (find order_rev v t ≡ Some n)
        go None q r = absurd (let z : ◌≡◌ {A = ℕ} 0 1 = cc in omega arith)
        go (Some n) q r = (n, q)

    past : is_none (find order_rev v t) ≡ false → first_that (unknown ∷ []) ≡ None
    unfolding first_that
    past e = rw e refl

    pub path_unknown : is_none (find order_rev v t) ≡ true → Does (reading_after [] (path_in v t) out) (Err NoRevision) out
    unfolding path_in first_that
    path_unknown e = reads_refused (unknown ∷ []) [] (length (path_of t v)) (join (path_of t v)) out NoRevision (rw e refl)

    pub path_short : is_none (find order_rev v t) ≡ false → {m : ℕ} → m ≡ length (path_of t v) → length out < m * hash_size
        → Does (reading_after [] (path_in v t) out) (Err ShortBuffer) out
    unfolding path_in
    path_short e q l =
        let z = path_size_lem t h v (known e) in
        rw (reads_past (unknown ∷ []) [] (length (path_of t v)) (join (path_of t v)) out (past e))
        (reads_short (length (path_of t v)) (join (path_of t v)) out (omega arith))

    pub path_answers : is_none (find order_rev v t) ≡ false → {m end : ℕ} {after : List ℕ} → m ≡ length (path_of t v) → m * hash_size ≤ length out
        → PathPut t v 0 out end after
        → Does (reading_after [] (path_in v t) out) (Ok m) after
    unfolding path_in
    path_answers e {m} {end} {after} q l p =
        let z = p.size in
        rw (reads_past (unknown ∷ []) [] (length (path_of t v)) (join (path_of t v)) out (past e))
        (reads_answers (length (path_of t v)) (join (path_of t v)) out m after (omega arith) q p.is)

-- ---- the calls

-- a call on the document i that reads of its tree what q says
pub record Reads (s : List ℕ) (i : Id) (q : Tree → Reading) (out : List ℕ) (o : Result ℕ Refusal × List ℕ) : Type 0 where
  pub is : o ≡ reading_after (document_refusals (replica_of s) i) (q (tree_of (replica_of s) i)) out

module _ (s : List ℕ) (i : Id) (out : List ℕ) where
  pub winner_reads : Reads s i winner_in out (read_winner (replica_of s) i out)
  unfolding read_winner winner_in document_refusals
  winner_reads = record { is = refl }

  pub leaves_reads : Reads s i leaves_in out (read_leaves (replica_of s) i out)
  unfolding read_leaves leaves_in document_refusals
  leaves_reads = record { is = refl }

  pub path_reads : (v : Revision) → Reads s i (path_in v) out (read_path (replica_of s) i v out)
  unfolding read_path path_in
  path_reads v = record { is = refl }

module _ {s : List ℕ} {i : Id} {q : Tree → Reading} {out : List ℕ} {o : Result ℕ Refusal × List ℕ} (call : Reads s i q out o) where
  pub read_refused : {x : Refusal} → first_that (document_refusals (replica_of s) i) ≡ Some x → Does o (Err x) out
  read_refused {x} e =
      let y = q (tree_of (replica_of s) i) in
      rw call.is (reads_refused (document_refusals (replica_of s) i) y.refusals y.count y.bytes out x e)

  pub read_opened : {b : Body} {r : Result ℕ Refusal} {after : List ℕ} → IsOpen s i b → Does (reading_after [] (q (tree_in b s)) out) r after → Does o r after
  read_opened b d =
      let y = q (tree_of (replica_of s) i) in
      rw (call.is, reads_past (document_refusals (replica_of s) i) y.refusals y.count y.bytes out b.refusals) (rw b.tree at d)
