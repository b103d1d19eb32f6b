-- The leaves and the winner of document "lot", read back from the bytes that the calls wrote. Assumes nothing.
use mathlib.Core.Path.{◌≡◌, refl, sym, ap, ap₂, ◌∙◌}
use Rattle.rules.specs.declared.Refusal.{Refusal}
use Rattle.std.specs.Prelude.{Result, Ok, Err}
use mathlib.Core.List.{List, [], ◌∷◌, ◌++◌, map}
use mathlib.Core.Logic.{inl, inr}
use Rattle.std.specs.Prelude.{Option, None, Some}
use Prim.Native.Nat.{ℕ, ◌*◌, ◌/◌, ◌≤◌}
use native.Mathlib.Omega.{arith}
use borrow.Author.Tests.{le-ltb}
use lib.ListN.{length, drop, get_or-append}
use lib.Seq.{take_at}
use Rattle.rules.specs.declared.Refusal.TheVariants.{BadId, NoDocument}
use Rattle.rules.specs.Answer.{Numbered, accepted, refused, answered_number}
use Rattle.rules.specs.Bytes.{be, value, join, pieces}
use Rattle.rules.specs.Choice.{maybe, first_that}
use Rattle.rules.specs.Examples.{lot, short, shorts}
use Rattle.rules.specs.Read.{LeafOf, leaves, highest, winner, leaf_bytes, front, short_buffer, lend, reads, document_refusals, read_winner, read_leaves, first_of}
use Rattle.rules.specs.Refusal.{refusal_number}
use Rattle.rules.specs.Replica.{Id, Document, Replica, Tree, IsTree, IsReplica, HasContent, document_of, tree_of, tree_in, revisions_held}
use Rattle.rules.specs.Room.{revisions_most}
use Rattle.rules.specs.Union.{In}
use Rattle.rules.specs.Write.{is_none, bad_id}
use Rattle.rules.proofs.OrderLaws.{bytes_order}
use Rattle.rules.proofs.ByteLaws.{Sized, length-be, value_be, get_d_past, pieces_join}
use Rattle.tree.specs.Leaf.{leaf_size}
use Rattle.union.proofs.Count.{find_in}
use Rattle.union.proofs.Winners.{leaf_content, winner_top}
use Rattle.reads.proofs.TreeLaws.{leaf_size_lem, leaves_size, leaves_most}
use Rattle.refile.specs.Decode.{value_in, decode}
use Rattle.demands.specs.Played.{pair_in, pairs_in}

-- ---- one leaf

-- a leaf's bytes give its number and the first byte of its hash
pair_of : (t : Tree) → IsTree t → (a : LeafOf) → HasContent t a.rev a.content → pair_in (leaf_bytes a) ≡ short a
unfolding leaf_bytes
pair_of t h a c =
    let v = h.revisions a.rev (c.0, c.1) in
    let n = v.most in
    let z = v.size in
    let b = length-be 4 a.rev.number.0 in
    ap₂ (λ (x y : ℕ). (x, y))
    (ap value (take_at (be 4 a.rev.number.0) _ 4 b) ∙ value_be 4 a.rev.number.0 (omega arith))
    (get_d_past (be 4 a.rev.number.0) _ 4 0 b ∙ get_or-append a.rev.hash _ 0 0 (omega arith))

-- ---- all leaves of a tree

module _ (t : Tree) (h : IsTree t) where
  all_sized : (ls : List LeafOf) → ((a : LeafOf) → In a ls → HasContent t a.rev a.content) → Sized leaf_size (map leaf_bytes ls)
  all_sized [] f = tt
  all_sized (a ∷ ls) f = (leaf_size_lem t h a (f a (inl refl)), all_sized ls (λ b m. f b (inr m)))

  all_pairs : (ls : List LeafOf) → ((a : LeafOf) → In a ls → HasContent t a.rev a.content) → map pair_in (map leaf_bytes ls) ≡ shorts ls
  unfolding shorts
  all_pairs [] f = refl
  all_pairs (a ∷ ls) f =
      ap₂ (λ (x : ℕ × ℕ) (xs : List (ℕ × ℕ)). x ∷ xs) (pair_of t h a (f a (inl refl))) (all_pairs ls (λ b m. f b (inr m)))

  length-leaves : (ls : List LeafOf) → length (map leaf_bytes ls) ≡ length ls
  length-leaves [] = refl
  length-leaves (a ∷ ls) = let e = length-leaves ls in omega arith

  pairs_back : (ls : List LeafOf) (rest : List ℕ) → ((a : LeafOf) → In a ls → HasContent t a.rev a.content)
      → pairs_in (length ls) (join (map leaf_bytes ls) ++ rest) ≡ shorts ls
  unfolding pairs_in
  pairs_back ls rest f =
      ap (λ (n : ℕ). map pair_in (pieces n leaf_size (join (map leaf_bytes ls) ++ rest))) (sym (length-leaves ls))
      ∙ (ap (map pair_in) (pieces_join leaf_size (map leaf_bytes ls) rest (all_sized ls f)) ∙ all_pairs ls f)

  -- a buffer with room for every leaf of a replica
  fits : length t ≤ revisions_most → (out : List ℕ) → revisions_most * leaf_size ≤ length out → length (join (map leaf_bytes (leaves t))) ≤ length out
  fits m out r = let z = leaves_size t h in let k = leaves_most t in omega arith

  leaves_back : (x : ℕ) (out left : List ℕ) → decode x ≡ accepted (length (leaves t)) → left ≡ front (join (map leaf_bytes (leaves t))) out
      → pairs_in (value_in x) left ≡ shorts (leaves t)
  unfolding front
  leaves_back x out left d l =
      ap₂ pairs_in (ap (λ (m : Numbered). m.value) d) l ∙ pairs_back (leaves t) _ (leaf_content t h.ascending)

  -- the winner is one of them
  winner_back : (x : ℕ) (out left : List ℕ) → (o : Option LeafOf) → winner t ≡ o
      → decode x ≡ accepted (length (maybe [] leaf_bytes o)) → left ≡ front (maybe [] leaf_bytes o) out
      → first_of (pairs_in (value_in x / leaf_size) left) ≡ maybe None (λ a. Some (short a)) o
  unfolding front pairs_in pieces join shorts
  winner_back x out left None e d l =
      let n : value_in x ≡ 0 = ap (λ (m : Numbered). m.value) d in
      rw n refl
  winner_back x out left (Some a) e d l =
      let c = ((winner_top t h.ascending a).0 e).0 in
      let z = leaf_size_lem t h a c in
      let n : value_in x / leaf_size ≡ 1 = let v : value_in x ≡ length (leaf_bytes a) = ap (λ (m : Numbered). m.value) d in omega arith in
      rw (n, l, take_at (leaf_bytes a) (drop (length (leaf_bytes a)) out) leaf_size z) (ap Some (pair_of t h a c))

-- ---- the calls

-- a document's revisions are among those held
held_most : (ds : List (Id × Document)) (d : Id × Document) → In d ds → length d.1.tree ≤ revisions_held ds
unfolding revisions_held
held_most [] d m = absurd m
held_most (x ∷ ds) d (inl e) = let z : length d.1.tree ≡ length x.1.tree = ap (λ (y : Id × Document). length y.1.tree) e in omega arith
held_most (x ∷ ds) d (inr m) = let h = held_most ds d m in omega arith

tree_most : (r : Replica) → IsReplica r → (d : Document) → document_of r lot ≡ Some d → length d.tree ≤ revisions_most
unfolding document_of
tree_most r k d e = let h = held_most r.documents (lot, d) (find_in bytes_order r.documents lot d e) in let m = k.revisions_at_most in omega arith

-- a refusal's value is 0
refused_value : (x n : ℕ) → decode x ≡ refused n → value_in x ≡ 0
refused_value x n d = ap (λ (m : Numbered). m.value) d

module _ (r : Replica) (k : IsReplica r) (out : List ℕ) (room : revisions_most * leaf_size ≤ length out) where
  -- what a read of "lot" answers, of the document as it is held
  abbrev lot_read : Option Document → ℕ → List ℕ → Result ℕ Refusal × List ℕ
  lot_read o n bytes =
      lend Err out (Ok n) bytes (first_that ((bad_id lot, BadId) ∷ (is_none o, NoDocument) ∷ short_buffer bytes out ∷ []))

  -- absent, 12
  lot_absent : (n : ℕ) (bytes : List ℕ) → lot_read None n bytes ≡ (Err NoDocument, out)
  unfolding first_that bad_id
  lot_absent n bytes = refl

  -- held, and with room for it, the answer
  lot_held : (d : Document) (n : ℕ) (bytes : List ℕ) → length bytes ≤ length out → lot_read (Some d) n bytes ≡ (Ok n, front bytes out)
  unfolding first_that bad_id short_buffer
  lot_held d n bytes h = rw (le-ltb (length out) (length bytes) h)

  tree_is : (d : Document) → document_of r lot ≡ Some d → IsTree d.tree
  tree_is d e = (k.documents lot d e).tree

  pub leaves_read : (x : ℕ) (left : List ℕ) → decode x ≡ answered_number (read_leaves r lot out).0 → left ≡ (read_leaves r lot out).1
      → pairs_in (value_in x) left ≡ shorts (leaves (tree_of r lot))
  unfolding read_leaves reads document_refusals tree_of pairs_in pieces leaves shorts
  leaves_read x left = go (document_of r lot) refl
    where
      said : Option Document → Result ℕ Refusal × List ℕ
      said o = lot_read o (length (leaves (tree_in o))) (join (map leaf_bytes (leaves (tree_in o))))

      go : (o : Option Document) → document_of r lot ≡ o → decode x ≡ answered_number (said o).0 → left ≡ (said o).1 → pairs_in (value_in x) left ≡ shorts (leaves (tree_in o))
      go None e d l =
          let a = lot_absent 0 (join []) in
          rw (refused_value x (refusal_number NoDocument) (d ∙ ap (λ (z : Result ℕ Refusal × List ℕ). answered_number z.0) a)) refl
      go (Some t) e d l =
          let a = lot_held t (length (leaves t.tree)) (join (map leaf_bytes (leaves t.tree))) (fits t.tree (tree_is t e) (tree_most r k t e) out room) in
          leaves_back t.tree (tree_is t e) x out left (d ∙ ap (λ (z : Result ℕ Refusal × List ℕ). answered_number z.0) a) (l ∙ ap (λ (z : Result ℕ Refusal × List ℕ). z.1) a)

  pub winner_read : (x : ℕ) (left : List ℕ) → decode x ≡ answered_number (read_winner r lot out).0 → left ≡ (read_winner r lot out).1
      → first_of (pairs_in (value_in x / leaf_size) left) ≡ maybe None (λ a. Some (short a)) (winner (tree_of r lot))
  unfolding read_winner reads document_refusals tree_of pairs_in pieces winner highest leaves
  winner_read x left = go (document_of r lot) refl
    where
      bytes : Option Document → List ℕ
      bytes o = maybe [] leaf_bytes (winner (tree_in o))

      said : Option Document → Result ℕ Refusal × List ℕ
      said o = lot_read o (length (bytes o)) (bytes o)

      short_one : (t : Document) → IsTree t.tree → (w : Option LeafOf) → winner t.tree ≡ w → length (maybe [] leaf_bytes w) ≤ length out
      short_one t h None q = omega arith
      short_one t h (Some a) q = let z = leaf_size_lem t.tree h a ((winner_top t.tree h.ascending a).0 q).0 in omega arith

      go : (o : Option Document) → document_of r lot ≡ o → decode x ≡ answered_number (said o).0 → left ≡ (said o).1
          → first_of (pairs_in (value_in x / leaf_size) left) ≡ maybe None (λ a. Some (short a)) (winner (tree_in o))
      go None e d l =
          let a = lot_absent 0 [] in
          rw (refused_value x (refusal_number NoDocument) (d ∙ ap (λ (z : Result ℕ Refusal × List ℕ). answered_number z.0) a)) refl
      go (Some t) e d l =
          let a = lot_held t (length (bytes (Some t))) (bytes (Some t)) (short_one t (tree_is t e) (winner t.tree) refl) in
          winner_back t.tree (tree_is t e) x out left (winner t.tree) refl
          (d ∙ ap (λ (z : Result ℕ Refusal × List ℕ). answered_number z.0) a) (l ∙ ap (λ (z : Result ℕ Refusal × List ℕ). z.1) a)
