-- How long the lines of a document can be. Assumes nothing.
use mathlib.Core.Path.{◌≡◌, refl}
use mathlib.Core.List.{List, [], ◌∷◌, map}
use mathlib.Core.Logic.{inl, inr}
use Rattle.std.specs.Prelude.{Option, None, Some}
use Prim.Native.Nat.{◌*◌, ◌<◌, ◌≤◌}
use native.Mathlib.Omega.{arith}
use lib.ListN.{length, length-append}
use Rattle.rules.specs.Bytes.{join}
use Rattle.rules.specs.Read.{LeafOf, leaves}
use Rattle.rules.specs.Replica.{Id, Tree, Document, Replica, IsReplica, document_of, tree_in, tree_of}
use Rattle.rules.specs.Union.{In}
use Rattle.rules.proofs.OrderLaws.{bytes_order}
use Rattle.union.proofs.Count.{find_in}
use Rattle.union.proofs.Offers.{length-held, path_room_lem}
use Rattle.union.proofs.Winners.{leaf_content}
use Rattle.reads.proofs.TreeLaws.{leaves_most}
use Rattle.lines.specs.Put.{leaf_line, lines_text}
use Rattle.puts.proofs.LineLaws.{line_size_lem}
use Rattle.puts.proofs.LinesLaws.{line_most, line_most_lem}

-- of lines that are no longer than the longest
joined_most : (i : Id) (t : Tree) (ls : List LeafOf) → ((a : LeafOf) → In a ls → length (leaf_line i t a) ≤ line_most)
    → length (join (map (leaf_line i t) ls)) ≤ length ls * line_most
unfolding join
joined_most i t [] h = omega arith
joined_most i t (a ∷ ls) h =
    let k = h a (inl refl) in
    let l = joined_most i t ls (λ b m. h b (inr m)) in
    simp length-append (omega arith)

-- all lines of a document have fewer than 2^63 bytes
pub lines_most : (r : Replica) → IsReplica r → (i : Id) → length (lines_text i (tree_of r i)) < 9223372036854775808
unfolding tree_of lines_text leaves join document_of
lines_most r k i = go (document_of r i) refl
  where
    go : (o : Option Document) → document_of r i ≡ o → length (join (map (leaf_line i (tree_in o)) (leaves (tree_in o)))) < 9223372036854775808
    go None e = omega arith
    go (Some d) e =
        let m = find_in bytes_order r.documents i d e in
        let h = k.documents i d e in
        let each = joined_most i d.tree (leaves d.tree) (λ a n.
        let c = leaf_content d.tree h.tree.ascending a n in
        let s = line_size_lem h.tree a.rev a.content c i in
        let w = line_most_lem (length i) a.rev.number _ a.content (record { id = h.id.most; few = path_room_lem r k i d m h a c }) in
        omega arith) in
        let few = leaves_most d.tree in
        let held = length-held r.documents (i, d) m in
        let most = k.revisions_at_most in
        omega arith
