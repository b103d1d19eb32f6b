-- `document::put_missing` meets its contract. Assumes nothing.
use mathlib.Core.Path.{◌≡◌}
use Rattle.rules.specs.Read.{asked_size}
use Rattle.octets.specs.Splice.{splice}
use Rattle.tree.specs.Table.{tree_in}
use Rattle.reads.proofs.ChunkLaws.{Walked}
use Rattle.reads.proofs.MissingLaws.{bytes_to}
use Rattle.reads.proofs.document.put_missing.Given as goal

abbrev pub invariant-loop-i : goal.invariant-loop-i
invariant-loop-i l = let it = l.i-iterator in
    Walked asked_size l.asked it.count it.iter.size it.iter.rest.now × (l.out ≡ splice l.initial.out 0 (bytes_to (tree_in l.body l.b) l.asked it.count))
