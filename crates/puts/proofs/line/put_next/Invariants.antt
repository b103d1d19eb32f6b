-- `line::put_next` meets its contract. Assumes nothing.
use mathlib.Core.Path.{◌≡◌}
use Prim.Native.Nat.{ℕ, ◌+◌, ◌*◌}
use Rattle.rules.specs.Bytes.{pieces}
use Rattle.rules.specs.Room.{hash_size}
use Rattle.text.specs.Text.{Put}
use Rattle.reads.proofs.ChunkLaws.{Walked}
use Rattle.puts.specs.Puts.{next_texts, next_size}
use Rattle.puts.proofs.line.put_next.Given as goal

-- k hashes are put out
abbrev pub invariant-loop-hash : goal.invariant-loop-hash
invariant-loop-hash l = let it = l.hash-iterator in
    (k : ℕ) × Walked hash_size l.hashes k it.size it.rest.now × (l.next ≡ l.at + k * next_size)
    × Put (next_texts (pieces k hash_size l.hashes)) l.initial.s l.at l.next l.s
