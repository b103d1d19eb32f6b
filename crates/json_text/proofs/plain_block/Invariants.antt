-- `json_text::plain_block` meets its contract. The loop's invariant: if no other byte was met, those passed are plain.
use Prim.Native.Nat.{◌+◌}
use Rattle.json_text.specs.Skips.{PlainTo, IfSo}
use Rattle.json_text.proofs.plain_block.Given as goal

abbrev pub invariant-loop-b : goal.invariant-loop-b
invariant-loop-b l = IfSo (PlainTo l.s l.at (l.at + l.b-index)) l.plain
