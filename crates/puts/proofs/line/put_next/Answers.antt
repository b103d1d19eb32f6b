-- `line::put_next` meets its contract. Assumes nothing.
use mathlib.Core.Path.{refl, ap, ◌∙◌}
use Prim.Native.Nat.{◌+◌}
use native.Mathlib.Omega.{arith}
use Rattle.std.proofs.lemmas.List.{take_all}
use Rattle.rules.specs.Bytes.{pieces}
use Rattle.rules.specs.Report.{text}
use Rattle.rules.specs.Room.{hash_size}
use Rattle.text.proofs.TextLaws.{length-hex, put_then, put_as}
use Rattle.reads.proofs.ChunkLaws.{walk_begins, chunk_is, chunk_within, walk_goes_on, walk_ends}
use Rattle.puts.specs.Puts.{next_texts}
use Rattle.puts.proofs.LineLaws.{next_none, next_piece}
use Rattle.puts.proofs.line.put_next.Goals as goal

pub loop-hash-init : goal.loop-hash-init
loop-hash-init c =
    rw c.into_iter-hash-iterator.ensures.into_iter_gives (0, walk_begins hash_size c.args.hashes.now refl c.chunks_exact-hash-items.ensures.size (c.chunks_exact-hash-items.ensures.rest ∙ search (take_all, arith)), omega arith, next_none _ _ _)

pub put_word-h-requires : goal.put_word-h-requires
put_word-h-requires c =
    let k = c.in-Some.ensures.steps in
    let w = c.loop-hash.invariant in
    let more = chunk_within w.1 _ _ k.1.0 k.1.1 in
    let room = c.requires in
    let n = w.2 in
    omega arith

pub put_hex-next-requires : goal.put_hex-next-requires
put_hex-next-requires c =
    let k = c.in-Some.ensures.steps in
    let w = c.loop-hash.invariant in
    let more = chunk_within w.1 _ _ k.1.0 k.1.1 in
    let long = k.1.1 ∙ w.1.same in
    let mid = c.put_word-h.ensures.ends in
    let room = c.requires in
    let n = w.2 in
    omega arith

pub loop-hash-preserved : goal.loop-hash-preserved
unfolding text
loop-hash-preserved c =
    let k = c.in-Some.ensures.steps in
    let w = c.loop-hash.invariant in
    let more = chunk_within w.1 _ _ k.1.0 k.1.1 in
    let long = k.1.1 ∙ w.1.same in
    let digits = length-hex c.in-Some.hash.now in
    let mid = c.put_word-h.ensures.ends in
    let ends = c.put_hex-next.ensures.ends in
    let room = c.requires in
    let n = w.2 in (
      w.0 + 1,
      walk_goes_on w.1 _ _ k.1.0 k.1.1 refl k.0,
      omega arith,
      put_as (next_piece c.args.hashes.now w.0 (chunk_is w.1 _ _ k.1.0 k.1.1))
          (put_then (put_then w.3 c.put_word-h.ensures (omega arith)) c.put_hex-next.ensures (omega arith)),
    )

pub returns : goal.returns
returns c =
    let k = c.in-None.ensures.steps in
    let w = c.loop-hash.invariant in
    put_as (ap (λ k. next_texts (pieces k hash_size c.args.hashes.now)) (walk_ends w.1 k.1.0)) w.3
