-- `line::put_revisions` meets its contract. Assumes nothing.
use mathlib.Core.Path.{◌≡◌}
use native.Mathlib.Omega.{arith}
use lib.ListN.{length}
use Rattle.rules.specs.Report.{text}
use Rattle.rules.specs.Room.{hash_size}
use Rattle.text.proofs.TextLaws.{length-hex, put_then, put_as}
use Rattle.puts.proofs.LineLaws.{next_size_lem, path_joined}
use borrow.Author.Rules.{rules}
use Rattle.puts.proofs.line.put_revisions.Goals as goal

pub put_hex-next-requires : goal.put_hex-next-requires
put_hex-next-requires c =
    let hash_size_lem : length c.args.rev.hash ≡ hash_size = search rules in
    omega (arith, hash_size_lem, c.put_word-h.ensures.ends, c.put_decimal-w.ensures.ends, c.put_word-n.ensures.ends, c.requires)

pub put_next-requires : goal.put_next-requires
put_next-requires c =
    let hash_size_lem : length c.args.rev.hash ≡ hash_size = search rules in
    omega (
      arith,
      hash_size_lem,
      length-hex c.args.rev.hash,
      c.put_hex-next.ensures.ends,
      c.put_word-h.ensures.ends,
      c.put_decimal-w.ensures.ends,
      c.put_word-n.ensures.ends,
      c.requires,
    )

pub returns : goal.returns
unfolding text
returns c =
    let hash_size_lem : length c.args.rev.hash ≡ hash_size = search rules in
    let v = c.args.rev in
    let size = hash_size_lem in
    let digits = length-hex v.hash in
    let rest = next_size_lem c.args.hashes.now in
    let e₅ = c.put_next.ensures.ends in
    let e₁ = c.put_word-n.ensures.ends in
    let e₂ = c.put_decimal-w.ensures.ends in
    let e₃ = c.put_word-h.ensures.ends in
    let e₄ = c.put_hex-next.ensures.ends in
    let room = c.requires in
    put_as (path_joined v _)
    (put_then
    (put_then
    (put_then (put_then c.put_word-n.ensures c.put_decimal-w.ensures (omega arith)) c.put_word-h.ensures (omega arith))
    c.put_hex-next.ensures (omega arith))
    c.put_next.ensures (omega arith))
