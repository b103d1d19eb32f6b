-- `document::put_missing` meets its contract. Assumes nothing.
use mathlib.Core.Path.{ap, ◌∙◌}
use native.Mathlib.Omega.{arith}
use Rattle.rules.specs.Read.{asked_size, asked_rev}
use Rattle.reads.proofs.ChunkLaws.{walk_begins, chunk_is, chunk_within, walk_goes_on, walk_ends}
use Rattle.reads.proofs.MissingLaws.{missing_none, missing_more, missing_all}
use Rattle.reads.proofs.document.put_missing.Goals as goal

pub loop-i-init : goal.loop-i-init
loop-i-init c = rw c.into_iter-i-iterator.ensures.into_iter_gives (walk_begins asked_size c.args.asked.now c.enumerate-i-items.ensures.count (cc) (cc), rw c.enumerate-i-items.ensures.count (missing_none _ _ _))

pub loop-i-preserved : goal.loop-i-preserved
loop-i-preserved c =
    let w = c.loop-i.invariant in
    let k = c.in-Some.ensures.steps in (
      walk_goes_on w.0 _ _ k.0.1.0 k.0.1.1 k.2 k.0.0,
      rw (k.2, k.1)
          (missing_more _ _ _ _ _ _ _ (omega (arith, chunk_within w.0 _ _ k.0.1.0 k.0.1.1, c.requires.room)) w.1
          (c.asked_rev.ensures ∙ ap asked_rev (chunk_is w.0 _ _ k.0.1.0 k.0.1.1)) c.missing_byte.ensures),
    )

pub returns : goal.returns
returns c =
    let w = c.loop-i.invariant in
    let k = c.in-None.ensures.steps in
    record { is = missing_all _ _ _ _ _ (walk_ends w.0 k.0.1.0) w.1 }
