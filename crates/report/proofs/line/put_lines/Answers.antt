-- `report::line::put_lines` meets its contract. Assumes nothing.
use mathlib.Core.Path.{◌≡◌, refl, ap}
use native.Mathlib.Omega.{arith}
use lib.ListN.{length}
use lib.Seq.{take-length}
use Rattle.store.specs.Documents.{documents_of}
use Rattle.store.proofs.FitLaws.{stored_laid}
use Rattle.report.specs.Lines.{lines_text}
use Rattle.text.proofs.TextLaws.{put_then, put_as}
use Rattle.report.proofs.StandingLaws.{lines_none, lines_more}
use Rattle.report.proofs.line.put_lines.Goals as goal

pub documents_held-n-requires : goal.documents_held-n-requires
documents_held-n-requires c = stored_laid _ c.requires.stored

pub loop-d-init : goal.loop-d-init
loop-d-init c = let a = c.args in (omega arith, refl, lines_none (documents_of a.b.now) a.s.now a.at)

pub put_line-next-requires : goal.put_line-next-requires
put_line-next-requires c =
    let n = c.documents_held-n.ensures in
    record {
      stored = c.requires.stored;
      within = omega (arith, n, c.loop-d-test.true);
      room = omega (arith, n, c.loop-d-test.true, c.loop-d.invariant.0, c.loop-d.invariant.1, c.requires.room);
    }

pub loop-d-preserved : goal.loop-d-preserved
loop-d-preserved c =
    let n = c.documents_held-n.ensures in
    let ds = documents_of c.args.b.now in (
      omega (arith, c.loop-d.invariant.0, c.put_line-next.ensures.most),
      omega arith,
      put_as (lines_more ds c.loop-d.d (omega (arith, n, c.loop-d-test.true)))
          (put_then c.loop-d.invariant.2 c.put_line-next.ensures.put
          (omega (arith, n, c.loop-d-test.true, c.loop-d.invariant.0, c.put_line-next.ensures.most, c.requires.room))),
    )

pub returns : goal.returns
returns c =
    let ds = documents_of c.args.b.now in
    let n : c.loop-d.d ≡ length ds = omega (arith, c.documents_held-n.ensures, c.loop-d.auto.d-end, c.loop-d-test.false) in
    record { put = put_as (ap lines_text (rw n (take-length ds))) c.loop-d.invariant.2; most = omega (arith, c.loop-d.invariant.0) }
