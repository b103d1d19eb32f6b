-- `report::line::put_standing` meets its contract. Assumes nothing.
use native.Mathlib.Omega.{arith}
use Rattle.rules.specs.Replica.{Tree}
use Rattle.rules.specs.Report.{text}
use Rattle.tree.specs.Table.{tree_in}
use Rattle.tree.proofs.TableLaws.{length-tree}
use Rattle.reads.proofs.TreeLaws.{leaves_most}
use Rattle.text.proofs.TextLaws.{put_then, put_as}
use Rattle.report.proofs.StandingLaws.{some_winner, winner_rev_lem, standing_joined}
use Rattle.report.proofs.WinnerLaws.{conflict_count}
use Rattle.report.proofs.line.put_standing.Goals as goal

pub unwrap-top-requires : goal.unwrap-top-requires
unwrap-top-requires c = some_winner c.requires.rows.is c.winner_of.ensures

pub put_counts-requires : goal.put_counts-requires
put_counts-requires c =
    let t : Tree = tree_in c.args.body c.args.b.now in
    let k = conflict_count t c.requires.rows.is in
    let l = leaves_most t in
    let m = length-tree c.args.body.base c.args.body.rows c.args.b.now in
    let n = c.leaf_count.ensures in
    record {
      least = omega arith;
      most = omega (arith, c.requires.most);
      room = omega (arith, c.requires.room, c.put_word-w.ensures.ends, c.put_rev-c.ensures.most);
    }

pub returns : goal.returns
unfolding text
returns c =
    let t : Tree = tree_in c.args.body c.args.b.now in
    record {
      put =
          put_as (standing_joined t (winner_rev_lem _ c.winner_of.ensures c.unwrap-top.ensures) c.leaf_count.ensures)
          (put_then (put_then c.put_word-w.ensures c.put_rev-c.ensures.put (omega arith)) c.put_counts.ensures.put (omega arith));
      most = omega arith;
    }
