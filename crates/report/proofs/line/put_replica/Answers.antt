-- `report::line::put_replica` meets its contract. Assumes nothing.
use native.Mathlib.Omega.{arith}
use Rattle.store.specs.Storage.{replica_of}
use Rattle.store.proofs.FitLaws.{stored_laid}
use Rattle.text.proofs.TextLaws.{put_then, put_as}
use Rattle.report.proofs.StandingLaws.{replica_joined}
use Rattle.report.proofs.line.put_replica.Goals as goal

pub put_head-next-requires : goal.put_head-next-requires
put_head-next-requires c = record { laid = stored_laid _ c.requires.stored; room = omega (arith, c.requires.room) }

pub put_lines-requires : goal.put_lines-requires
put_lines-requires c = record { stored = c.requires.stored; room = omega (arith, c.requires.room, c.requires.stored.replica.documents_at_most, c.put_head-next.ensures.most) }

pub returns : goal.returns
returns c =
    let m = c.requires.stored.replica.documents_at_most in
    record {
      put =
          put_as (replica_joined (replica_of c.args.b.now))
          (put_then c.put_head-next.ensures.put c.put_lines.ensures.put (omega (arith, c.requires.room)));
      most = omega arith;
    }
