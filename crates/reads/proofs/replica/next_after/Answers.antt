-- `replica::next_after` meets its contract. Assumes nothing.
use mathlib.Core.Path.{◌≡◌}
use Prim.Native.Nat.{◌-◌}
use native.Mathlib.Omega.{arith}
use Rattle.store.proofs.FitLaws.{stored_laid}
use Rattle.reads.proofs.NextLaws.{next_none, next_more}
use Rattle.reads.proofs.replica.next_after.Goals as goal

pub documents_held-d-requires : goal.documents_held-d-requires
documents_held-d-requires c = stored_laid _ c.requires

pub loop-d-init : goal.loop-d-init
loop-d-init c = next_none _ _ _ c.documents_held-d.ensures

pub own_sequence-requires : goal.own_sequence-requires
own_sequence-requires c = record { laid = stored_laid _ c.requires; within = omega (arith, c.documents_held-d.ensures) }

pub loop-d-preserved : goal.loop-d-preserved
loop-d-preserved c =
    next_more _ _ (c.loop-d.d - 1) c.loop-d.found (omega arith) (omega (arith, c.documents_held-d.ensures)) c.own_sequence.ensures c.earlier-found.ensures c.loop-d.invariant

pub returns : goal.returns
returns c = let l = c.loop-d in let e : l.d ≡ 0 = omega arith in rw e at l.invariant
