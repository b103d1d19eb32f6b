-- `pull` meets its contract. The loop's invariant: the offers of the documents after s are left, and would end as the whole pull does. Assumes nothing.
use mathlib.Core.Path.{sym}
use Prim.Native.Nat.{ℕ}
use lib.ListN.{length-replicate}
use Rattle.pulls.specs.Pulls.{path_room}
use Rattle.pulls.proofs.PullLaws.{rest_all, rest_none, rest_falls, can_all, rest_more}
use Rattle.pulls.proofs.pull.Goals as goal

pub loop-d-init : goal.loop-d-init
loop-d-init c = rest_all c.requires (length-replicate {A = ℕ} path_room 0)

pub next_after-requires : goal.next_after-requires
next_after-requires c = c.requires.source

pub returns : goal.returns
returns c = rest_none c.requires c.loop-d.invariant c.next_after.ensures c.in_default.is

pub slice_bounds-offer_document-end : goal.slice_bounds-offer_document-end
slice_bounds-offer_document-end c = sym c.loop-d.invariant.room

pub offer_document-counts-requires : goal.offer_document-counts-requires
offer_document-counts-requires c = can_all c.requires c.loop-d.invariant c.next_after.ensures c.in-Some.is

pub loop-d-smaller : goal.loop-d-smaller
loop-d-smaller c = rest_falls c.requires c.loop-d.invariant c.next_after.ensures c.in-Some.is

pub loop-d-preserved : goal.loop-d-preserved
loop-d-preserved c = rest_more c.requires c.loop-d.invariant c.next_after.ensures c.in-Some.is c.offer_document-counts.ensures
