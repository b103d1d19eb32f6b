-- `offer_document` meets its contract. The loop's invariant: the offers of the rows below i are left, and would end as all the offers do. Assumes nothing.
use mathlib.Core.Path.{sym, ap, ◌∙◌}
use Prim.Native.Nat.{◌-◌}
use native.Mathlib.Omega.{arith}
use Rattle.rules.specs.Pull.{count}
use Rattle.store.proofs.FitLaws.{stored_laid}
use Rattle.pulls.proofs.OfferLaws.{LeafRow, left_all, row_within, left_inner, left_counted, can_count, can_offer, left_none}
use Rattle.pulls.proofs.offer_document.Goals.{After-rev_at-rev}
use Rattle.pulls.proofs.offer_document.Goals as goal

-- ---- the needs
pub id_of-id-requires : goal.id_of-id-requires
id_of-id-requires c = record { laid = stored_laid _ c.requires.source; within = c.requires.within }

pub body_of-body-requires : goal.body_of-body-requires
body_of-body-requires c = record { laid = stored_laid _ c.requires.source; within = c.requires.within }

pub loop-i-init : goal.loop-i-init
loop-i-init c = left_all c.body_of-body.ensures c.requires

pub kind_at-requires : goal.kind_at-requires
kind_at-requires c = row_within c.body_of-body.ensures c.loop-i.invariant c.loop-i-test.true

pub rev_at-rev-requires : goal.rev_at-rev-requires
rev_at-rev-requires c = row_within c.body_of-body.ensures c.loop-i.invariant c.loop-i-test.true

-- the row of a leaf
row : (c : After-rev_at-rev) → LeafRow c.args.source.now c.args.d c.body_of-body.result (c.loop-i.i - 1) c.id_of-id.result.now c.rev_at-rev.result c.in-Some.content
row c = record { named = c.id_of-id.ensures; kind = sym c.kind_at.ensures ∙ c.in-Some.is; rev = c.rev_at-rev.ensures }

pub offer_leaf-requires : goal.offer_leaf-requires
offer_leaf-requires c =
    can_offer c.body_of-body.ensures c.loop-i.invariant c.loop-i-test.true (row (goal.at.offer_leaf-requires c).After-rev_at-rev) c.requires

pub count_refused-c-requires : goal.count_refused-c-requires
count_refused-c-requires c = can_count c.body_of-body.ensures c.loop-i.invariant c.loop-i-test.true (row (goal.at.count_refused-c-requires c).After-rev_at-rev)

pub loop-i-preserved-in_default-offer_leaf : goal.loop-i-preserved-in_default-offer_leaf
loop-i-preserved-in_default-offer_leaf c =
    left_counted c.body_of-body.ensures c.loop-i.invariant c.loop-i-test.true (row (goal.at.loop-i-preserved-in_default-offer_leaf c).After-rev_at-rev) c.offer_leaf.ensures
    (c.count_refused-c.ensures _ ∙ ap (λ a. count a c.loop-i.c) (sym c.in_default-offer_leaf.is))

pub count_accepted-c-requires : goal.count_accepted-c-requires
count_accepted-c-requires c = can_count c.body_of-body.ensures c.loop-i.invariant c.loop-i-test.true (row (goal.at.count_accepted-c-requires c).After-rev_at-rev)

pub loop-i-preserved-in-Some : goal.loop-i-preserved-in-Some
loop-i-preserved-in-Some c =
    left_counted c.body_of-body.ensures c.loop-i.invariant c.loop-i-test.true (row (goal.at.loop-i-preserved-in-Some c).After-rev_at-rev) c.offer_leaf.ensures
    (c.count_accepted-c.ensures ∙ ap (λ a. count a c.loop-i.c) (sym c.in-Ok.is))

pub loop-i-preserved : goal.loop-i-preserved
loop-i-preserved c = left_inner c.body_of-body.ensures c.loop-i.invariant c.loop-i-test.true (sym c.kind_at.ensures ∙ c.in_default.is)

pub returns : goal.returns
returns c = left_none c.body_of-body.ensures c.loop-i.invariant (omega arith)
