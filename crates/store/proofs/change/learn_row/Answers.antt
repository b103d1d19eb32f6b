-- `change::learn_row` meets its contract. Assumes nothing.
use mathlib.Core.Path.{◌≡◌, refl, ap, ◌∙◌}
use Prim.Native.Nat.{◌+◌, ◌≤◌}
use lib.ListN.{length}
use Rattle.rules.specs.Layout.{row_size}
use Rattle.tree.specs.Table.{row_start}
use Rattle.store.specs.Storage.{store_size}
use Rattle.store.proofs.BodyLaws.{body_standing}
use Rattle.store.proofs.LearnLaws.{searchable, found_within, held_same, learnt_at, can_insert, learnt_gap}
use native.Mathlib.Omega.{arith}
use Rattle.store.proofs.change.learn_row.Goals as goal

pub find-requires : goal.find-requires
find-requires c = searchable _ _ _ _ c.requires

pub row_at-held-requires : goal.row_at-held-requires
row_at-held-requires c =
    let ends : let a = c.args in (row_start a.body c.in-Ok.i + row_size ≤ length a.b.now) × (length a.b.now ≡ store_size) = let q = body_standing _ _ _ c.requires.body in
    let w = found_within _ _ _ _ c.requires c.in-Ok.i _ c.find.ensures c.in-Ok.is in
    (omega arith, q.size) in
    let e = ends in
    omega arith

pub overflow_mul-i : goal.overflow_mul-i
overflow_mul-i c =
    let ends : let a = c.args in (row_start a.body c.in-Ok.i + row_size ≤ length a.b.now) × (length a.b.now ≡ store_size) = let q = body_standing _ _ _ c.requires.body in
    let w = found_within _ _ _ _ c.requires c.in-Ok.i _ c.find.ensures c.in-Ok.is in
    (omega arith, q.size) in
    let e = ends in
    omega arith

pub overflow_add-body : goal.overflow_add-body
overflow_add-body c =
    let ends : let a = c.args in (row_start a.body c.in-Ok.i + row_size ≤ length a.b.now) × (length a.b.now ≡ store_size) = let q = body_standing _ _ _ c.requires.body in
    let w = found_within _ _ _ _ c.requires c.in-Ok.i _ c.find.ensures c.in-Ok.is in
    (omega arith, q.size) in
    let e = ends in
    omega arith

pub merged-requires : goal.merged-requires
merged-requires c = ap (λ (x : _). x.rev) c.row_at-held.ensures ∙ held_same _ _ _ _ c.requires c.in-Ok.i _ c.find.ensures c.in-Ok.is

pub put_row-requires : goal.put_row-requires
put_row-requires c =
    let ends : let a = c.args in (row_start a.body c.in-Ok.i + row_size ≤ length a.b.now) × (length a.b.now ≡ store_size) = let q = body_standing _ _ _ c.requires.body in
    let w = found_within _ _ _ _ c.requires c.in-Ok.i _ c.find.ensures c.in-Ok.is in
    (omega arith, q.size) in
    let e = ends in
    omega arith

pub insert_row_in-requires : goal.insert_row_in-requires
insert_row_in-requires c = can_insert _ _ _ _ c.requires c.in-Err.i _ c.find.ensures c.in-Err.is

pub overflow_add-result : goal.overflow_add-result
overflow_add-result c =
    let q = body_standing _ _ _ c.requires.body in
    omega arith

pub returns-in-Ok : goal.returns-in-Ok
returns-in-Ok c =
    let same = rw c.row_at-held.ensures at c.merged.ensures in
    learnt_at _ _ _ _ c.requires c.in-Ok.i _ c.find.ensures c.in-Ok.is _ _ _ refl same c.put_row.ensures

pub returns-in-Err : goal.returns-in-Err
returns-in-Err c = learnt_gap _ _ _ _ c.requires c.in-Err.i _ c.find.ensures c.in-Err.is _ _ refl refl c.insert_row_in.ensures
