-- `copy_entries` meets its contract. The loop's invariant: the entries that are left, put behind those that are done,
use mathlib.Core.Path.{refl, sym, ◌∙◌}
use Prim.Native.Nat.{◌+◌, ◌-◌, ◌*◌, ◌≤◌}
use native.Mathlib.Nat.{sub-zero, mul-le-mul_right}
use native.Mathlib.Omega.{arith}
use lib.ListN.{length}
use borrow.Author.Rules.{rules}
use Rattle.rules.specs.Layout.{place_in, entry_size, row_size}
use Rattle.layout.specs.Fields.{entry_place}
use Rattle.codec.proofs.MoveLaws.{moved_on, moved_none, count_at}
use Rattle.codec.proofs.copy_entries.Goals as goal

pub loop-i-init : goal.loop-i-init
loop-i-init c = (refl, omega arith, rw sub-zero)

pub overflow_mul-place : goal.overflow_mul-place
overflow_mul-place c =
    let a = c.args in
    let m : a.step * c.rows.result ≤ row_size * c.rows.result = mul-le-mul_right c.rows.result c.requires.short in
    record { fits = omega (arith, c.rows.ensures.small) }

pub overflow_add-place : goal.overflow_add-place
overflow_add-place c =
    let a = c.args in
    let m : a.step * c.rows.result ≤ row_size * c.rows.result = mul-le-mul_right c.rows.result c.requires.short in
    record { fits = omega (arith, c.loop-i.invariant.1, c.rows.ensures.small) }

pub loop-i-preserved : goal.loop-i-preserved
loop-i-preserved c =
    let a = c.args in
    let i = c.loop-i.i in
    let r = c.rows.result in
    let m : a.step * r ≤ row_size * r = mul-le-mul_right r c.requires.short in
    let room : entry_place i + (a.d - i) * entry_size ≤ length c.loop-i.dst = omega arith in
    let there : entry_place i + (a.d - i) * entry_size ≤ length a.src.now = omega arith in (
      search rules,
      omega (arith, c.loop-i.invariant.1, c.rows.ensures.small),
      c.loop-i.invariant.2
          ∙ moved_on c.loop-i.dst a.src.now _ _ a.step c.loop-i.place (a.d - i) (a.d - (i + 1)) (entry_place i) (entry_place i + place_in) (entry_place (i + 1)) r
          (omega arith) refl (omega arith) (count_at (entry_place i) a.src.now c.rows.ensures.is) room there
          c.copy_in.ensures c.put_place.ensures.is,
    )

pub returns : goal.returns
returns c =
    let a = c.args in
    let l = c.loop-i in
    sym (l.invariant.2 ∙ moved_none l.dst a.src.now a.step l.place (a.d - l.i) (entry_place l.i) (omega arith))
