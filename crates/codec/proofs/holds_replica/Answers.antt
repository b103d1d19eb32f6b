-- `holds_replica` meets its contract. Assumes nothing.
use mathlib.Core.Path.{refl, sym, subst, ◌∙◌, ◌≡◌}
use Prim.Native.Nat.{◌+◌, ◌-◌, ◌*◌}
use native.Mathlib.Omega.{arith}
use lib.ListN.{length-take, length-drop}
use borrow.Author.Rules.{rules}
use Rattle.rules.specs.Layout.{row_size}
use Rattle.rules.specs.Bytes.{part}
use Rattle.store.specs.Storage.{rows_place, IsStored}
use Rattle.codec.specs.Codec.{laid_out, Tells}
use Rattle.codec.proofs.TakeLaws.{bytes_all}
use Rattle.codec.proofs.TellLaws.{anew, tells_other, tells_said}
use Rattle.codec.proofs.holds_replica.Goals as goal

pub lay_out-requires : goal.lay_out-requires
lay_out-requires c = record { size = search rules; most = search rules; there = search rules; fit = simp (length-take, length-drop) (omega arith) }

pub returns-then-not-same_bytes : goal.returns-then-not-same_bytes
returns-then-not-same_bytes c =
    let laid : let a = c.args in
    c.lay_out.new.b ≡ laid_out a.d a.b.now (part rows_place (row_size * a.r) a.b.now) = anew _ _ _ (rows_place + row_size * c.args.r - rows_place) _ c.lay_out.ensures (omega arith) in
    tells_other _ _ _ c.requires _ laid (sym c.same_bytes.ensures ∙ c.if-not-same_bytes.true)

pub slice_bounds-fault-end : goal.slice_bounds-fault-end
slice_bounds-fault-end c = simp length-take (omega arith)

pub returns : goal.returns
returns c =
    let a = c.args in
    let laid : c.lay_out.new.b ≡ laid_out a.d a.b.now (part rows_place (row_size * a.r) a.b.now) =
    anew _ _ _ (rows_place + row_size * a.r - rows_place) _ c.lay_out.ensures (omega arith) in
    let h = bytes_all a.b.now (λ i. omega (arith, c.shared_slice_known-1.given i)) in
    let said = tells_said _ _ _ c.requires _ laid _ _ refl c.write_image.ensures _ c.fault.ensures h (sym c.same_bytes.ensures ∙ c.if-not-same_bytes.false) in
    subst (λ z. Tells (IsStored a.b.now) z) (sym c.is_ok.ensures.value) said
