-- `text::put_hex` meets its contract. Assumes nothing.
use Rattle.std.proofs.Common.{◌≡◌, ◌∙◌, refl, sym, ap, length, take, List, ℕ, arith, length-set}
use lib.Seq.{take-length}
use Rattle.rules.specs.Report.{hex}
use Rattle.octets.specs.Splice.{splice}
use Rattle.octets.proofs.SpliceLaws.{splice_none}
use Rattle.text.proofs.TextLaws.{hex_step, length-hex}
use Rattle.text.proofs.put_hex.Goals as goal

pub loop-b-init : goal.loop-b-init
unfolding hex
loop-b-init c = (omega arith, refl, sym (splice_none _ _))

pub loop-b-preserved : goal.loop-b-preserved
loop-b-preserved c =
    let a = c.args in
    let l = c.loop-b in
    let step = hex_step a.s.now a.bytes.now a.at l.b-index c.loop-b-test.true l.invariant.0 c.requires l.invariant.2 c.hex_digit.ensures c.hex_digit-in-loop-b.ensures in
    (omega arith, simp length-set l.invariant.1, step)

pub returns : goal.returns
returns c =
    let l = c.loop-b in
    let a = c.args in
    let n : l.b-index ≡ length a.bytes.now = omega arith in
    let w : take l.b-index a.bytes.now ≡ a.bytes.now = rw n (take-length a.bytes.now) in
    record {
      is = l.invariant.2 ∙ ap (λ (bs : List ℕ). splice a.s.now a.at (hex bs)) w;
      ends = omega (arith, length-hex a.bytes.now);
    }
