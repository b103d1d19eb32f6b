-- `number::put2` meets its contract. Assumes nothing.
use Rattle.std.proofs.Common.{◌∙◌, ap, ◌%◌}
use Rattle.octets.specs.Splice.{splice}
use Rattle.octets.proofs.NumberLaws.{be_bytes, be_two}
use Rattle.octets.proofs.number.put2.Goals as goal

pub returns : goal.returns
returns c =
    let a = c.args in
    c.copy_in.ensures ∙ ap (splice a.s.now a.at) (c.to_be_bytes.ensures ∙ (be_bytes 2 (a.v % 65536) ∙ be_two a.v))
