-- `lay_out` meets its contract. Assumes nothing.
use Rattle.rules.specs.Bytes.{part}
use Rattle.codec.proofs.TakeLaws.{laid}
use Rattle.codec.proofs.lay_out.Goals as goal

pub returns : goal.returns
unfolding part
returns c =
    laid _ _ _ _ _ _ _ _ c.requires.size
    c.clear.ensures c.copy_in.ensures c.copy_entries.ensures c.copy_in-2.ensures
