-- `entry::id` meets its contract. Assumes nothing.
use Rattle.std.proofs.Common.{refl, ap, ℕ, ◌+◌}
use Rattle.layout.proofs.FieldLaws.{id_slice}
use Rattle.layout.proofs.entry.id.Goals as goal

pub returns : goal.returns
returns c = id_slice c.args.at c.args.s.now c.requires.most _ _ refl (ap (λ (n : ℕ). c.args.at + 1 + n) c.id_size.ensures.is)
