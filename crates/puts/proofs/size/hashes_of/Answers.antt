-- `size::hashes_of` meets its contract. Assumes nothing.
use Rattle.puts.proofs.RootLaws.{rooted_count}
use Rattle.puts.proofs.size.hashes_of.Goals as goal

pub returns-then-rooted : goal.returns-then-rooted
returns-then-rooted c = rooted_count _ _ c.requires.rows.is (c.requires.rooted c.if-rooted.true) _ c.requires.known

pub path_count-requires : goal.path_count-requires
path_count-requires c = c.requires.rows.rows

pub returns : goal.returns
returns c = c.path_count.ensures.is
