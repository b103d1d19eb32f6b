-- `parent_from` meets its contract. Assumes nothing.
use native.Mathlib.Omega.{arith}
use Rattle.refile.proofs.ChangeLaws.{parent_is, parent_is_none}
use Rattle.refile.proofs.change.parent_from.Goals as goal

pub returns-then-named-ne1 : goal.returns-then-named-ne1
returns-then-named-ne1 c = parent_is_none _ _ c.if-named-ne1.true

pub get_hash-hash-requires : goal.get_hash-hash-requires
get_hash-hash-requires c = let s = c.requires c.if-named-ne1.false in omega arith

pub returns : goal.returns
returns c = parent_is _ _ _ _ c.if-named-ne1.false (c.requires c.if-named-ne1.false) c.get_hash-hash.ensures
