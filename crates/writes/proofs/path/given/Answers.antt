-- `path::given` meets its contract. Assumes nothing.
use mathlib.Core.Path.{ap, refl}
use Rattle.std.specs.Prelude.{Some}
use Rattle.writes.specs.Path.{count_of, hash_at}
use Rattle.writes.proofs.PassLaws.{given_with, given_last}
use Rattle.writes.proofs.path.given.Goals as goal

pub returns-then-next-path : goal.returns-then-next-path
unfolding count_of hash_at
returns-then-next-path c =
    let a = c.args in
    let v = c.rev_at-rev.ensures in
    given_with a.number.0 a.path.now a.content a.k _ v c.kind_at-content.ensures c.if-next-path.true (ap Some c.get_hash.ensures.is)

pub returns : goal.returns
unfolding count_of
returns c =
    let a = c.args in
    given_last a.number.0 a.path.now a.content a.k _ c.rev_at-rev.ensures c.kind_at-content.ensures c.if-next-path.false refl
