-- `plan::other_parent` meets its contract. Assumes nothing.
use borrow.Author.Rules.{rules}
use mathlib.Core.Bool.{not}
use native.Mathlib.Omega.{arith}
use mathlib.Core.Path.{◌≡◌, sym, ap, ◌∙◌}
use lib.ListN.{length}
use Rattle.rules.proofs.ByteLaws.{part_whole}
use Rattle.rules.specs.Room.{hash_size}
use Rattle.writes.proofs.PassLaws.{differ_unknown, differ_none, differ_hashes}
use Rattle.writes.proofs.plan.other_parent.Goals as goal

pub returns-in_default : goal.returns-in_default
returns-in_default c = sym (differ_unknown c.args.held c.args.given c.in_default.is)

pub returns-in_default-parent : goal.returns-in_default-parent
returns-in_default-parent c = sym (differ_none c.args.held c.args.given c.in-Some.is c.in_default-parent.is)

pub same_hashes-requires : goal.same_hashes-requires
same_hashes-requires c =
    let n : length c.in-Some.a ≡ hash_size = search rules in
    let m : length c.in-Some-parent.b ≡ hash_size = search rules in
    (omega arith, omega arith)

pub returns : goal.returns
returns c =
    let n : length c.in-Some.a ≡ hash_size = search rules in
    let m : length c.in-Some-parent.b ≡ hash_size = search rules in
    ap not (rw (part_whole c.in-Some.a hash_size n, part_whole c.in-Some-parent.b hash_size m) at c.same_hashes.ensures)
    ∙ sym (differ_hashes c.args.held c.args.given c.requires c.in-Some.is c.in-Some-parent.is)
