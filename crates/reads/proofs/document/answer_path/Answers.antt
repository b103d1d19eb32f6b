-- `document::answer_path` meets its contract. Assumes nothing.
use mathlib.Core.Path.{◌≡◌, sym, ◌∙◌}
use mathlib.Core.Bool.{false}
use native.Mathlib.Omega.{arith}
use Rattle.rules.specs.Map.{find}
use Rattle.rules.specs.Order.{order_rev}
use Rattle.rules.specs.Write.{is_none}
use Rattle.tree.specs.Table.{tree_in}
use Rattle.reads.proofs.DocumentLaws.{path_unknown, path_short, path_answers}
use Rattle.reads.proofs.document.answer_path.Goals as goal

pub is_missing-requires : goal.is_missing-requires
is_missing-requires c = c.requires.rows

pub returns-then-is_missing : goal.returns-then-is_missing
returns-then-is_missing c = path_unknown c.requires.is _ _ (sym c.is_missing.ensures ∙ c.if-is_missing.true)

pub path_count-hashes-requires : goal.path_count-hashes-requires
path_count-hashes-requires c = c.requires.rows

pub returns-then-out-hashes : goal.returns-then-out-hashes
returns-then-out-hashes c =
    let known : is_none (find order_rev c.args.rev (tree_in c.args.body c.args.b.now)) ≡ false = sym c.is_missing.ensures ∙ c.if-is_missing.false in
    path_short c.requires.is _ _ known c.path_count-hashes.ensures.is c.if-out-hashes.true

pub put_path-requires : goal.put_path-requires
put_path-requires c = record { rows = c.requires.rows; room = omega (arith, c.path_count-hashes.ensures.is, c.if-out-hashes.false) }

pub returns : goal.returns
returns c =
    let known : is_none (find order_rev c.args.rev (tree_in c.args.body c.args.b.now)) ≡ false = sym c.is_missing.ensures ∙ c.if-is_missing.false in
    path_answers c.requires.is _ _ known c.path_count-hashes.ensures.is c.if-out-hashes.false c.put_path.ensures
