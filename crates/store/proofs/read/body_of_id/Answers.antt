-- `read::body_of_id` meets its contract. Assumes nothing.
use mathlib.Core.Path.{sym}
use Rattle.store.proofs.BodyLaws.{looked, place_body}
use Rattle.store.proofs.read.body_of_id.Goals as goal

pub body_at-requires : goal.body_at-requires
body_at-requires c = looked c.args.id.now c.requires (sym c.find_document.ensures)

pub returns : goal.returns
returns c = place_body c.args.id.now c.requires (sym c.find_document.ensures) c.body_at.ensures
