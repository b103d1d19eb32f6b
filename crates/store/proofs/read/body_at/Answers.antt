-- `read::body_at` meets its contract. Assumes nothing.
use mathlib.Core.Path.{sym, ap, ◌∙◌, subst}
use Rattle.store.specs.Documents.{documents_of, body_at, Looked}
use Rattle.store.proofs.BodyLaws.{body_is}
use Rattle.store.proofs.read.body_at.Goals as goal

pub body_of-requires : goal.body_of-requires
body_of-requires c = subst (Looked c.args.b.now) c.in-Ok.is c.requires

pub returns-in-Ok : goal.returns-in-Ok
returns-in-Ok c =
    let a = c.args in
    body_is _ _ _ c.body_of.ensures ∙ ap (body_at (documents_of a.b.now)) (sym c.in-Ok.is)

pub returns-in-Err : goal.returns-in-Err
returns-in-Err c = ap (body_at (documents_of c.args.b.now)) (sym c.in-Err.is)
