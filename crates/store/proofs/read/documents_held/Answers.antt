-- `read::documents_held` meets its contract. Assumes nothing.
use mathlib.Core.Path.{◌∙◌}
use Rattle.store.proofs.EntryLaws.{standing}
use native.Mathlib.Omega.{arith}
use Rattle.store.proofs.read.documents_held.Goals as goal

pub documents-requires : goal.documents-requires
documents-requires c = let q = standing _ c.requires in omega arith

pub returns : goal.returns
returns c = c.documents.ensures.is ∙ (standing _ c.requires).documents
