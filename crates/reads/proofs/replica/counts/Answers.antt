-- `replica::counts` meets its contract. Assumes nothing.
use Rattle.rules.specs.Read.{held_in}
use Rattle.store.proofs.FitLaws.{stored_laid}
use Rattle.reads.proofs.replica.counts.Goals as goal

pub documents_held-documents-requires : goal.documents_held-documents-requires
documents_held-documents-requires c = stored_laid _ c.requires

pub revisions_held-revisions-requires : goal.revisions_held-revisions-requires
revisions_held-revisions-requires c = stored_laid _ c.requires

pub returns : goal.returns
unfolding held_in
returns c =
    let e = c.documents_held-documents.ensures in
    let f = c.revisions_held-revisions.ensures in
    λ i. record { documents = e i; revisions = f i }
