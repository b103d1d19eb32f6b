-- `is_replica` meets its contract. Assumes nothing.
use Rattle.codec.proofs.TellLaws.{not_so, not_sized, not_documents, not_revisions}
use Rattle.codec.proofs.is_replica.Goals as goal

pub returns-then-b-ne-SIZE : goal.returns-then-b-ne-SIZE
returns-then-b-ne-SIZE c = not_so (not_sized _ 0 c.if-b-ne-SIZE.true)

pub returns-then-d-gt-DOCUMENTS : goal.returns-then-d-gt-DOCUMENTS
returns-then-d-gt-DOCUMENTS c = not_so (not_documents _ _ c.documents-d.ensures.is c.if-d-gt-DOCUMENTS.true)

pub returns-then-r-gt-REVISIONS : goal.returns-then-r-gt-REVISIONS
returns-then-r-gt-REVISIONS c = not_so (not_revisions _ _ c.revisions-r.ensures.is c.if-r-gt-REVISIONS.true)

pub holds_replica-requires : goal.holds_replica-requires
holds_replica-requires c =
    record {
      size = c.if-b-ne-SIZE.false;
      documents = c.documents-d.ensures.is;
      revisions = c.revisions-r.ensures.is;
      «documents_at_most» = c.if-d-gt-DOCUMENTS.false;
      «revisions_at_most» = c.if-r-gt-REVISIONS.false;
    }
