-- `check_content` meets its contract. Assumes nothing.
use Rattle.refile.proofs.ChangeLaws.{content_live, content_kind_lem, content_label_lem, content_deleted}
use Rattle.refile.proofs.change.check_content.Goals as goal

pub returns-then-kind-eq-LIVE : goal.returns-then-kind-eq-LIVE
returns-then-kind-eq-LIVE c = content_live _ _ c.if-kind-eq-LIVE.true

pub returns-then-kind-ne-DELETED : goal.returns-then-kind-ne-DELETED
returns-then-kind-ne-DELETED c = content_kind_lem _ _ c.if-kind-eq-LIVE.false c.if-kind-ne-DELETED.true

pub returns-then-label-ne0 : goal.returns-then-label-ne0
returns-then-label-ne0 c = content_label_lem _ _ c.if-kind-ne-DELETED.false c.if-label-ne0.true

pub returns : goal.returns
returns c = content_deleted _ _ c.if-kind-ne-DELETED.false c.if-label-ne0.false
