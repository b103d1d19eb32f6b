-- `pull` meets its contract. The loop's invariant: the offers of the documents after s are left, and would end as the whole pull does. Assumes nothing.
use lib.ListN.{length}
use Rattle.rules.specs.Read.{documents_after}
use Rattle.store.specs.Documents.{documents_of}
use Rattle.pulls.proofs.PullLaws.{Rest}
use Rattle.pulls.proofs.pull.Given as goal

abbrev pub invariant-loop-d : goal.invariant-loop-d
invariant-loop-d l = Rest l.source l.initial.s l.initial.target l.target l.path l.s l.counts

abbrev pub decreases-loop-d : goal.decreases-loop-d
decreases-loop-d l = length (documents_after l.s (documents_of l.source))
