-- `read::find_document` meets its contract. What is left to search gives the same answer. Assumes nothing.
use mathlib.Core.Path.{◌≡◌}
use lib.ListN.{drop}
use Rattle.store.specs.Documents.{documents_of, place_of_id}
use Rattle.store.proofs.read.find_document.Given as goal

abbrev pub invariant-loop-d : goal.invariant-loop-d
invariant-loop-d l = place_of_id 0 l.id (documents_of l.b) ≡ place_of_id l.d l.id (drop l.d (documents_of l.b))
