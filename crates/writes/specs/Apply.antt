-- What applying a plan asks: room for what is new, and a sequence that can rise.
use Rattle.std.specs.Prelude.{List, ℕ, ◌+◌, ◌≤◌, ◌<◌}
use Rattle.rules.specs.declared.Content.{Content}
use Rattle.rules.specs.declared.RevNumber.{RevNumber}
use Rattle.rules.specs.Map.{Ascending}
use Rattle.rules.specs.Order.{order_rev}
use Rattle.rules.specs.Replica.{revisions_held}
use Rattle.rules.specs.Room.{revisions_most, hashes_most, seq_most}
use Rattle.rules.specs.Write.{count_new}
use Rattle.tree.specs.declared.table.Body.{Body}
use Rattle.store.specs.Storage.{replica_of}
use Rattle.store.specs.Documents.{documents_of, document_at, IsBody}
use Rattle.writes.specs.Path.{count_of, gives_of}

-- the m newest of a path can be added to document d, whose rows are b
pub record CanApply (s : List ℕ) (d : ℕ) (b : Body) (number : RevNumber) (path : List ℕ) (c : Content) (m : ℕ) : Type 0 where
  pub body : IsBody s d b
  pub ascending : Ascending order_rev (document_at (documents_of s) d).1.tree
  pub room : revisions_held (documents_of s) + count_new (document_at (documents_of s) d).1.tree (gives_of number path c) ≤ revisions_most
  pub newest : m ≤ count_of path
  pub most : count_of path ≤ hashes_most
  pub deep : count_of path ≤ number.0
  pub seq : (replica_of s).seq.0 < seq_most
