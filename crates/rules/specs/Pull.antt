-- "Pull".
use Rattle.std.specs.Prelude.{List, [], ◌∷◌, ◌++◌, map, suc}
use Rattle.rules.specs.declared.Refusal.{Refusal}
use Rattle.rules.specs.declared.Outcome.{Outcome}
use Rattle.std.specs.Prelude.{Result, Ok, Err}
use Rattle.rules.specs.declared.Counts.{Counts}
use Rattle.rules.specs.declared.Outcome.TheVariants.{Changed, Unchanged}
use Rattle.rules.specs.declared.Seq.{Seq}
use Rattle.rules.specs.Bytes.{join}
use Rattle.rules.specs.Read.{LeafOf, leaves, path_of, documents_after}
use Rattle.rules.specs.Replica.{Id, Tree, Document, Replica}
use Rattle.rules.specs.Write.{Write, write}

-- "every leaf is offered with its whole known path, also where the target knows the leaf"
unfoldable pub offer : Id → Tree → LeafOf → Write
offer i t a = record { id = i; number = a.rev.number; path = join (path_of t a.rev); content = a.content }

-- "leaves of each highest first"
unfoldable pub offers_of : Id × Document → List Write
offers_of d = map (offer d.0 d.1.tree) (leaves d.1.tree)

unfoldable pub offers_in : List (Id × Document) → List Write
offers_in [] = []
offers_in (d ∷ ds) = offers_of d ++ offers_in ds

-- "Documents come in order of their sequence"
unfoldable pub offers : Seq → Replica → List Write
offers s source = offers_in (documents_after s source.documents)

-- "The answer has three counts: changed, unchanged, refused."
unfoldable pub count : Result Outcome Refusal → Counts → Counts
count (Ok Changed) c = record { changed = suc c.changed; unchanged = c.unchanged; refused = c.refused }
count (Ok Unchanged) c = record { changed = c.changed; unchanged = suc c.unchanged; refused = c.refused }
count (Err n) c = record { changed = c.changed; unchanged = c.unchanged; refused = suc c.refused }

abbrev pub no_counts : Counts
no_counts = record { changed = 0; unchanged = 0; refused = 0 }

-- the offers one by one; "A refused offer is counted and pull goes on with the next leaf."
unfoldable pub take_in : List Write → Counts × Replica → Counts × Replica
take_in [] s = s
take_in (w ∷ ws) s = let o = write s.1 w in take_in ws (count o.0 s.0, o.1)

-- "Pull reads a source replica after a given sequence and writes a target."
unfoldable pub pull : Seq → Replica → Replica → Counts × Replica
pull s source target = take_in (offers s source) (no_counts, target)
