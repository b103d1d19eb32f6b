-- "Ordinary edit", and the refusals 9 to 11.
use Rattle.std.specs.Prelude.{Bool, false, not, ◌&&◌, ◌||◌, List, [], ◌∷◌, ◌++◌, suc, eqb}
use Rattle.std.specs.Prelude.{Result, Ok, Err}
use Rattle.std.specs.Prelude.{Option, None, Some}
use Rattle.rules.specs.declared.Content.{Content}
use Rattle.rules.specs.declared.Refusal.{Refusal}
use Rattle.rules.specs.declared.Refusal.TheVariants.{BadId, NotAParent, LastNumber, AlreadyKnown}
use Rattle.rules.specs.declared.Revision.{Revision}
use Rattle.rules.specs.declared.RevNumber.{RevNumber}
use Rattle.rules.specs.Choice.{pick, maybe, first_that}
use Rattle.rules.specs.Map.{find}
use Rattle.rules.specs.Order.{order_rev}
use Rattle.rules.specs.Read.{winner, is_live, is_deletion}
use Rattle.rules.specs.Replica.{Id, Hash, revision, Node, Tree, Replica, document_of, tree_of}
use Rattle.rules.specs.Room.{number_most}
use Rattle.rules.specs.Write.{Write, added, bad_id, is_none, room_refusals, settle}

-- "An edit gives an id, a new hash, a content and optionally a parent revision."
pub record Edit : Type 0 where
  pub id : Id
  pub hash : Hash
  pub content : Content
  pub parent : Option Revision

-- ---- the parent that an edit takes

abbrev pub content_in : Option Node → Option Content
content_in None = None
content_in (Some n) = n.content

-- "that parent must be a leaf of the document, live or deleted": a leaf is what has a content
unfoldable pub is_leaf : Tree → Revision → Bool
is_leaf t v = not (is_none (content_in (find order_rev v t)))

-- "or its winner is a deletion, which becomes the parent"
unfoldable pub deleted_winner : Tree → Option Revision
deleted_winner t = maybe None (λ w. pick (is_deletion w.content) (Some w.rev) None) (winner t)

-- "Naming none .. its winner is a deletion, which becomes the parent"
unfoldable pub parent_of : Replica → Edit → Option Revision
parent_of r e = maybe (deleted_winner (tree_of r e.id)) Some e.parent

-- "Naming a parent, that parent must be a leaf of the document"; "Naming none, the content must be
-- live, and either the document is absent .. or its winner is a deletion"
unfoldable pub parent_rule : Replica → Edit → Bool
parent_rule r e =
    maybe
    (is_live e.content && (is_none (document_of r e.id) || not (is_none (deleted_winner (tree_of r e.id)))))
    (is_leaf (tree_of r e.id))
    e.parent

-- ---- the path write that says the same

-- "the document is absent (the new revision has number 1)"; else one above the parent
unfoldable pub new_number : Replica → Edit → RevNumber
new_number r e = record { 0 = suc (maybe 0 (λ p. p.number.0) (parent_of r e)) }

-- "the path write of the new revision and its parent, if any"
unfoldable pub as_write : Replica → Edit → Write
as_write r e = record {
  id = e.id;
  number = new_number r e;
  path = e.hash ++ maybe [] (λ p. p.hash) (parent_of r e);
  content = e.content;
}

-- ---- the refusals

-- 10: "the new number and hash are known in the document"
unfoldable pub already_known : Replica → Edit → Bool
already_known r e = not (is_none (find order_rev (revision (new_number r e).0 e.hash) (tree_of r e.id)))

-- 11: "the parent's number is 4,294,967,295"
unfoldable pub last_number : Replica → Edit → Bool
last_number r e = maybe false (λ p. eqb p.number.0 number_most) (parent_of r e)

-- "An edit checks 1, 9, 11, 10, 6, 7, 8."
unfoldable pub edit_refusals : Replica → Edit → List (Bool × Refusal)
edit_refusals r e =
    (bad_id e.id, BadId)
    ∷ (not (parent_rule r e), NotAParent)
    ∷ (last_number r e, LastNumber)
    ∷ (already_known r e, AlreadyKnown)
    ∷ room_refusals r (as_write r e)

-- "An accepted edit leaves what the path write of the new revision and its parent, if any, would
-- leave, and answers the new number."
unfoldable pub edit : Replica → Edit → Result RevNumber Refusal × Replica
edit r e = settle Err r (Ok (new_number r e), added r (as_write r e)) (first_that (edit_refusals r e))
