-- Readings of the ordinary edit and its refusals. Assumes nothing.
use mathlib.Core.Path.{◌≡◌, refl}
use Rattle.rules.specs.declared.RevNumber.{RevNumber}
use Rattle.rules.specs.declared.Refusal.{Refusal}
use Rattle.std.specs.Prelude.{Result}
use mathlib.Core.List.{List, [], ◌∷◌, ◌++◌, map}
use Rattle.std.specs.Prelude.{None, Some}
use Prim.Native.Nat.{ℕ, ◌-◌}
use Rattle.rules.specs.declared.Content.{Content}
use Rattle.rules.specs.declared.Content.TheVariants.{Live, Deleted}
use Rattle.rules.specs.Answer.{edited_number}
use Rattle.rules.specs.Bytes.{pieces, join}
use Rattle.rules.specs.Choice.{any, how_many, first_that}
use Rattle.rules.specs.Edit.{Edit, is_leaf, deleted_winner, parent_of, parent_rule, new_number, as_write, already_known, last_number, edit_refusals, edit}
use Rattle.rules.specs.Examples.{lot, hash, on}
use Rattle.rules.specs.Map.{find, alter}
use Rattle.rules.specs.Order.{order_n, order_bytes, order_rev, same_rev}
use Rattle.rules.specs.Read.{leaves, order_leaf, highest, winner}
use Rattle.rules.specs.Replica.{Id, Replica, document_of, tree_of, revisions_held}
use Rattle.rules.specs.Room.{documents_most, number_most}
use Rattle.rules.specs.Union.{write_all}
use Rattle.rules.specs.Write.{hashes, along, gives, add_all, added, is_new, is_new_parent, count_new, count_parents, adds, bad_id}
use Rattle.rules.specs.Write.{bad_path, low_number, other_parent, other_content, documents_full, revisions_full, sequence_spent, room_refusals, write_refusals, write}
use Rattle.rules.proofs.Readings.{after, row, rev, shelf, spent, lots, risen}

-- an answer as its refusal's number, 0 if accepted, and the new number
abbrev pub edits : Result RevNumber Refusal → ℕ × ℕ
edits a = ((edited_number a).refusal, (edited_number a).value)

-- an edit that names a parent by number and first byte, and one that names none
abbrev pub under : Id → ℕ → ℕ → ℕ → Content → Edit
under i n p h c = record { id = i; hash = hash h; content = c; parent = Some (rev n p) }

abbrev pub alone : Id → ℕ → Content → Edit
alone i h c = record { id = i; hash = hash h; content = c; parent = None }

abbrev pub edits_on : Replica → List Edit → List (ℕ × ℕ)
edits_on r es = map (λ e. edits (edit r e).0) es

-- "Naming a parent, that parent must be a leaf of the document, live or deleted"; else 9, and so of a
-- revision with a child, an unknown one, number 0 and an absent document. 1 comes first.
pub edit_named : edits_on lots
    (under lot 3 0x05 0x77 (Live 1)
    ∷ under lot 2 0x4c 0x77 Deleted
    ∷ under lot 2 0x91 0x77 (Live 1)
    ∷ under lot 2 0x33 0x77 (Live 1)
    ∷ under lot 0 0x20 0x77 (Live 1)
    ∷ under (0x61 ∷ []) 2 0x4c 0x77 (Live 1)
    ∷ under [] 2 0x91 0x77 (Live 1)
    ∷ [])
    ≡ (0, 4) ∷ (0, 3) ∷ (9, 0) ∷ (9, 0) ∷ (9, 0) ∷ (9, 0) ∷ (1, 0) ∷ []
unfolding pieces how_many first_that find alter order_n order_bytes order_rev document_of tree_of revisions_held hashes along
    gives add_all added is_new is_new_parent count_new count_parents adds bad_id documents_full revisions_full sequence_spent
    room_refusals leaves order_leaf highest winner is_leaf deleted_winner parent_of parent_rule new_number as_write
    already_known last_number edit_refusals edit
edit_named = refl

-- "Naming none, the content must be live, and either the document is absent (the new revision has
-- number 1) or its winner is a deletion, which becomes the parent": a live winner is 9, though a
-- deleted leaf is higher
pub edit_unnamed : edits_on lots (alone (0x61 ∷ []) 0x77 (Live 1) ∷ alone (0x61 ∷ []) 0x77 Deleted ∷ alone lot 0x77 (Live 1) ∷ [])
    ++ edits_on (after (on lot 5 (0x20 ∷ []) Deleted ∷ on lot 5 (0x30 ∷ []) Deleted ∷ [])) (alone lot 0x77 (Live 1) ∷ alone lot 0x77 Deleted ∷ [])
    ≡ (0, 1) ∷ (9, 0) ∷ (9, 0) ∷ (0, 6) ∷ (9, 0) ∷ []
unfolding pieces join any how_many first_that find alter order_n order_bytes order_rev same_rev document_of tree_of
    revisions_held hashes along gives add_all added is_new is_new_parent count_new count_parents adds bad_id bad_path low_number
    other_parent other_content documents_full revisions_full sequence_spent room_refusals write_refusals write write_all
    leaves order_leaf highest winner is_leaf deleted_winner parent_of parent_rule new_number as_write already_known last_number
    edit_refusals edit
edit_unnamed = refl

-- 11 "the parent's number is 4,294,967,295", of a named parent and of a deleted winner, after 9 and
-- before 8; one lower is taken
pub edit_last : edits_on (spent (row (rev number_most 0x20) None (Some Deleted) ∷ []))
    (under lot number_most 0x20 0x77 (Live 1) ∷ alone lot 0x77 (Live 1) ∷ alone lot 0x77 Deleted ∷ under lot number_most 0x21 0x77 (Live 1) ∷ [])
    ++ edits_on (after (on lot (number_most - 1) (0x20 ∷ []) Deleted ∷ [])) (alone lot 0x77 (Live 1) ∷ [])
    ≡ (11, 0) ∷ (11, 0) ∷ (9, 0) ∷ (9, 0) ∷ (0, number_most) ∷ []
unfolding pieces join any how_many first_that find alter order_n order_bytes order_rev same_rev document_of tree_of
    revisions_held hashes along gives add_all added is_new is_new_parent count_new count_parents adds bad_id bad_path low_number
    other_parent other_content documents_full revisions_full sequence_spent room_refusals write_refusals write write_all
    leaves order_leaf highest winner is_leaf deleted_winner parent_of parent_rule new_number as_write already_known last_number
    edit_refusals edit
edit_last = refl

-- 10 "the new number and hash are known in the document" (3-05), before 8; the hash alone is nothing;
-- then 6 and 8
pub edit_known : edits_on lots (under lot 2 0x4c 0x05 (Live 1) ∷ under lot 2 0x4c 0x4c (Live 1) ∷ [])
    ++ (edits_on (spent (row (rev 2 0x4c) None (Some (Live 1)) ∷ row (rev 3 0x05) None (Some (Live 1)) ∷ [])) (under lot 2 0x4c 0x05 (Live 1) ∷ under lot 2 0x4c 0x06 (Live 1) ∷ [])
    ++ edits_on (after (shelf documents_most)) (alone lot 0x77 (Live 1) ∷ []))
    ≡ (10, 0) ∷ (0, 3) ∷ (10, 0) ∷ (8, 0) ∷ (6, 0) ∷ []
unfolding pieces join any how_many first_that find alter order_n order_bytes order_rev same_rev document_of tree_of
    revisions_held hashes along gives add_all added is_new is_new_parent count_new count_parents adds bad_id bad_path low_number
    other_parent other_content documents_full revisions_full sequence_spent room_refusals write_refusals write write_all
    leaves order_leaf highest winner is_leaf deleted_winner parent_of parent_rule new_number as_write already_known last_number
    edit_refusals edit shelf
edit_known = refl

-- "An accepted edit leaves what the path write of the new revision and its parent, if any, would leave"
pub edit_left : (edit (after (on lot 1 (0x20 ∷ []) Deleted ∷ [])) (alone lot 0x77 (Live 3))).1
    ∷ (edit (after (on lot 1 (0x20 ∷ []) Deleted ∷ [])) (under lot 1 0x20 0x77 (Live 3))).1
    ∷ (write (after (on lot 1 (0x20 ∷ []) Deleted ∷ [])) (on lot 2 (0x77 ∷ 0x20 ∷ []) (Live 3))).1
    ∷ []
    ≡ risen ∷ risen ∷ risen ∷ []
unfolding pieces join any how_many first_that find alter order_n order_bytes order_rev same_rev document_of tree_of
    revisions_held hashes along gives add_all added is_new is_new_parent count_new count_parents adds bad_id bad_path low_number
    other_parent other_content documents_full revisions_full sequence_spent room_refusals write_refusals write write_all
    leaves order_leaf highest winner is_leaf deleted_winner parent_of parent_rule new_number as_write already_known last_number
    edit_refusals edit
edit_left = refl
