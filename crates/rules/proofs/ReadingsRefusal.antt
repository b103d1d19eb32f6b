-- Readings of the refusals 1 to 8, of their numbers and of their order. Assumes nothing.
use mathlib.Core.Path.{◌≡◌, refl}
use mathlib.Core.List.{[], ◌∷◌, ◌++◌, map}
use Rattle.std.specs.Prelude.{None, Some}
use Prim.Native.Nat.{ℕ, ◌+◌, ◌-◌, ◌*◌}
use lib.ListN.{replicate}
use Rattle.rules.specs.declared.Content.TheVariants.{Live, Deleted}
use Rattle.rules.specs.declared.Fault.TheVariants.{TooShort, BadEdition, BadHead, BadContents, BadSequence, BadRow, BadParent}
use Rattle.rules.specs.declared.Refusal.TheVariants.{BadId, BadPath, LowNumber, OtherParent, OtherContent, DocumentsFull, RevisionsFull, SequenceSpent}
use Rattle.rules.specs.declared.Refusal.TheVariants.{NotAParent, AlreadyKnown, LastNumber, NoDocument, NoRevision, ShortBuffer, BadAsked}
use Rattle.rules.specs.declared.Refusal.TheVariants.{NotJson, BadMember, OtherRevisions, UnwritableId}
use Rattle.rules.specs.Bytes.{pieces, join}
use Rattle.rules.specs.Choice.{any, how_many, first_that}
use Rattle.rules.specs.Examples.{lot, on}
use Rattle.rules.specs.Map.{find, alter}
use Rattle.rules.specs.Order.{order_n, order_bytes, order_rev, same_rev}
use Rattle.rules.specs.Refusal.{refusal_number, fault_number}
use Rattle.rules.specs.Replica.{fresh, document_of, tree_of, revisions_held}
use Rattle.rules.specs.Room.{documents_most, revisions_most, hashes_most, id_most, hash_size, number_most}
use Rattle.rules.specs.Union.{write_all}
use Rattle.rules.specs.Write.{Write, hashes, along, gives, add_all, added, is_new, is_new_parent, count_new, count_parents, adds}
use Rattle.rules.specs.Write.{bad_id, bad_path, low_number, other_parent, other_content, documents_full, revisions_full, sequence_spent, room_refusals, write_refusals, write}
use Rattle.rules.proofs.Readings.{after, tries, row, rev, shelf, trunk, spent, forked}

-- "Refusal numbers": 1 to 15, and of an image 20 to 26
pub the_numbers : map refusal_number
    (BadId ∷ BadPath ∷ LowNumber ∷ OtherParent ∷ OtherContent ∷ DocumentsFull ∷ RevisionsFull ∷ SequenceSpent
    ∷ NotAParent ∷ AlreadyKnown ∷ LastNumber ∷ NoDocument ∷ NoRevision ∷ ShortBuffer ∷ BadAsked
    ∷ NotJson ∷ BadMember ∷ OtherRevisions ∷ UnwritableId ∷ [])
    ≡ 1 ∷ 2 ∷ 3 ∷ 4 ∷ 5 ∷ 6 ∷ 7 ∷ 8 ∷ 9 ∷ 10 ∷ 11 ∷ 12 ∷ 13 ∷ 14 ∷ 15 ∷ 40 ∷ 41 ∷ 42 ∷ 43 ∷ []
the_numbers = refl

pub the_fault_numbers : map fault_number (TooShort ∷ BadEdition ∷ BadHead ∷ BadContents ∷ BadSequence ∷ BadRow ∷ BadParent ∷ [])
    ≡ 20 ∷ 21 ∷ 22 ∷ 23 ∷ 24 ∷ 25 ∷ 26 ∷ []
the_fault_numbers = refl

-- a write of an id of so many bytes, a number and so many path bytes
abbrev pub formed : ℕ × ℕ × ℕ → Write
formed f = record { id = replicate f.0 0x61; number = record { 0 = f.1 }; path = replicate f.2 0; content = Live 0 }

-- the bytes of the longest path, and of one hash more
abbrev pub longest : ℕ
longest = hash_size * hashes_most

abbrev pub too_long : ℕ
too_long = hash_size * (hashes_most + 1)

-- 1 "id empty or over 32 bytes", 2 "path bytes not a multiple of 16, or not 1 to 512 hashes",
-- 3 "number smaller than the count of hashes", in that order where several hold
pub form : tries fresh
    (map formed
    ((0, 0, 15) ∷ (id_most + 1, 0, 15) ∷ (1, 0, 15) ∷ (1, 0, 16) ∷ (1, 1, 16) ∷ (id_most, 1, 16) ∷ (1, 0, 0)
    ∷ (1, 0, 17) ∷ (1, 1, 2 * hash_size) ∷ (1, 2, 2 * hash_size) ∷ (1, number_most, 16) ∷ (1, number_most, too_long)
    ∷ (1, hashes_most, too_long) ∷ (1, hashes_most - 1, longest) ∷ []))
    ≡ (1, 0) ∷ (1, 0) ∷ (2, 0) ∷ (3, 0) ∷ (0, 1) ∷ (0, 1) ∷ (2, 0) ∷ (2, 0) ∷ (3, 0) ∷ (0, 1) ∷ (0, 1) ∷ (2, 0) ∷ (2, 0) ∷ (3, 0) ∷ []
unfolding pieces any how_many first_that find alter order_n order_bytes order_rev same_rev document_of tree_of revisions_held
    hashes along gives add_all added is_new is_new_parent count_new count_parents adds bad_id bad_path low_number other_parent
    other_content documents_full revisions_full sequence_spent room_refusals write_refusals write
form = refl

-- 4 "a revision of the path has a known parent other than the one the path gives it (the oldest is
-- given none, so never counts)", before 5. The first is the shortcut "Joining histories only at the
-- deepest common number .. a crossed parent above it goes unnoticed".
pub parents : tries forked
    (on lot 4 (0xee ∷ 0xaa ∷ 0xdd ∷ 0xcc ∷ []) (Live 3)
    ∷ on lot 3 (0xaa ∷ 0xdd ∷ 0xcc ∷ []) (Live 1)
    ∷ on lot 3 (0xaa ∷ 0xdd ∷ []) (Live 9)
    ∷ on lot 3 (0xaa ∷ []) (Live 1)
    ∷ on lot 4 (0xee ∷ 0xaa ∷ []) (Live 3)
    ∷ on lot 3 (0xff ∷ 0xdd ∷ []) (Live 3)
    ∷ [])
    ≡ (4, 0) ∷ (4, 0) ∷ (4, 0) ∷ (0, 0) ∷ (0, 1) ∷ (0, 1) ∷ []
unfolding pieces join any how_many first_that find alter order_n order_bytes order_rev same_rev document_of tree_of
    revisions_held hashes along gives add_all added is_new is_new_parent count_new count_parents adds bad_id bad_path low_number
    other_parent other_content documents_full revisions_full sequence_spent room_refusals write_refusals write
parents = refl

-- 5 "the newest is a known leaf with another content"; "If it is known and has a child, the given
-- content is dropped"; an older revision of the path is given no content, so never counts
pub contents : tries forked
    (on lot 3 (0xaa ∷ []) (Live 2)
    ∷ on lot 3 (0xaa ∷ 0xbb ∷ 0xcc ∷ []) Deleted
    ∷ on lot 2 (0xdd ∷ []) (Live 2)
    ∷ on lot 2 (0xbb ∷ 0xcc ∷ []) Deleted
    ∷ on lot 1 (0xcc ∷ []) (Live 77)
    ∷ on lot 3 (0xee ∷ 0xdd ∷ 0xcc ∷ []) Deleted
    ∷ [])
    ≡ (5, 0) ∷ (5, 0) ∷ (0, 0) ∷ (0, 0) ∷ (0, 0) ∷ (0, 1) ∷ []
unfolding pieces join any how_many first_that find alter order_n order_bytes order_rev same_rev document_of tree_of
    revisions_held hashes along gives add_all added is_new is_new_parent count_new count_parents adds bad_id bad_path low_number
    other_parent other_content documents_full revisions_full sequence_spent room_refusals write_refusals write
contents = refl

-- "Label 0 is an ordinary label": it is no deletion
pub label_zero : tries (after (on lot 1 (0x20 ∷ []) (Live 0) ∷ [])) (on lot 1 (0x20 ∷ []) (Live 0) ∷ on lot 1 (0x20 ∷ []) Deleted ∷ [])
    ++ tries (after (on lot 1 (0x20 ∷ []) Deleted ∷ [])) (on lot 1 (0x20 ∷ []) (Live 0) ∷ on lot 1 (0x20 ∷ []) Deleted ∷ [])
    ≡ (0, 0) ∷ (5, 0) ∷ (5, 0) ∷ (0, 0) ∷ []
unfolding pieces join any how_many first_that find alter order_n order_bytes order_rev same_rev document_of tree_of
    revisions_held hashes along gives add_all added is_new is_new_parent count_new count_parents adds bad_id bad_path low_number
    other_parent other_content documents_full revisions_full sequence_spent room_refusals write_refusals write write_all
label_zero = refl

-- 6 "document absent and 32 documents held": not with one fewer, and not where the document is held; before 7
pub documents_room : tries (after (shelf documents_most))
    (on lot 1 (0x20 ∷ []) (Live 1)
    ∷ on ((documents_most - 1) ∷ []) 2 (0x30 ∷ 0x20 ∷ []) (Live 2)
    ∷ on (0 ∷ []) 1 (0x20 ∷ []) (Live 1)
    ∷ on (0 ∷ []) 1 (0x20 ∷ []) (Live 2)
    ∷ trunk (revisions_most - documents_most + 1)
    ∷ [])
    ++ tries (after (shelf (documents_most - 1))) (on lot 1 (0x20 ∷ []) (Live 1) ∷ [])
    ≡ (6, 0) ∷ (0, 1) ∷ (0, 0) ∷ (5, 0) ∷ (6, 0) ∷ (0, 1) ∷ []
unfolding pieces join any how_many first_that find alter order_n order_bytes order_rev same_rev document_of tree_of
    revisions_held hashes along gives add_all added is_new is_new_parent count_new count_parents adds bad_id bad_path low_number
    other_parent other_content documents_full revisions_full sequence_spent room_refusals write_refusals write write_all shelf
documents_room = refl

-- 7 "revisions held plus new ones exceed 512": the known one of a path doesn't count
pub revisions_room : tries (after (trunk (revisions_most - 1) ∷ []))
    (on lot revisions_most (0x02 ∷ 0x01 ∷ []) (Live 1) ∷ on lot (revisions_most + 1) (0x02 ∷ 0x02 ∷ 0x01 ∷ []) (Live 1) ∷ [])
    ≡ (0, 1) ∷ (7, 0) ∷ []
unfolding pieces join any how_many first_that find alter order_n order_bytes order_rev same_rev document_of tree_of
    revisions_held hashes along gives add_all added is_new is_new_parent count_new count_parents adds bad_id bad_path low_number
    other_parent other_content documents_full revisions_full sequence_spent room_refusals write_refusals write write_all
revisions_room = refl

-- 8 "something would be added and the sequence is 4,294,967,295", after 4 to 7; a parent alone is an addition
pub sequence_spent_lem : tries (spent (row (rev 1 0x20) None None ∷ row (rev 2 0x61) (Some (rev 1 0x20)) (Some (Live 2)) ∷ row (rev 3 0x70) None (Some (Live 1)) ∷ []))
    (on lot 1 (0x30 ∷ []) (Live 1)
    ∷ on lot 3 (0x70 ∷ 0x61 ∷ []) (Live 1)
    ∷ on lot 3 (0x70 ∷ []) (Live 1)
    ∷ on lot 1 (0x20 ∷ []) Deleted
    ∷ on lot 2 (0x61 ∷ 0x21 ∷ []) (Live 2)
    ∷ on lot 3 (0x70 ∷ 0x61 ∷ []) (Live 2)
    ∷ on (0x61 ∷ []) 1 (0x20 ∷ []) (Live 1)
    ∷ trunk hashes_most
    ∷ [])
    ≡ (8, 0) ∷ (8, 0) ∷ (0, 0) ∷ (0, 0) ∷ (4, 0) ∷ (5, 0) ∷ (8, 0) ∷ (7, 0) ∷ []
unfolding pieces join any how_many first_that find alter order_n order_bytes order_rev same_rev document_of tree_of
    revisions_held hashes along gives add_all added is_new is_new_parent count_new count_parents adds bad_id bad_path low_number
    other_parent other_content documents_full revisions_full sequence_spent room_refusals write_refusals write
sequence_spent_lem = refl
