-- Readings of what a write leaves. Assumes nothing.
use mathlib.Core.Path.{◌≡◌, refl}
use mathlib.Core.List.{[], ◌∷◌}
use Rattle.std.specs.Prelude.{None, Some}
use Rattle.rules.specs.declared.Content.TheVariants.{Live, Deleted}
use Rattle.rules.specs.Bytes.{pieces, join}
use Rattle.rules.specs.Choice.{any, how_many, first_that}
use Rattle.rules.specs.Examples.{lot, on}
use Rattle.rules.specs.Map.{find, alter}
use Rattle.rules.specs.Order.{order_n, order_bytes, order_rev, same_rev}
use Rattle.rules.specs.Replica.{document_of, tree_of, revisions_held}
use Rattle.rules.specs.Union.{write_all}
use Rattle.rules.specs.Write.{hashes, along, gives, add_all, added, is_new, is_new_parent, count_new, count_parents, adds, bad_id}
use Rattle.rules.specs.Write.{bad_path, low_number, other_parent, other_content, documents_full, revisions_full, sequence_spent, room_refusals, write_refusals, write}
use Rattle.rules.proofs.Readings.{after, row, rev, doc, holding}

-- "Learning only a parent is a change", and the parent that gains a child loses its content:
-- 2-61 has no leaf's content any more, and the sequence rose by one
pub learnt_parent : after (on lot 3 (0x70 ∷ []) (Live 1) ∷ on lot 2 (0x61 ∷ []) (Live 2) ∷ on lot 3 (0x70 ∷ 0x61 ∷ []) (Live 1) ∷ [])
    ≡ holding 3 (doc lot 3 (row (rev 2 0x61) None None ∷ row (rev 3 0x70) (Some (rev 2 0x61)) (Some (Live 1)) ∷ []) ∷ [])
unfolding pieces join any how_many first_that find alter order_n order_bytes order_rev same_rev document_of tree_of
    revisions_held hashes along gives add_all added is_new is_new_parent count_new count_parents adds bad_id bad_path low_number
    other_parent other_content documents_full revisions_full sequence_spent room_refusals write_refusals write write_all
learnt_parent = refl

-- "If it is known and has a child, the given content is dropped", also where the write adds a parent
pub dropped_content : tree_of (after (on lot 4 (0x80 ∷ 0x70 ∷ []) (Live 1) ∷ on lot 3 (0x70 ∷ 0x61 ∷ []) (Live 9) ∷ [])) lot
    ≡ row (rev 2 0x61) None None
    ∷ row (rev 3 0x70) (Some (rev 2 0x61)) None
    ∷ row (rev 4 0x80) (Some (rev 3 0x70)) (Some (Live 1))
    ∷ []
unfolding pieces join any how_many first_that find alter order_n order_bytes order_rev same_rev document_of tree_of
    revisions_held hashes along gives add_all added is_new is_new_parent count_new count_parents adds bad_id bad_path low_number
    other_parent other_content documents_full revisions_full sequence_spent room_refusals write_refusals write write_all
dropped_content = refl

-- "A write to one document changes no answer about another document's .. own sequence"; "the document
-- takes the new value". Ids `a` and `a` with a zero byte are two documents, the prefix first.
pub other_document : after (on (0x61 ∷ 0 ∷ []) 1 (0x20 ∷ []) (Live 1) ∷ on (0x61 ∷ []) 1 (0x20 ∷ []) Deleted ∷ on (0x61 ∷ 0 ∷ []) 1 (0x20 ∷ []) (Live 1) ∷ [])
    ≡ holding 2
    (doc (0x61 ∷ []) 2 (row (rev 1 0x20) None (Some Deleted) ∷ [])
    ∷ doc (0x61 ∷ 0 ∷ []) 1 (row (rev 1 0x20) None (Some (Live 1)) ∷ [])
    ∷ [])
unfolding pieces join any how_many first_that find alter order_n order_bytes order_rev same_rev document_of tree_of
    revisions_held hashes along gives add_all added is_new is_new_parent count_new count_parents adds bad_id bad_path low_number
    other_parent other_content documents_full revisions_full sequence_spent room_refusals write_refusals write write_all
other_document = refl
