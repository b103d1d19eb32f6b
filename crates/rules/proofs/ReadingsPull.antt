-- Readings of pull. Assumes nothing.
use mathlib.Core.Path.{◌≡◌, refl}
use mathlib.Core.List.{List, [], ◌∷◌, ◌++◌, map}
use Rattle.std.specs.Prelude.{None, Some}
use Prim.Native.Nat.{ℕ}
use lib.ListN.{replicate}
use Rattle.rules.specs.declared.Content.TheVariants.{Live}
use Rattle.rules.specs.declared.Counts.{Counts}
use Rattle.rules.specs.Bytes.{pieces, join}
use Rattle.rules.specs.Choice.{any, how_many, first_that}
use Rattle.rules.specs.Examples.{lot, hash, on}
use Rattle.rules.specs.Map.{find, alter}
use Rattle.rules.specs.Order.{order_n, order_bytes, order_rev, same_rev}
use Rattle.rules.specs.Pull.{offer, offers_of, offers_in, offers, count, take_in, pull}
use Rattle.rules.specs.Read.{leaves, ancestry, path_of, insert_by_seq, documents_after}
use Rattle.rules.specs.Replica.{Id, Replica, document_of, tree_of, revisions_held}
use Rattle.rules.specs.Union.{trees, write_all, all_from}
use Rattle.rules.specs.Write.{Write, hashes, along, gives, add_all, added, is_new, is_new_parent, count_new, count_parents, adds}
use Rattle.rules.specs.Write.{bad_id, bad_path, low_number, other_parent, other_content, documents_full, revisions_full, sequence_spent, room_refusals, write_refusals, write}
use Rattle.rules.proofs.Readings.{after, row, rev, doc, holding, lots, pair}

-- the pair of "Shortcuts that look right": 3-[70,61] on one side, 3-[70] and 2-[61] apart on the other
abbrev pub joined : Replica
joined = holding 1 (doc lot 1 (row (rev 2 0x61) None None ∷ row (rev 3 0x70) (Some (rev 2 0x61)) (Some (Live 1)) ∷ []) ∷ [])

abbrev pub apart : Replica
apart = holding 2 (doc lot 2 (row (rev 2 0x61) None (Some (Live 2)) ∷ row (rev 3 0x70) None (Some (Live 1)) ∷ []) ∷ [])

abbrev pub counts : ℕ → ℕ → ℕ → Counts
counts c u r = record { changed = c; unchanged = u; refused = r }

-- the second pulled from the first, then the first from what that left
abbrev pub both_ways : Replica → Replica → List (Counts × Replica)
both_ways a b = let there = pull all_from a b in there ∷ pull all_from there.1 a ∷ []

-- "every leaf is offered with its whole known path, also where the target knows the leaf" (the shortcut
-- "Skipping a leaf the target already knows .. they never agree"): one offer changes the one side, and
-- the offer back changes nothing. The other way round two offers change nothing, and then one joins.
pub agreed_counts : map (λ o. o.0) (both_ways joined apart ++ both_ways apart joined)
    ≡ counts 1 0 0 ∷ counts 0 1 0 ∷ counts 0 2 0 ∷ counts 1 0 0 ∷ []
unfolding pieces join any how_many first_that find alter order_n order_bytes order_rev same_rev document_of tree_of
    revisions_held hashes along gives add_all added is_new is_new_parent count_new count_parents adds bad_id bad_path low_number
    other_parent other_content documents_full revisions_full sequence_spent room_refusals write_refusals write leaves
    ancestry path_of insert_by_seq documents_after offer offers_of offers_in offers count take_in pull
agreed_counts = refl

-- both know 3-70 with its parent in the end
pub agreed_trees : map (λ o. trees o.1.documents) (both_ways joined apart ++ both_ways apart joined)
    ≡ replicate 4 (trees joined.documents)
unfolding pieces join any how_many first_that find alter order_n order_bytes order_rev same_rev document_of tree_of
    revisions_held hashes along gives add_all added is_new is_new_parent count_new count_parents adds bad_id bad_path low_number
    other_parent other_content documents_full revisions_full sequence_spent room_refusals write_refusals write leaves
    ancestry path_of insert_by_seq documents_after offer offers_of offers_in offers count take_in pull trees
agreed_trees = refl

-- "A refused offer is counted and pull goes on with the next leaf": 3-05 deleted meets 3-05 live, and
-- 2-4c comes in
pub goes_on : (pull all_from lots (after (on lot 3 (0x05 ∷ []) (Live 1) ∷ []))).0 ∷ []
    ≡ counts 1 0 1 ∷ []
unfolding pieces join any how_many first_that find alter order_n order_bytes order_rev same_rev document_of tree_of
    revisions_held hashes along gives add_all added is_new is_new_parent count_new count_parents adds bad_id bad_path low_number
    other_parent other_content documents_full revisions_full sequence_spent room_refusals write_refusals write write_all
    leaves ancestry path_of insert_by_seq documents_after offer offers_of offers_in offers count take_in pull
goes_on = refl

-- an offer's id and path
abbrev pub offer_as : Write → Id × List ℕ
offer_as w = (w.id, w.path)

-- "after a given sequence", "Documents come in order of their sequence": of `pair` after 0 bb comes
-- before a, whose leaves come highest first; after 2 only a; after 4 nothing
pub offered : map (λ s. map offer_as (offers (record { 0 = s }) pair)) (0 ∷ 2 ∷ 4 ∷ [])
    ≡ ((0x62 ∷ 0x62 ∷ [], hash 0x20) ∷ (0x61 ∷ [], hash 0x40 ++ hash 0x20) ∷ (0x61 ∷ [], hash 0x30 ++ hash 0x20) ∷ [])
    ∷ ((0x61 ∷ [], hash 0x40 ++ hash 0x20) ∷ (0x61 ∷ [], hash 0x30 ++ hash 0x20) ∷ [])
    ∷ []
    ∷ []
unfolding join find order_n order_bytes order_rev leaves ancestry path_of insert_by_seq documents_after offer offers_of
    offers_in offers
offered = refl
