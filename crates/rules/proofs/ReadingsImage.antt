-- Readings of the stored image and its faults. Assumes nothing.
use mathlib.Core.Path.{◌≡◌, refl}
use Rattle.rules.specs.declared.Fault.{Fault}
use Rattle.std.specs.Prelude.{Result, Ok, Err}
use mathlib.Core.List.{List, [], ◌∷◌, ◌++◌, map}
use Rattle.std.specs.Prelude.{None, Some}
use Prim.Native.Nat.{ℕ, ◌+◌, ◌*◌}
use lib.ListN.{take, replicate}
use Rattle.rules.specs.declared.Content.TheVariants.{Deleted}
use Rattle.rules.specs.declared.Fault.TheVariants.{BadParent}
use Rattle.rules.specs.Answer.{loaded_number}
use Rattle.rules.specs.Bytes.{be, value_from, value, part, pieces, join, all_zero}
use Rattle.rules.specs.Choice.{any, first_that}
use Rattle.rules.specs.Faults.{sum_rows, first_true, bad_head, bad_entry, bad_entries, bad_contents, bad_seqs, largest, bad_sequence}
use Rattle.rules.specs.Faults.{bad_row, bad_rows, in_each, is_parent_of, bad_link, bad_links, faults, load}
use Rattle.rules.specs.Image.{total_length, head_bytes, entry_bytes, contents_bytes, row_bytes, body_bytes, image, entries_of, rows_of, deal, parent_of_row, node_in, documents_in, replica_in}
use Rattle.rules.specs.Layout.{entry_size, row_size, head_of, entry_of, row_of}
use Rattle.rules.specs.Map.{find}
use Rattle.rules.specs.Order.{order_n, order_bytes, order_rev, same_rev}
use Rattle.rules.specs.Replica.{revision, Replica, fresh, document_of, tree_of, revisions_held, Tree}
use Rattle.rules.specs.Report.{input_most}
use Rattle.rules.specs.Room.{documents_most, revisions_most, id_most}
use Rattle.rules.proofs.Readings.{row, rev, doc, holding, utmost, risen, two, two_image, put}

-- "All numbers big-endian": head, contents and rows, each field at its place
pub image_bytes : image two ≡ two_image
unfolding be join revisions_held head_bytes entry_bytes contents_bytes row_bytes body_bytes image two_image
image_bytes = refl

abbrev pub loaded_as : Result (Unit {0}) (Fault × ℕ) → ℕ × ℕ
loaded_as a = ((loaded_number a).refusal, (loaded_number a).value)

-- the number and place of a load, 0 and 0 if accepted
abbrev pub loads : List ℕ → ℕ × ℕ
loads s = loaded_as (load fresh s).0

abbrev pub spoilt : List (List (ℕ × List ℕ)) → List (ℕ × ℕ)
spoilt pss = map (λ ps. loads (put ps two_image)) pss

-- 20 "fewer than 16 bytes", 21 "edition not 1", 22 "zero field not zero, d over 32, r over 512, total not
-- by the formula or not the given length", each at 0
pub head_faults : map loads
    ([]
    ∷ take 15 two_image
    ∷ put ((0, 2 ∷ []) ∷ []) (take 16 two_image)
    ∷ take 343 two_image
    ∷ (two_image ++ (0 ∷ []))
    ∷ put ((12, 0 ∷ 0 ∷ 1 ∷ 89 ∷ []) ∷ []) (two_image ++ (0 ∷ []))
    ∷ [])
    ++ spoilt
    (((0, 0 ∷ 2 ∷ []) ∷ [])
    ∷ ((0, 1 ∷ 1 ∷ []) ∷ (7, 1 ∷ []) ∷ [])
    ∷ ((7, 1 ∷ []) ∷ [])
    ∷ ((3, (documents_most + 1) ∷ []) ∷ [])
    ∷ ((4, be 2 (revisions_most + 1)) ∷ [])
    ∷ ((15, 89 ∷ []) ∷ [])
    ∷ [])
    ≡ (20, 0) ∷ (20, 0) ∷ (21, 0) ∷ (22, 0) ∷ (22, 0) ∷ (22, 0) ∷ (21, 0) ∷ (21, 0) ∷ (22, 0) ∷ (22, 0) ∷ (22, 0) ∷ (22, 0) ∷ []
unfolding be value value_from part pieces any first_that order_n order_bytes order_rev same_rev head_of entry_of row_of
    entries_of rows_of deal sum_rows first_true all_zero bad_head bad_entry bad_entries bad_contents bad_seqs largest
    bad_sequence bad_row bad_rows in_each parent_of_row is_parent_of bad_link bad_links faults node_in documents_in replica_in load
    two_image put
head_faults = refl

-- a head of d documents and r revisions whose total fits, and zeros after it
abbrev pub zeros : ℕ → ℕ → List ℕ
zeros d r = head_bytes d r 0 ++ replicate (entry_size * d + row_size * r) 0

-- 22 "d over 32, r over 512" by themselves: at the limits both pass, and the empty contents are the fault
pub head_limits : loads (zeros (documents_most + 1) 0) ∷ loads (zeros documents_most 0) ∷ loads (zeros 0 (revisions_most + 1)) ∷ loads (zeros 0 revisions_most) ∷ []
    ≡ (22, 0) ∷ (23, 0) ∷ (22, 0) ∷ (23, 0) ∷ []
unfolding be value value_from part pieces any first_that order_n order_bytes order_rev same_rev head_bytes head_of entry_of
    row_of entries_of rows_of deal sum_rows first_true all_zero bad_head bad_entry bad_entries bad_contents bad_seqs largest
    bad_sequence bad_row bad_rows in_each parent_of_row is_parent_of bad_link bad_links faults node_in documents_in replica_in load
head_limits = refl

-- 23 "contents entry, sequence aside": id length, fill, zero, rows, place, ids that don't ascend (the
-- later entry is the bad one); the first bad entry, and d where only the sum of the rows is wrong
pub contents_faults : spoilt
    (((60, 0 ∷ []) ∷ [])
    ∷ ((16, 0 ∷ 0 ∷ []) ∷ [])
    ∷ ((60, (id_most + 1) ∷ []) ∷ [])
    ∷ ((92, 1 ∷ []) ∷ [])
    ∷ ((93, 1 ∷ []) ∷ [])
    ∷ ((51, 0 ∷ []) ∷ [])
    ∷ ((59, 105 ∷ []) ∷ [])
    ∷ ((61, 0x61 ∷ []) ∷ [])
    ∷ ((17, 0x63 ∷ []) ∷ [])
    ∷ ((93, 1 ∷ []) ∷ (49, 1 ∷ []) ∷ [])
    ∷ ((51, 4 ∷ []) ∷ [])
    ∷ ((95, 1 ∷ []) ∷ [])
    ∷ ((95, 3 ∷ []) ∷ [])
    ∷ [])
    ≡ (23, 1) ∷ (23, 0) ∷ (23, 1) ∷ (23, 1) ∷ (23, 1) ∷ (23, 0) ∷ (23, 0) ∷ (23, 1) ∷ (23, 1) ∷ (23, 0) ∷ (23, 1) ∷ (23, 2) ∷ (23, 2) ∷ []
unfolding value value_from part pieces any first_that order_n order_bytes order_rev same_rev head_of entry_of row_of entries_of
    rows_of deal sum_rows first_true all_zero bad_head bad_entry bad_entries bad_contents bad_seqs largest bad_sequence bad_row
    bad_rows in_each parent_of_row is_parent_of bad_link bad_links faults node_in documents_in replica_in load two_image put
contents_faults = refl

-- "Ids strictly ascend, byte by byte, a prefix first": `a` before `a` with a zero byte, never the
-- other way round, though both fill to the same 32 bytes; two ids of zero bytes
pub prefix_ids : spoilt
    (((60, 2 ∷ 0x61 ∷ []) ∷ [])
    ∷ ((16, 2 ∷ []) ∷ (61, 0x61 ∷ []) ∷ [])
    ∷ ((17, 0 ∷ []) ∷ (60, 2 ∷ 0 ∷ []) ∷ [])
    ∷ ((16, id_most ∷ []) ∷ [])
    ∷ [])
    ≡ (0, 0) ∷ (23, 1) ∷ (0, 0) ∷ (0, 0) ∷ []
unfolding value value_from part pieces any first_that order_n order_bytes order_rev same_rev head_of entry_of row_of entries_of
    rows_of deal sum_rows first_true all_zero bad_head bad_entry bad_entries bad_contents bad_seqs largest bad_sequence bad_row
    bad_rows in_each parent_of_row is_parent_of bad_link bad_links faults node_in documents_in replica_in load two_image put
prefix_ids = refl

-- 24 "own sequence 0 or repeated; or the update sequence isn't the largest (0 if d is 0)": "first entry
-- with 0 or repeating an earlier one; else d"
pub sequence_faults : loads (put ((11, 1 ∷ []) ∷ []) (0 ∷ 1 ∷ 0 ∷ 0 ∷ 0 ∷ 0 ∷ 0 ∷ 0 ∷ 0 ∷ 0 ∷ 0 ∷ 0 ∷ 0 ∷ 0 ∷ 0 ∷ 16 ∷ []))
    ∷ spoilt
    (((99, 0 ∷ []) ∷ [])
    ∷ ((99, 3 ∷ []) ∷ [])
    ∷ ((55, 0 ∷ []) ∷ (99, 0 ∷ []) ∷ [])
    ∷ ((11, 5 ∷ []) ∷ [])
    ∷ ((11, 3 ∷ []) ∷ [])
    ∷ ((55, 5 ∷ []) ∷ [])
    ∷ ((8, 255 ∷ 255 ∷ 255 ∷ 255 ∷ []) ∷ (52, 255 ∷ 255 ∷ 255 ∷ 255 ∷ []) ∷ [])
    ∷ [])
    ≡ (24, 0) ∷ (24, 1) ∷ (24, 1) ∷ (24, 0) ∷ (24, 2) ∷ (24, 2) ∷ (24, 2) ∷ (0, 0) ∷ []
unfolding value value_from part pieces any first_that order_n order_bytes order_rev same_rev head_of entry_of row_of entries_of
    rows_of deal sum_rows first_true all_zero bad_head bad_entry bad_entries bad_contents bad_seqs largest bad_sequence bad_row
    bad_rows in_each parent_of_row is_parent_of bad_link bad_links faults node_in documents_in replica_in load two_image put
sequence_faults = refl

-- three documents with these own sequences, and an update sequence
abbrev pub three : ℕ → ℕ → ℕ → ℕ → Replica
three a b c q =
    let t : Tree = row (rev 1 0x20) None (Some Deleted) ∷ [] in
    holding q (doc (0x61 ∷ []) a t ∷ doc (0x62 ∷ []) b t ∷ doc (0x63 ∷ []) c t ∷ [])

-- 24 "repeating an earlier one", whichever; own sequences may fall and may leave gaps
pub repeated_sequence : loads (image (three 5 7 5 7)) ∷ loads (image (three 7 5 5 7)) ∷ loads (image (three 7 7 0 7)) ∷ loads (image (three 9 4 7 9)) ∷ []
    ≡ (24, 2) ∷ (24, 2) ∷ (24, 1) ∷ (0, 0) ∷ []
unfolding be value value_from part pieces join any first_that order_n order_bytes order_rev same_rev revisions_held head_bytes
    entry_bytes contents_bytes row_bytes body_bytes image head_of entry_of row_of entries_of rows_of deal sum_rows first_true
    all_zero bad_head bad_entry bad_entries bad_contents bad_seqs largest bad_sequence bad_row bad_rows in_each parent_of_row
    is_parent_of bad_link bad_links faults node_in documents_in replica_in load
repeated_sequence = refl

-- 25 "kind, flag, zeros, number 0, parent at number 1, hash or label not zero", and "not above the row
-- before it in its document": "Rows are counted from 0 through the whole image". A live row's label may
-- be 0, and a document's first row is not held against the row before it.
pub row_faults : spoilt
    (((220, 3 ∷ []) ∷ [])
    ∷ ((173, 2 ∷ []) ∷ [])
    ∷ ((223, 1 ∷ []) ∷ [])
    ∷ ((107, 0 ∷ []) ∷ [])
    ∷ ((125, 1 ∷ []) ∷ [])
    ∷ ((287, 1 ∷ []) ∷ [])
    ∷ ((151, 1 ∷ []) ∷ [])
    ∷ ((247, 1 ∷ []) ∷ [])
    ∷ ((204, 0x20 ∷ []) ∷ [])
    ∷ ((204, 0x11 ∷ []) ∷ [])
    ∷ ((299, 2 ∷ 0x00 ∷ []) ∷ [])
    ∷ ((199, 0 ∷ []) ∷ [])
    ∷ [])
    ≡ (25, 2) ∷ (25, 1) ∷ (25, 2) ∷ (25, 0) ∷ (25, 0) ∷ (25, 3) ∷ (25, 0) ∷ (25, 2) ∷ (25, 2) ∷ (25, 2) ∷ (25, 4) ∷ (0, 0) ∷ []
unfolding value value_from part pieces any first_that order_n order_bytes order_rev same_rev head_of entry_of row_of entries_of
    rows_of deal sum_rows first_true all_zero bad_head bad_entry bad_entries bad_contents bad_seqs largest bad_sequence bad_row
    bad_rows in_each parent_of_row is_parent_of bad_link bad_links faults node_in documents_in replica_in load two_image put
row_faults = refl

-- 26 "known parent not in the document, or kind not fitting the children", the lowest row with either: a
-- parent that only another document has is none, and its own former parent has lost its child
pub parent_faults : spoilt
    (((176, 0x11 ∷ []) ∷ [])
    ∷ ((320, 0x20 ∷ []) ∷ [])
    ∷ ((124, 1 ∷ []) ∷ [])
    ∷ ((220, 0 ∷ []) ∷ [])
    ∷ ((268, 2 ∷ []) ∷ [])
    ∷ ((317, 0 ∷ []) ∷ [])
    ∷ ((299, 9 ∷ []) ∷ [])
    ∷ [])
    ≡ (26, 1) ∷ (26, 3) ∷ (26, 0) ∷ (26, 2) ∷ (26, 3) ∷ (26, 3) ∷ (26, 3) ∷ []
unfolding value value_from part pieces any first_that order_n order_bytes order_rev same_rev head_of entry_of row_of entries_of
    rows_of deal sum_rows first_true all_zero bad_head bad_entry bad_entries bad_contents bad_seqs largest bad_sequence bad_row
    bad_rows in_each parent_of_row is_parent_of bad_link bad_links faults node_in documents_in replica_in load two_image put
parent_faults = refl

-- "Refusals, in order, each over the whole image": one fault more at each step, and the later number
-- gives way though its place is the lower one
pub fault_order : spoilt
    (((124, 1 ∷ []) ∷ [])
    ∷ ((124, 1 ∷ []) ∷ (316, 3 ∷ []) ∷ [])
    ∷ ((124, 1 ∷ []) ∷ (316, 3 ∷ []) ∷ (11, 5 ∷ []) ∷ [])
    ∷ ((124, 1 ∷ []) ∷ (316, 3 ∷ []) ∷ (55, 0 ∷ []) ∷ (95, 1 ∷ []) ∷ [])
    ∷ ((124, 1 ∷ []) ∷ (316, 3 ∷ []) ∷ (55, 0 ∷ []) ∷ (95, 1 ∷ []) ∷ (7, 1 ∷ []) ∷ [])
    ∷ ((124, 1 ∷ []) ∷ (316, 3 ∷ []) ∷ (55, 0 ∷ []) ∷ (95, 1 ∷ []) ∷ (7, 1 ∷ []) ∷ (1, 2 ∷ []) ∷ [])
    ∷ [])
    ≡ (26, 0) ∷ (25, 4) ∷ (24, 2) ∷ (23, 2) ∷ (22, 0) ∷ (21, 0) ∷ []
unfolding value value_from part pieces any first_that order_n order_bytes order_rev same_rev head_of entry_of row_of entries_of
    rows_of deal sum_rows first_true all_zero bad_head bad_entry bad_entries bad_contents bad_seqs largest bad_sequence bad_row
    bad_rows in_each parent_of_row is_parent_of bad_link bad_links faults node_in documents_in replica_in load two_image put
fault_order = refl

-- "a known one may be all zeros" (the shortcut "Taking an all-zero parent hash as unknown"): 3-50 keeps
-- its parent 2-00, and the image loads as the replica that it is the image of
pub loads_back : load fresh two_image ≡ (Ok tt, two)
unfolding value value_from part pieces any first_that order_n order_bytes order_rev same_rev head_of entry_of row_of entries_of
    rows_of deal sum_rows first_true all_zero bad_head bad_entry bad_entries bad_contents bad_seqs largest bad_sequence bad_row
    bad_rows in_each parent_of_row is_parent_of bad_link bad_links faults node_in documents_in replica_in load two_image
loads_back = refl

pub zero_parent : map (λ v. v.1.parent) (tree_of (load fresh two_image).1 (0x62 ∷ [])) ≡ None ∷ Some (revision 2 (replicate 16 0)) ∷ []
unfolding value value_from part pieces any first_that find order_n order_bytes order_rev same_rev document_of tree_of head_of
    entry_of row_of entries_of rows_of deal sum_rows first_true all_zero bad_head bad_entry bad_entries bad_contents bad_seqs
    largest bad_sequence bad_row bad_rows in_each parent_of_row is_parent_of bad_link bad_links faults node_in documents_in
    replica_in load two_image
zero_parent = refl

-- "A failed load leaves the former replica."
pub failed_load : load risen (put ((124, 1 ∷ []) ∷ []) two_image) ≡ (Err (BadParent, 0), risen)
unfolding value value_from part pieces any first_that order_n order_bytes order_rev same_rev head_of entry_of row_of entries_of
    rows_of deal sum_rows first_true all_zero bad_head bad_entry bad_entries bad_contents bad_seqs largest bad_sequence bad_row
    bad_rows in_each parent_of_row is_parent_of bad_link bad_links faults node_in documents_in replica_in load two_image put
failed_load = refl

-- "Numbers run from 1 to 4,294,967,295", "update sequence .. at most 4,294,967,295", a 64-bit label: the
-- largest of each goes into its bytes and comes back
pub utmost_back : load fresh (image utmost) ≡ (Ok tt, utmost)
unfolding be value value_from part pieces join any first_that order_n order_bytes order_rev same_rev revisions_held head_bytes
    entry_bytes contents_bytes row_bytes body_bytes image head_of entry_of row_of entries_of rows_of deal sum_rows first_true
    all_zero bad_head bad_entry bad_entries bad_contents bad_seqs largest bad_sequence bad_row bad_rows in_each parent_of_row
    is_parent_of bad_link bad_links faults node_in documents_in replica_in load
utmost_back = refl

-- "The largest image has 26,000 bytes", at the room of 32 documents and 512 revisions
pub largest_image : total_length 32 512 ≡ 26000
largest_image = refl

-- "Input past 26,001 bytes is not read": past one more than the largest image has
pub input_most_lem : input_most ≡ total_length documents_most revisions_most + 1
input_most_lem = refl
