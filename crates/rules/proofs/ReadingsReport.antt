-- Readings of the check program. Assumes nothing.
use mathlib.Core.Path.{◌≡◌, refl}
use mathlib.Core.List.{[], ◌∷◌}
use Rattle.rules.specs.Bytes.{be, value_from, value, part, pieces, join, all_zero}
use Rattle.rules.specs.Choice.{any, first_that}
use Rattle.rules.specs.Faults.{sum_rows, first_true, bad_head, bad_entry, bad_entries, bad_contents, bad_seqs, largest, bad_sequence, bad_row, bad_rows, in_each, is_parent_of, bad_link, bad_links, faults}
use Rattle.rules.specs.Image.{head_bytes, entry_bytes, contents_bytes, row_bytes, body_bytes, image, entries_of, rows_of, deal, parent_of_row, node_in, documents_in, replica_in}
use Rattle.rules.specs.Layout.{head_of, entry_of, row_of}
use Rattle.rules.specs.Order.{order_n, order_bytes, order_rev, same_rev}
use Rattle.rules.specs.Read.{leaves, order_leaf, highest, winner, not_at, conflicts}
use Rattle.rules.specs.Replica.{fresh, revisions_held}
use Rattle.rules.specs.Report.{digits, trim, decimal, hex_digit, hex, line_of, rev_text, line_text, head_text, replica_text, refused_text, report, text}
use Rattle.rules.proofs.Readings.{utmost, lots, pair, two_image, put}

-- "The image saved after cases 1 to 5 below prints:"
pub listing : report (image lots)
    ≡ text "seq 4 documents 1 revisions 4\n6c6f74 seq 4 winner 2-4c000000000000000000000000000000 leaves 2 conflicts 1\n"
unfolding be value value_from part pieces join any first_that order_n order_bytes order_rev same_rev revisions_held leaves
    order_leaf highest winner not_at conflicts head_bytes entry_bytes contents_bytes row_bytes body_bytes image head_of
    entry_of row_of entries_of rows_of deal sum_rows first_true all_zero bad_head bad_entry bad_entries bad_contents bad_seqs
    largest bad_sequence bad_row bad_rows in_each parent_of_row is_parent_of bad_link bad_links faults node_in documents_in
    replica_in digits trim decimal hex_digit hex line_of rev_text line_text head_text replica_text refused_text report text
listing = refl

-- "one line per document in image order", which is by id and not by sequence; a deleted winner among
-- deleted leaves; "Numbers are decimal, hex is lower case, each line ends with a newline"
pub two_lines : report (image pair) ∷ report (image utmost) ∷ report (image fresh) ∷ []
    ≡ text "seq 4 documents 2 revisions 4\n61 seq 4 winner 2-40000000000000000000000000000000 leaves 2 conflicts 1\n6262 seq 2 winner 1-20000000000000000000000000000000 leaves 1 conflicts 0\n"
    ∷ text "seq 4294967295 documents 1 revisions 2\n6c6f74 seq 4294967295 winner 4294967295-ff000000000000000000000000000000 leaves 1 conflicts 0\n"
    ∷ text "seq 0 documents 0 revisions 0\n"
    ∷ []
unfolding be value value_from part pieces join any first_that order_n order_bytes order_rev same_rev revisions_held leaves
    order_leaf highest winner not_at conflicts head_bytes entry_bytes contents_bytes row_bytes body_bytes image head_of
    entry_of row_of entries_of rows_of deal sum_rows first_true all_zero bad_head bad_entry bad_entries bad_contents bad_seqs
    largest bad_sequence bad_row bad_rows in_each parent_of_row is_parent_of bad_link bad_links faults node_in documents_in
    replica_in digits trim decimal hex_digit hex line_of rev_text line_text head_text replica_text refused_text report text
two_lines = refl

-- "A refused image prints `refused N at P`."
pub refused_lines : report [] ∷ report (put ((316, 3 ∷ []) ∷ []) two_image) ∷ report (put ((95, 1 ∷ []) ∷ []) two_image) ∷ []
    ≡ text "refused 20 at 0\n" ∷ text "refused 25 at 4\n" ∷ text "refused 23 at 2\n" ∷ []
unfolding value value_from part pieces join any first_that order_n order_bytes order_rev same_rev revisions_held leaves
    order_leaf highest winner not_at conflicts head_of entry_of row_of entries_of rows_of deal sum_rows first_true all_zero
    bad_head bad_entry bad_entries bad_contents bad_seqs largest bad_sequence bad_row bad_rows in_each parent_of_row is_parent_of
    bad_link bad_links faults node_in documents_in replica_in digits trim decimal hex_digit hex line_of rev_text line_text
    head_text replica_text refused_text report text two_image put
refused_lines = refl
