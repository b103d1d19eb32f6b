-- Readings of 41 to 43 and of what is put out: members with the number that taking them into a fresh replica gives. Assumes nothing.
use mathlib.Core.Path.{◌≡◌, refl}
use mathlib.Core.List.{List, [], ◌∷◌, map}
use Rattle.std.specs.Prelude.{Some}
use Prim.Native.Nat.{ℕ}
use Prim.Native.String.{String}
use Rattle.rules.specs.declared.Content.TheVariants.{Live, Deleted}
use Rattle.rules.specs.Bytes.{be, join, pieces}
use Rattle.rules.specs.Choice.{any, how_many, first_that}
use Rattle.rules.specs.Map.{find, alter}
use Rattle.rules.specs.Order.{order_n, order_bytes, order_rev, same_rev}
use Rattle.rules.specs.Read.{leaves, ancestry, path_of, front, short_buffer, reads, document_refusals}
use Rattle.rules.specs.Replica.{Replica, fresh, document_of, tree_of, revisions_held}
use Rattle.rules.specs.Write.{hashes, along, gives, add_all, added, is_new, is_new_parent, count_new, count_parents, adds, bad_id}
use Rattle.rules.specs.Write.{bad_path, low_number, other_parent, other_content, documents_full, revisions_full, sequence_spent, room_refusals, write_refusals, write}
use Rattle.rules.specs.Answer.{Numbered, accepted, refused, written_number, answered_number}
use Rattle.rules.specs.Report.{text, decimal, digits, trim, hex, hex_digit, rev_text}
use Rattle.rules.specs.Examples.{lot, on}
use Rattle.json_text.specs.Members.{Form, plain, object, array, Json}
use Rattle.lines.specs.Said.{each, all, quoted, but_last, unquote, of_string, of_plain, is_name, named, is_digit, decimal_from, decimal_value, spare_zero, read_number, is_hex_digit, hex_digit_value, hex_value, read_hash, before_dash, after_dash, read_rev}
use Rattle.lines.specs.Take.{Members, read_ids, read_revisions, optional, read_true, read_label, read_content, read_line, other_revisions, is_writable, unwritable, as_write, line_refusals, take_in}
use Rattle.lines.specs.Put.{member_text, and_more, listed, ids_text, revisions_text, leaf_line, lines_text, put_refusals, put_out, put_out_size}

abbrev string : {A : Type 0} → String → Form A
string t = plain (quoted (text t))

abbrev word : {A : Type 0} → String → Form A
word t = plain (text t)

abbrev h91 : String
h91 = "91000000000000000000000000000000"

-- a revision of that hash
abbrev v91 : String
v91 = "2-91000000000000000000000000000000"

abbrev h20 : String
h20 = "20000000000000000000000000000000"

abbrev member : {A : Type 0} → String → A → List ℕ × A
member n v = (quoted (text n), v)

abbrev revisions : {A : Type 0} → String → List String → Form (Form (Form A))
revisions n hs = object (member "start" (word n) ∷ member "ids" (array (map string hs)) ∷ [])

abbrev number : Members → Numbered
number ms = written_number (take_in fresh (Some ms)).0

abbrev line : String → String → List (List ℕ × Json 15) → Members
line i v more = member "_id" (string i) ∷ member "_rev" (string v) ∷ more

abbrev table : List (Members × Numbered)
table =
    -- a path of two
    (line "lot" v91 (member "_revisions" (revisions "2" (h91 ∷ h20 ∷ [])) ∷ member "label" (word "8") ∷ []), accepted 1)
    -- "Without `_revisions` the path is the one revision of `_rev`."
    ∷ (line "lot" v91 (member "label" (word "8") ∷ []), accepted 1)
    ∷ (line " ~" v91 (member "_deleted" (word "true") ∷ []), accepted 1)
    ∷ (line "lot" v91 (member "_deleted" (word "false") ∷ []), refused 41)
    ∷ (line "lot" v91 (member "_deleted" (string "true") ∷ []), refused 41)
    ∷ (line "lot" v91 [], refused 41)
    ∷ (line "lot" v91 (member "label" (word "8") ∷ member "_deleted" (word "true") ∷ []), refused 41)
    ∷ (line "lot" v91 (member "label" (word "8") ∷ member "label" (word "8") ∷ []), refused 41)
    ∷ (line "lot" "02-91000000000000000000000000000000" (member "label" (word "8") ∷ []), refused 41)
    ∷ (line "lot" "0-91000000000000000000000000000000" (member "label" (word "8") ∷ []), refused 3)
    ∷ (line "lot" "-91000000000000000000000000000000" (member "label" (word "8") ∷ []), refused 41)
    ∷ (line "lot" "291000000000000000000000000000000" (member "label" (word "8") ∷ []), refused 41)
    ∷ (line "lot" "4294967295-91000000000000000000000000000000" (member "label" (word "8") ∷ []), accepted 1)
    ∷ (line "lot" "4294967296-91000000000000000000000000000000" (member "label" (word "8") ∷ []), refused 41)
    ∷ (line "lot" "2-9100000000000000000000000000000" (member "label" (word "8") ∷ []), refused 41)
    ∷ (line "lot" "2-9100000000000000000000000000000A" (member "label" (word "8") ∷ []), refused 41)
    ∷ (line "lot" v91 (member "label" (word "18446744073709551615") ∷ []), accepted 1)
    ∷ (line "lot" v91 (member "label" (word "18446744073709551616") ∷ []), refused 41)
    ∷ (line "lot" v91 (member "label" (word "-0") ∷ []), refused 41)
    ∷ (line "lot" v91 (member "label" (string "8") ∷ []), refused 41)
    ∷ (line "lot" v91 (member "_revisions" (revisions "3" (h91 ∷ h20 ∷ [])) ∷ member "label" (word "8") ∷ []), refused 42)
    ∷ (line "lot" v91 (member "_revisions" (revisions "2" (h20 ∷ [])) ∷ member "label" (word "8") ∷ []), refused 42)
    ∷ (line "lot" v91 (member "_revisions" (revisions "2" []) ∷ member "label" (word "8") ∷ []), refused 42)
    ∷ (line "lot" "1-91000000000000000000000000000000" (member "_revisions" (revisions "1" (h91 ∷ h20 ∷ [])) ∷ member "label" (word "8") ∷ []), refused 3)
    ∷ (line "lot" v91 (member "_revisions" (revisions "2" (h91 ∷ h20 ∷ [])) ∷ member "_revisions" (revisions "2" (h91 ∷ h20 ∷ [])) ∷ member "label" (word "8") ∷ []), refused 41)
    ∷ (line "l\\u006ft" v91 (member "label" (word "8") ∷ []), refused 43)
    ∷ (line "l\u{7f}t" v91 (member "label" (word "8") ∷ []), refused 43)
    ∷ (line "" v91 (member "label" (word "8") ∷ []), refused 1)
    ∷ (line "aaaaaaaaaaaaaaaaaaaaaaaaaaaaaaaa" v91 (member "label" (word "8") ∷ []), accepted 1)
    ∷ (line "aaaaaaaaaaaaaaaaaaaaaaaaaaaaaaaaa" v91 (member "label" (word "8") ∷ []), refused 1)
    ∷ (line "aaaaaaaaaaaaaaaaaaaaaaaaaaaaaaaaé" v91 (member "label" (word "8") ∷ []), refused 43)
    ∷ (line "lé" v91 (member "_revisions" (revisions "3" (h91 ∷ h20 ∷ [])) ∷ member "label" (word "8") ∷ []), refused 42)
    ∷ (member "_id" (word "7") ∷ member "_rev" (string v91) ∷ member "label" (word "8") ∷ [], refused 41)
    ∷ (member "\\u005fid" (word "7") ∷ line "lot" v91 (member "ids" (word "8") ∷ member "label" (word "8") ∷ member "start" (word "8") ∷ member "start" (word "8") ∷ []), accepted 1)
    ∷ (line "lot" v91 (member "_revisions" (object (member "x" (object []) ∷ member "start" (word "2") ∷ member "x" (word "1") ∷ member "ids" (array (string h91 ∷ [])) ∷ [])) ∷ member "label" (word "8") ∷ []), accepted 1)
    ∷ (line "lot" v91 (member "_revisions" (object (member "start" (word "2") ∷ member "start" (word "2") ∷ member "ids" (array (string h91 ∷ [])) ∷ [])) ∷ member "label" (word "8") ∷ []), refused 41)
    ∷ (line "lot" v91 (member "_revisions" (word "null") ∷ member "label" (word "8") ∷ []), refused 41)
    -- the field of start; order 41, 42, 43; forms inside ids
    ∷ (line "lot" v91 (member "_revisions" (revisions "4294967296" (h91 ∷ h20 ∷ [])) ∷ member "label" (word "8") ∷ []), refused 41)
    ∷ (line "lot" v91 (member "_revisions" (revisions "3" (h91 ∷ h20 ∷ [])) ∷ []), refused 41)
    ∷ (line "l\\n" v91 [], refused 41)
    ∷ (line "lot" v91 (member "_revisions" (revisions "2" (h91 ∷ "2000000000000000000000000000000A" ∷ [])) ∷ member "label" (word "8") ∷ []), refused 41)
    ∷ (line "lot" v91 (member "_revisions" (object (member "start" (word "2") ∷ member "ids" (array (string h91 ∷ word "7" ∷ [])) ∷ [])) ∷ member "label" (word "8") ∷ []), refused 41)
    ∷ (line "lot" v91 (member "_revisions" (object (member "start" (word "2") ∷ [])) ∷ member "label" (word "8") ∷ []), refused 41)
    ∷ (line "lot" v91 (member "_revisions" (object (member "ids" (array (string h91 ∷ [])) ∷ [])) ∷ member "label" (word "8") ∷ []), refused 41)
    ∷ (line "lot" v91 (member "_deleted" (word "true") ∷ member "_deleted" (word "true") ∷ []), refused 41)
    ∷ []

-- as one statement
pub tried : map (λ c. number c.0) table ≡ map (λ c. c.1) table
unfolding be join pieces any first_that find alter order_n order_bytes order_rev same_rev
    document_of tree_of revisions_held hashes along gives add_all added is_new is_new_parent count_new count_parents adds
    how_many bad_id bad_path low_number other_parent other_content documents_full revisions_full sequence_spent room_refusals
    write_refusals write text each all quoted but_last unquote of_string of_plain is_name named is_digit decimal_from decimal_value spare_zero read_number is_hex_digit hex_digit_value hex_value read_hash before_dash after_dash read_rev
    read_ids read_revisions optional read_true read_label read_content read_line other_revisions is_writable unwritable as_write line_refusals take_in
tried = refl

abbrev after5 : Replica
after5 = (write (write (write (write fresh (on lot 1 (0x20 ∷ []) (Live 7))).1 (on lot 2 (0x91 ∷ 0x20 ∷ []) (Live 8))).1 (on lot 2 (0x4c ∷ 0x20 ∷ []) (Live 9))).1 (on lot 3 (0x05 ∷ 0x91 ∷ 0x20 ∷ []) Deleted)).1

-- "highest first": the lines of the document after case 5, to the last byte
pub put_lines : lines_text lot (tree_of after5 lot) ≡ text "{\"_id\":\"lot\",\"_rev\":\"3-05000000000000000000000000000000\",\"_revisions\":{\"start\":3,\"ids\":[\"05000000000000000000000000000000\",\"91000000000000000000000000000000\",\"20000000000000000000000000000000\"]},\"_deleted\":true}\n{\"_id\":\"lot\",\"_rev\":\"2-4c000000000000000000000000000000\",\"_revisions\":{\"start\":2,\"ids\":[\"4c000000000000000000000000000000\",\"20000000000000000000000000000000\"]},\"label\":9}\n"
unfolding be join pieces any first_that find alter order_n order_bytes order_rev same_rev
    document_of tree_of revisions_held hashes along gives add_all added is_new is_new_parent count_new count_parents adds
    how_many bad_id bad_path low_number other_parent other_content documents_full revisions_full sequence_spent room_refusals
    write_refusals write text leaves ancestry path_of decimal digits trim hex hex_digit rev_text quoted member_text and_more listed ids_text revisions_text leaf_line lines_text
put_lines = refl

-- "Putting out checks 1, 12, 43, 14.", and the size
abbrev odd : Replica
odd = (write fresh (on (0x07 ∷ []) 1 (0x20 ∷ []) (Live 7))).1

pub put_numbers : answered_number (put_out odd [] []).0 ∷ answered_number (put_out odd (0x08 ∷ []) []).0 ∷ answered_number (put_out odd (0x07 ∷ []) []).0 ∷ answered_number (put_out after5 lot []).0 ∷ answered_number (put_out_size after5 lot) ∷ answered_number (put_out_size odd (0x07 ∷ [])) ∷ [] ≡ refused 1 ∷ refused 12 ∷ refused 43 ∷ refused 14 ∷ accepted 383 ∷ refused 43 ∷ []
unfolding be join pieces any first_that find alter order_n order_bytes order_rev same_rev
    document_of tree_of revisions_held hashes along gives add_all added is_new is_new_parent count_new count_parents adds
    how_many bad_id bad_path low_number other_parent other_content documents_full revisions_full sequence_spent room_refusals
    write_refusals write text leaves ancestry path_of decimal digits trim hex hex_digit rev_text quoted member_text and_more listed ids_text revisions_text leaf_line lines_text
    front short_buffer reads document_refusals put_refusals put_out put_out_size is_writable unwritable
put_numbers = refl
