-- Readings of the reads. Assumes nothing.
use mathlib.Core.Path.{◌≡◌, refl}
use Rattle.rules.specs.declared.Change.{Change}
use Rattle.rules.specs.declared.Refusal.{Refusal}
use Rattle.std.specs.Prelude.{Option, None, Some, Result, Ok, Err}
use mathlib.Core.Bool.{Bool, true, false}
use mathlib.Core.List.{List, [], ◌∷◌, ◌++◌, map}
use Prim.Native.Nat.{ℕ}
use lib.ListN.{replicate}
use Rattle.rules.specs.Answer.{answered_number, next_number, accepted}
use Rattle.rules.specs.Bytes.{be, value_from, value, pieces, join}
use Rattle.rules.specs.Choice.{first_that}
use Rattle.rules.specs.Examples.{lot, hash}
use Rattle.rules.specs.Map.{find}
use Rattle.rules.specs.Order.{order_n, order_bytes, order_rev, same_rev}
use Rattle.rules.specs.Read.{leaves, order_leaf, highest, winner, not_at, conflicts, leaf_bytes, ancestry, path_of, asked_rev, missing_byte, missing}
use Rattle.rules.specs.Read.{insert_by_seq, documents_after, front, short_buffer, reads, document_refusals, read_winner, read_leaves, read_path, read_missing, change_of, read_changes}
use Rattle.rules.specs.Refusal.{refusal_number}
use Rattle.rules.specs.Replica.{document_of, tree_of}
use Rattle.rules.specs.Room.{number_most, seq_most}
use Rattle.rules.specs.Write.{bad_id}
use Rattle.rules.proofs.Readings.{rev, forked, lots, pair}

-- bytes of a lent buffer before the call
abbrev pub lent : ℕ → List ℕ
lent n = replicate n 0xee

-- an answer as its refusal's number, 0 if accepted, and what is answered, with the buffer as it is left
abbrev pub read_as : Result ℕ Refusal × List ℕ → ℕ × ℕ × List ℕ
read_as o = ((answered_number o.0).refusal, (answered_number o.0).value, o.1)

-- "among live leaves the highest number, then the highest hash; with no live leaf, the same among
-- deleted ones": number, hash, kind and label in 29 bytes. A deleted leaf doesn't win by its number
-- (the shortcut of case 5). One byte short is 14 and leaves the buffer; the byte after the answer stays.
pub winner_read : map read_as (read_winner lots lot (lent 30) ∷ read_winner lots lot (lent 28) ∷ read_winner lots (0x61 ∷ []) [] ∷ read_winner lots [] [] ∷ [])
    ≡ (0, 29, (0 ∷ 0 ∷ 0 ∷ 2 ∷ []) ++ (hash 0x4c ++ (1 ∷ 0 ∷ 0 ∷ 0 ∷ 0 ∷ 0 ∷ 0 ∷ 0 ∷ 9 ∷ 0xee ∷ [])))
    ∷ (14, 0, lent 28)
    ∷ (12, 0, [])
    ∷ (1, 0, [])
    ∷ []
unfolding be first_that find order_n order_bytes order_rev document_of tree_of bad_id leaves order_leaf highest winner
    leaf_bytes front short_buffer reads document_refusals read_winner
winner_read = refl

-- "highest number first, then highest hash"; "their count is answered"; a deletion has label zero
pub leaves_read : map read_as (read_leaves lots lot (lent 58) ∷ read_leaves lots lot (lent 57) ∷ [])
    ≡ (
      0,
      2,
      (0 ∷ 0 ∷ 0 ∷ 3 ∷ []) ++ (hash 0x05 ++ (2 ∷ 0 ∷ 0 ∷ 0 ∷ 0 ∷ 0 ∷ 0 ∷ 0 ∷ 0 ∷ []))
          ++ ((0 ∷ 0 ∷ 0 ∷ 2 ∷ []) ++ (hash 0x4c ++ (1 ∷ 0 ∷ 0 ∷ 0 ∷ 0 ∷ 0 ∷ 0 ∷ 0 ∷ 9 ∷ []))),
    )
    ∷ (14, 0, lent 57)
    ∷ []
unfolding be join first_that find order_n order_bytes document_of tree_of bad_id leaves leaf_bytes front short_buffer reads
    document_refusals read_leaves
leaves_read = refl

-- "The document's conflicts are its leaves other than the winner", deleted ones among them
pub conflicts_read : map (λ a. a.rev) (conflicts (tree_of lots lot)) ≡ rev 3 0x05 ∷ []
unfolding find order_n order_bytes order_rev same_rev document_of tree_of leaves order_leaf highest winner not_at conflicts
conflicts_read = refl

-- "the revision itself, followed by the path of its parent, as far as parents are known"; of a
-- revision with a child too; 1, 12, 13, 14 in that order
pub path_read : map (λ v. read_as (read_path lots lot v (lent 49))) (rev 3 0x05 ∷ rev 2 0x91 ∷ rev 2 0x05 ∷ rev 0 0x20 ∷ [])
    ++ map read_as
    (read_path lots lot (rev 3 0x05) (lent 47)
    ∷ read_path lots lot (rev 4 0x05) []
    ∷ read_path lots (0x61 ∷ []) (rev 4 0x05) []
    ∷ read_path lots [] (rev 4 0x05) []
    ∷ read_path forked lot (rev 3 0xaa) (lent 48)
    ∷ [])
    ≡ (0, 3, hash 0x05 ++ (hash 0x91 ++ (hash 0x20 ++ lent 1)))
    ∷ (0, 2, hash 0x91 ++ (hash 0x20 ++ lent 17))
    ∷ (13, 0, lent 49)
    ∷ (13, 0, lent 49)
    ∷ (14, 0, lent 47)
    ∷ (13, 0, [])
    ∷ (12, 0, [])
    ∷ (1, 0, [])
    ∷ (0, 3, hash 0xaa ++ (hash 0xbb ++ hash 0xcc))
    ∷ []
unfolding join first_that find order_n order_bytes order_rev document_of tree_of bad_id ancestry path_of front short_buffer
    reads document_refusals read_path
path_read = refl

-- a revision as it is asked for
abbrev pub ask : ℕ → ℕ → List ℕ
ask n h = be 4 n ++ hash h

-- "0 known, 1 missing. Of an absent document all are missing; so is number 0"; 1, 15, 14 in that
-- order; an empty asked list fits every buffer
pub missing_read : map read_as
    (read_missing lots lot (ask 3 0x05 ++ (ask 2 0x05 ++ (ask 0 0x20 ++ (ask 1 0x20 ++ ask number_most 0x20)))) (lent 6)
    ∷ read_missing lots (0x61 ∷ []) (ask 1 0x20 ++ ask 0 0) (lent 2)
    ∷ read_missing lots lot (ask 1 0x20 ++ ask 1 0x20) (lent 1)
    ∷ read_missing lots lot (0 ∷ ask 1 0x20) []
    ∷ read_missing lots [] (0 ∷ []) []
    ∷ read_missing lots lot [] []
    ∷ [])
    ≡ (0, 5, 0 ∷ 1 ∷ 1 ∷ 0 ∷ 1 ∷ 0xee ∷ [])
    ∷ (0, 2, 1 ∷ 1 ∷ [])
    ∷ (14, 0, lent 1)
    ∷ (15, 0, [])
    ∷ (1, 0, [])
    ∷ (0, 0, [])
    ∷ []
unfolding be value value_from pieces first_that find order_n order_bytes order_rev document_of tree_of bad_id asked_rev
    missing_byte missing front short_buffer reads read_missing
missing_read = refl

abbrev pub truth : Bool → ℕ
truth true = 1
truth false = 0

abbrev pub changes_as : Result (Option Change) Refusal × List ℕ → List ℕ × List ℕ
changes_as (Ok (Some c), out) = (c.id_len ∷ c.seq.0 ∷ c.leaves ∷ truth c.deleted ∷ [], out)
changes_as (Ok None, out) = ([], out)
changes_as (Err n, out) = (refusal_number n ∷ [], out)

abbrev pub changes_after : ℕ → List ℕ → List ℕ × List ℕ
changes_after s out = changes_as (read_changes pair (record { 0 = s }) out)

-- "the document with the lowest own sequence above s: its id written out, and answered its id length,
-- that sequence, its leaf count and whether its winner is a deletion"; "or no more, nothing written",
-- which fits every buffer
pub changes_read : changes_after 0 (lent 3) ∷ changes_after 1 (lent 2) ∷ changes_after 1 (lent 1) ∷ changes_after 2 (lent 2) ∷ changes_after 4 [] ∷ changes_after seq_most (lent 1) ∷ []
    ≡ (2 ∷ 2 ∷ 1 ∷ 1 ∷ [], 0x62 ∷ 0x62 ∷ 0xee ∷ [])
    ∷ (2 ∷ 2 ∷ 1 ∷ 1 ∷ [], 0x62 ∷ 0x62 ∷ [])
    ∷ (14 ∷ [], lent 1)
    ∷ (1 ∷ 4 ∷ 2 ∷ 0 ∷ [], 0x61 ∷ 0xee ∷ [])
    ∷ ([], [])
    ∷ ([], lent 1)
    ∷ []
unfolding first_that order_n order_bytes order_rev leaves order_leaf highest winner insert_by_seq documents_after front
    short_buffer change_of read_changes
changes_read = refl

-- "the document with the lowest own sequence above s" is answered by "that sequence", and "no more" by 0
pub next_read : next_number None ∷ next_number (Some (3, (record { 0 = 7 }))) ∷ [] ≡ accepted 0 ∷ accepted 7 ∷ []
next_read = refl
