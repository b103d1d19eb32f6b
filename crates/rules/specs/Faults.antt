-- The faults 20 to 26 of an image with their places, and loading.
use Rattle.std.specs.Prelude.{Bool, true, false, not, ◌&&◌, ◌||◌, List, [], ◌∷◌, ◌++◌, map, ℕ, suc, ◌+◌, ◌*◌, max, eqb, ltb, length}
use Rattle.std.specs.Prelude.{Result, Ok, Err}
use Rattle.std.specs.Prelude.{Option, None, Some}
use Rattle.rules.specs.declared.Fault.{Fault}
use Rattle.rules.specs.declared.Fault.TheVariants.{TooShort, BadEdition, BadHead, BadContents, BadSequence, BadRow, BadParent}
use Rattle.rules.specs.declared.Revision.{Revision}
use Rattle.rules.specs.Bytes.{all_zero}
use Rattle.rules.specs.Choice.{pick, or_else, maybe, any, first_that}
use Rattle.rules.specs.Image.{edition, total_length, entries_of, rows_of, deal, parent_of_row, replica_in}
use Rattle.rules.specs.Layout.{Entry, Row, head_size, entry_size, row_size, head_of}
use Rattle.rules.specs.Order.{order_bytes, order_rev, is_less, same_rev}
use Rattle.rules.specs.Replica.{Id, Replica}
use Rattle.rules.specs.Room.{documents_most, revisions_most, id_most}

-- the place of the first that is true
unfoldable pub first_true : ℕ → List Bool → Option ℕ
first_true k [] = None
first_true k (b ∷ bs) = pick b (Some k) (first_true (suc k) bs)

-- 22: "zero field not zero, d over 32, r over 512, total not by the formula or not the given length"
unfoldable pub bad_head : List ℕ → Bool
bad_head s =
    let h = head_of s in
    not (eqb h.zero 0)
    || (ltb documents_most h.documents
    || (ltb revisions_most h.revisions
    || (not (eqb h.total (total_length h.documents h.revisions)) || not (eqb h.total (length s)))))

-- "Ids strictly ascend": not above the id before it
abbrev pub not_above : Option Id → Id → Bool
not_above None i = false
not_above (Some j) i = not (is_less (order_bytes j i))

-- 23: an entry by itself, given where its first row must be and the id before it
unfoldable pub bad_entry : ℕ → Option Id → Entry → Bool
bad_entry place before e =
    eqb e.size 0
    || (ltb id_most e.size
    || (not (all_zero e.fill)
    || (not (eqb e.zero 0)
    || (eqb e.rows 0 || (not (eqb e.place place) || not_above before e.id)))))

unfoldable pub bad_entries : ℕ → Option Id → List Entry → List Bool
bad_entries place before [] = []
bad_entries place before (e ∷ es) =
    bad_entry place before e ∷ bad_entries (place + row_size * e.rows) (Some e.id) es

unfoldable pub sum_rows : List Entry → ℕ
sum_rows [] = 0
sum_rows (e ∷ es) = e.rows + sum_rows es

-- 23: "first bad entry; else d" where "the rows don't sum to r"
unfoldable pub bad_contents : List ℕ → Option ℕ
bad_contents s =
    let h = head_of s in
    let es = entries_of s in
    or_else (first_true 0 (bad_entries (head_size + entry_size * h.documents) None es))
    (pick (eqb (sum_rows es) h.revisions) None (Some h.documents))

-- 24: "own sequence 0 or repeated": each with those before it
unfoldable pub bad_seqs : List ℕ → List Entry → List Bool
bad_seqs before [] = []
bad_seqs before (e ∷ es) = (eqb e.seq 0 || any (eqb e.seq) before) ∷ bad_seqs (e.seq ∷ before) es

unfoldable pub largest : List Entry → ℕ
largest [] = 0
largest (e ∷ es) = max e.seq (largest es)

-- 24: "first entry with 0 or repeating an earlier one; else d" where "the update sequence isn't the
-- largest (0 if d is 0)"
unfoldable pub bad_sequence : List ℕ → Option ℕ
bad_sequence s =
    let es = entries_of s in
    or_else (first_true 0 (bad_seqs [] es))
    (pick (eqb (head_of s).seq (largest es)) None (Some (head_of s).documents))

-- 25: "row by itself": "kind, flag, zeros, number 0, parent at number 1, hash or label not zero"
unfoldable pub bad_row : Row → Bool
bad_row w =
    ltb 2 w.kind
    || (ltb 1 w.flag
    || (not (eqb w.zero 0)
    || (eqb w.rev.number.0 0
    || ((eqb w.flag 1 && eqb w.rev.number.0 1)
    || ((eqb w.flag 0 && not (all_zero w.parent))
    || (not (eqb w.kind 1) && not (eqb w.label 0)))))))

-- "not above the row before it in its document"
abbrev pub row_not_above : Option Revision → Revision → Bool
row_not_above None v = false
row_not_above (Some u) v = not (is_less (order_rev u v))

unfoldable pub bad_rows : Option Revision → List Row → List Bool
bad_rows before [] = []
bad_rows before (w ∷ ws) = (bad_row w || row_not_above before w.rev) ∷ bad_rows (Some w.rev) ws

unfoldable pub in_each : (List Row → List Bool) → List (List Row) → List Bool
in_each f [] = []
in_each f (ws ∷ rest) = f ws ++ in_each f rest

unfoldable pub is_parent_of : Revision → Row → Bool
is_parent_of v w = maybe false (same_rev v) (parent_of_row w)

-- 26: "known parent not in the document, or kind not fitting the children"
unfoldable pub bad_link : List Row → Row → Bool
bad_link all w =
    maybe false (λ p. not (any (λ x. same_rev p x.rev) all)) (parent_of_row w)
    || pick (any (is_parent_of w.rev) all) (not (eqb w.kind 0)) (eqb w.kind 0)

unfoldable pub bad_links : List Row → List Bool
bad_links all = map (bad_link all) all

-- a fault at a place, if there is one
abbrev pub at : Fault → Option ℕ → Bool × (Fault × ℕ)
at f None = (false, (f, 0))
at f (Some p) = (true, (f, p))

-- "Refusals, in order, each over the whole image"
unfoldable pub faults : List ℕ → List (Bool × (Fault × ℕ))
faults s =
    let rs = deal (entries_of s) (rows_of s) in
    (ltb (length s) head_size, (TooShort, 0))
    ∷ (not (eqb (head_of s).edition edition), (BadEdition, 0))
    ∷ (bad_head s, (BadHead, 0))
    ∷ at BadContents (bad_contents s)
    ∷ at BadSequence (bad_sequence s)
    ∷ at BadRow (first_true 0 (in_each (bad_rows None) rs))
    ∷ at BadParent (first_true 0 (in_each bad_links rs))
    ∷ []

-- ---- loading

-- "An image loads exactly if it meets every rule." "A failed load leaves the former replica."
abbrev pub load_as : Replica → List ℕ → Option (Fault × ℕ) → Result (Unit {0}) (Fault × ℕ) × Replica
load_as former s None = (Ok tt, replica_in s)
load_as former s (Some f) = (Err f, former)

unfoldable pub load : Replica → List ℕ → Result (Unit {0}) (Fault × ℕ) × Replica
load former s = load_as former s (first_that (faults s))
