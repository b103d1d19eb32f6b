-- The table of lines in and out, as one statement. Assumes nothing.
use mathlib.Core.Path.{◌≡◌, refl, sym}
use Rattle.std.specs.declared.cmp.Ordering.TheVariants.{Less, Equal, Greater}
use Rattle.std.specs.declared.cmp.Ordering.{Ordering}
use mathlib.Core.Bool.{Bool, true, false, ◌&&◌, true≢false}
use mathlib.Core.List.{List, [], ◌∷◌}
use Rattle.std.specs.Prelude.{Option, None, Some}
use Prim.Native.Nat.{ℕ}
use native.Mathlib.Omega.{arith}
use lib.Dec.{eqb}
use lib.ListN.{get_or}
use borrow.Author.Tests.{eqb-true, eqb-false}
use Rattle.rules.specs.Answer.{Numbered, written_number}
use Rattle.rules.specs.Bytes.{join, pieces}
use Rattle.rules.specs.Choice.{any, how_many, first_that}
use Rattle.rules.specs.Examples.{lot}
use Rattle.rules.specs.Map.{find, alter}
use Rattle.rules.specs.Order.{order_n, order_bytes, order_rev, same_rev, is_equal}
use Rattle.rules.specs.Read.{leaves, ancestry, path_of}
use Rattle.rules.specs.Replica.{Replica, fresh, document_of, tree_of, revisions_held}
use Rattle.rules.specs.Report.{digits, trim, decimal, hex_digit, hex, text, rev_text}
use Rattle.rules.specs.Write.{hashes, along, gives, add_all, added, is_new, is_new_parent, count_new, count_parents, adds, bad_id}
use Rattle.rules.specs.Write.{bad_path, low_number, other_parent, other_content, documents_full, revisions_full, sequence_spent, room_refusals, write_refusals, write}
use Rattle.rules.proofs.OrderLaws.{order_bytes_same}
use Rattle.json_text.specs.Grammar as grammar
use Rattle.json_text.specs.Grammar.{ws}
use Rattle.json_text.specs.Members.{line_of}
use Rattle.json_text.specs.Rfc.{line}
use Rattle.json_text.specs.Skips.{WsTo}
use Rattle.json_text.proofs.WsLaws.{white_no}
use Rattle.values.proofs.RfcLaws.{line_from_rfc}
use Rattle.values.proofs.ValueLaws.{line_no_brace}
use Rattle.lines.specs.Said.{each, all, quoted, but_last, unquote, of_string, of_plain, is_name, named, is_digit, decimal_from, decimal_value, spare_zero, read_number}
use Rattle.lines.specs.Said.{is_hex_digit, hex_digit_value, hex_value, read_hash, before_dash, after_dash, read_rev}
use Rattle.lines.specs.Take.{Members, Holds, read_ids, read_revisions, optional, read_true, read_label, read_content, read_line, other_revisions, is_writable, unwritable, as_write, line_refusals, take_in}
use Rattle.lines.specs.Put.{member_text, and_more, listed, ids_text, revisions_text, leaf_line, lines_text}
use Rattle.lines.specs.Examples.{texts, Step, takes, puts, Goes, table}
use Rattle.lines.proofs.Reader.{line_read}
use Rattle.lines.proofs.SaidLaws.{and_left, and_right}
use Rattle.lines.proofs.Refuted.{zero_line, deep_line, two_line, zero_no_line, deep_no_line, two_no_line}

-- ---- what a text holds

-- no line begins so
no_line : (s : List ℕ) → Option (line s [] → ⊥)
no_line s = go (eqb (get_or s 0 0) 123) refl (eqb (get_or s 0 0) 32) refl (eqb (get_or s 0 0) 9) refl (eqb (get_or s 0 0) 10) refl (eqb (get_or s 0 0) 13) refl
  where
    wide : (get_or s 0 0 ≡ 32 → ⊥) → (get_or s 0 0 ≡ 9 → ⊥) → (get_or s 0 0 ≡ 10 → ⊥) → (get_or s 0 0 ≡ 13 → ⊥) → WsTo s 0 0
    wide a b c d = record { from = omega arith; within = omega arith; is = unfold ws in grammar.none; all = white_no s 0 a b c d }

    go : (a : Bool) → eqb (get_or s 0 0) 123 ≡ a → (b : Bool) → eqb (get_or s 0 0) 32 ≡ b → (c : Bool) → eqb (get_or s 0 0) 9 ≡ c
        → (d : Bool) → eqb (get_or s 0 0) 10 ≡ d → (f : Bool) → eqb (get_or s 0 0) 13 ≡ f → Option (line s [] → ⊥)
    go false ea false eb false ec false ed false ef =
        Some (λ l. line_no_brace s 0 (wide (eqb-false _ 32 eb) (eqb-false _ 9 ec) (eqb-false _ 10 ed) (eqb-false _ 13 ef)) (eqb-false _ 123 ea) (line_from_rfc s [] l))
    go true ea b eb c ec d ed f ef = None
    go false ea true eb c ec d ed f ef = None
    go false ea false eb true ec d ed f ef = None
    go false ea false eb false ec true ed f ef = None
    go false ea false eb false ec false ed true ef = None

equal_same : (a b : List ℕ) → is_equal (order_bytes a b) ≡ true → a ≡ b
equal_same a b e = go (order_bytes a b) refl e
  where
    go : (o : Ordering) → order_bytes a b ≡ o → is_equal o ≡ true → a ≡ b
    go Equal q e = order_bytes_same a b q
    go Less q e = absurd (true≢false (sym e))
    go Greater q e = absurd (true≢false (sym e))

-- one of the refuted texts
refuted : (t : List ℕ) → (line t [] → ⊥) → (s : List ℕ) → Option (line s [] → ⊥) → Option (line s [] → ⊥)
refuted t f s o = go (is_equal (order_bytes s t)) refl
  where
    go : (b : Bool) → is_equal (order_bytes s t) ≡ b → Option (line s [] → ⊥)
    go true e = Some (λ l. f (rw (equal_same s t e) at l))
    go false e = o

holding : (s : List ℕ) → Option ((m : Option Members) × Holds s m)
unfolding line_read no_line refuted zero_line two_line deep_line
holding s = yes (line_read s)
  where
    no : Option (line s [] → ⊥) → Option ((m : Option Members) × Holds s m)
    no None = None
    no (Some f) = Some (None, f)

    yes : Option ((ms : Members) × line_of ms s) → Option ((m : Option Members) × Holds s m)
    yes None = no (refuted zero_line zero_no_line s (refuted two_line two_no_line s (refuted deep_line deep_no_line s (no_line s))))
    yes (Some x) = Some (Some x.0, x.1)

-- ---- the table

same : Numbered → Numbered → Bool
same m n = eqb m.refusal n.refusal && eqb m.value n.value

same_true : (m n : Numbered) → same m n ≡ true → m ≡ n
unfolding same
same_true m n e =
    let p = eqb-true m.refusal n.refusal (and_left _ _ e) in
    let q = eqb-true m.value n.value (and_right (eqb m.refusal n.refusal) _ e) in
    λ i. record { refusal = p i; value = q i }

-- whether the steps go as the table says, by what each text holds
taken_so : (s : List ℕ) → Option ((m : Option Members) × Holds s m) → Replica → Numbered → (Replica → Bool) → Bool
unfolding same
taken_so s None r n more = false
taken_so s (Some h) r n more = same (written_number (take_in r h.0).0) n && more (take_in r h.0).1

goes : Replica → List Step → Bool
unfolding taken_so holding
goes r [] = true
goes r (takes l n ∷ steps) = taken_so (texts l) (holding (texts l)) r n (λ q. goes q steps)
goes r (puts t ∷ steps) = is_equal (order_bytes (lines_text lot (tree_of r lot)) (texts t)) && goes r steps

goes_so : (r : Replica) (steps : List Step) → goes r steps ≡ true → Goes r steps
unfolding goes taken_so
goes_so r [] e = tt
goes_so r (puts t ∷ steps) e =
    let b = is_equal (order_bytes (lines_text lot (tree_of r lot)) (texts t)) in
    (equal_same (lines_text lot (tree_of r lot)) (texts t) (and_left b (goes r steps) e), goes_so r steps (and_right b (goes r steps) e))
goes_so r (takes l n ∷ steps) e = go (holding (texts l)) e (λ q f. goes_so q steps f)
  where
    go : (o : Option ((m : Option Members) × Holds (texts l) m)) → taken_so (texts l) o r n (λ q. goes q steps) ≡ true
        → ((q : Replica) → goes q steps ≡ true → Goes q steps) → Goes r (takes l n ∷ steps)
    go None e ih = absurd (true≢false (sym e))
    go (Some h) e ih =
        let o = take_in r h.0 in
        let b = same (written_number o.0) n in (
          o,
          record { members = h.0; holds = h.1; is = refl },
          same_true (written_number o.0) n (and_left b (goes o.1 steps) e),
          ih o.1 (and_right b (goes o.1 steps) e),
        )

goes_table : goes fresh table ≡ true
unfolding goes table texts join pieces any first_that find alter order_n order_bytes order_rev same_rev leaves ancestry path_of document_of tree_of revisions_held
    digits trim decimal hex_digit hex text rev_text hashes along gives add_all added is_new is_new_parent count_new count_parents adds how_many bad_id bad_path low_number other_parent
    other_content documents_full revisions_full sequence_spent room_refusals write_refusals write each all quoted but_last unquote of_string of_plain is_name named
    is_digit decimal_from decimal_value spare_zero read_number is_hex_digit hex_digit_value hex_value read_hash before_dash after_dash read_rev read_ids read_revisions optional
    read_true read_label read_content read_line other_revisions is_writable unwritable as_write line_refusals take_in member_text and_more listed ids_text revisions_text leaf_line lines_text
goes_table = refl

-- the lines of the table, in and out
pub lines_in_and_out : Goes fresh table
lines_in_and_out = goes_so fresh table goes_table
