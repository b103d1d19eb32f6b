-- Texts that are no lines, for the proved examples: a spare zero, too deep, more than one object. Assumes nothing.
use mathlib.Core.Path.{◌≡◌, refl, sym, ◌∙◌}
use Rattle.std.specs.Prelude.{None}
use mathlib.Core.List.{List, []}
use mathlib.Core.Logic.{◌⊎◌, inl, inr}
use Prim.Native.Nat.{ℕ, zero, suc, ◌+◌, ◌≤◌, ◌<◌}
use native.Mathlib.Omega.{arith}
use native.Mathlib.Numerals.{sub-one}
use lib.ListN.{length, get_or, drop}
use Rattle.rules.specs.Choice.{any}
use Rattle.rules.specs.Report.{text}
use Rattle.json_text.specs.Grammar as grammar
use Rattle.json_text.specs.Grammar.{◌then◌, option, ws, string, int, frac, exp, number}
use Rattle.json_text.specs.Rfc as rfc
use Rattle.json_text.specs.Skips.{WsTo, EndsAt, NoText, Not}
use Rattle.json_text.specs.Tight.{begin_array, end_array, begin_object, end_object, array, member, object, value}
use Rattle.json_text.proofs.WsLaws.{white_no, stands}
use Rattle.json_text.proofs.ListLaws.{Dark, Listed, closes_array, closes_object, list_none, list_first, list_no_item}
use Rattle.json_text.proofs.NumberLaws.{digit_yes, end_nodigit, frac_none, int_zero, number_plain}
use Rattle.json_text.proofs.StepLaws.{skips_runs, skips_goes}
use Rattle.json_text.proofs.ScalarLaws.{scalar_number}
use Rattle.values.proofs.OnlyLaws.{alone_string}
use Rattle.values.proofs.RfcLaws.{line_from_rfc}
use Rattle.values.proofs.ValueLaws.{value_too_deep, skips_array, skips_scalar, value_headed, member_headed, member_goes, line_no_object, line_more}
use Rattle.lines.specs.Said.{quoted}
use Rattle.lines.specs.Take.{is_writable, unwritable}
use Rattle.lines.proofs.ShownLaws.{string_quoted}

-- no white space at a place
no_white : (s : List ℕ) (at c : ℕ) → get_or s at 0 ≡ c → at ≤ length s → Dark c → WsTo s at at
unfolding ws
no_white s at c e h d = record {
  from = omega arith;
  within = h;
  is = grammar.none;
  all = white_no s at (λ z. d.space (sym e ∙ z)) (λ z. d.tab (sym e ∙ z)) (λ z. d.feed (sym e ∙ z)) (λ z. d.return (sym e ∙ z));
}

dark_high : (c : ℕ) → 33 ≤ c → Dark c
dark_high c h = record { space = λ e. omega arith; tab = λ e. omega arith; feed = λ e. omega arith; return = λ e. omega arith }

-- ---- a number that leads with a spare zero

module _ (s : List ℕ) (at : ℕ) (z : get_or s at 0 ≡ 48) (l : 48 ≤ get_or s (at + 1) 0) (h : get_or s (at + 1) 0 ≤ 57) where
  no_number : NoText number s at
  unfolding NoText Not
  no_number =
      skips_runs number (int then option frac then option exp) s at at (number_plain s at (λ e. omega arith)) None
      (skips_runs (int then option frac then option exp) (option frac then option exp) s at (at + 1) (int_zero s at z) None
      (skips_runs (option frac then option exp) (option exp) s (at + 1) (at + 1) (frac_none s (at + 1) (λ e. omega arith)) None
      (λ r p q. end_nodigit (drop (at + 1) s) r p q _ (digit_yes s (at + 1) l h).1)))

  spare_zero_lem : (d : ℕ) → NoText (value d) s at
  spare_zero_lem d =
      skips_scalar s at d (λ e. omega arith) (λ e. omega arith) None (scalar_number s at (λ e. omega arith) (omega arith) None no_number)

-- ---- arrays in arrays

no_items : (d : ℕ) (s : List ℕ) (at c : ℕ) → get_or s at 0 ≡ 91 → get_or s (at + 1) 0 ≡ c → 94 ≤ c ⊎ (c ≡ 91) → NoText (value d) s (at + 1) → NoText (array (value d)) s at
unfolding array begin_array end_array Listed
no_items d s at c e f h n =
    let k : at < length s = stands s at 91 e (omega arith) in
    list_no_item 93 (value d) closes_array (value_headed d) (Listed 91 93 (value d)) s at (at + 1)
    (list_first 93 (value d) closes_array (value_headed d) 91 s at e (omega arith) (at + 1) (no_white s (at + 1) c f (omega arith) (dark_high c (high h)))
    (λ q. other h (sym f ∙ q)))
    n
  where
    high : (94 ≤ c) ⊎ (c ≡ 91) → 33 ≤ c
    high (inl x) = omega arith
    high (inr x) = omega arith

    other : (94 ≤ c) ⊎ (c ≡ 91) → c ≡ 93 → ⊥
    other (inl x) q = omega arith
    other (inr x) q = omega arith

-- opening brackets, one more than d
abbrev Opens : ℕ → List ℕ → ℕ → Type 0
Opens zero s at = get_or s at 0 ≡ 91
Opens (suc d) s at = (get_or s at 0 ≡ 91) × Opens d s (at + 1)

opens : (d : ℕ) (s : List ℕ) (at : ℕ) → Opens d s at → get_or s at 0 ≡ 91
opens zero s at o = o
opens (suc d) s at o = o.0

too_deep : (d : ℕ) (s : List ℕ) (at : ℕ) → Opens d s at → NoText (value d) s at
too_deep zero s at o = value_too_deep s at 0 91 o (inl refl) refl
too_deep (suc d) s at o =
    skips_array s at (suc d) o.0 (λ e. omega arith) None
    (rw sub-one (no_items d s at 91 o.0 (opens d s (at + 1) o.1) (inr refl) (too_deep d s (at + 1) o.1)))

-- ---- lines

module _ (s : List ℕ) (b : get_or s 0 0 ≡ 123) where
  at_once : WsTo s 0 0
  at_once = no_white s 0 123 b (omega arith) (dark_high 123 (omega arith))

  -- whose first member has no value
  no_first_value : (e c : ℕ) → get_or s 1 0 ≡ 34 → EndsAt string s 1 e → get_or s e 0 ≡ 58 → get_or s (e + 1) 0 ≡ c → 33 ≤ c → NoText (value 15) s (e + 1) → rfc.line s [] → ⊥
  unfolding object begin_object end_object Listed
  no_first_value e c q n k f h v l =
      let x : e < length s = stands s e 58 k (omega arith) in
      let m : NoText (member (value 15)) s 1 =
      skips_goes (member (value 15)) (value 15) s 1 (e + 1)
      (member_goes (value 15) (value_headed 15) s 1 e e n (no_white s e 58 k (omega arith) (dark_high 58 (omega arith))) (e + 1) k (no_white s (e + 1) c f (omega arith) (dark_high c h)))
      None v in
      line_no_object s 0 at_once
      (list_no_item 125 (member (value 15)) closes_object (member_headed (value 15)) (Listed 123 125 (member (value 15))) s 0 1
      (list_first 125 (member (value 15)) closes_object (member_headed (value 15)) 123 s 0 b (omega arith) 1 (no_white s 1 34 q (omega arith) (dark_high 34 (omega arith)))
      (λ z. omega arith))
      m)
      (line_from_rfc s [] l)

  -- with more after an empty object
  no_second : (c : ℕ) → get_or s 1 0 ≡ 125 → get_or s 2 0 ≡ c → 33 ≤ c → rfc.line s [] → ⊥
  unfolding object begin_object end_object Listed
  no_second c q f h l =
      let x : 2 < length s = stands s 2 c f (omega arith) in
      line_more s 0 at_once 2 2
      (list_none 125 (member (value 15)) closes_object (member_headed (value 15)) 123 s 0 b (omega arith) 1 (no_white s 1 125 q (omega arith) (dark_high 125 (omega arith))) q)
      (no_white s 2 c f (omega arith) (dark_high c h)) x (line_from_rfc s [] l)

-- ---- the texts

unfoldable pub zero_line : List ℕ
zero_line = text "{\"label\":07}"

unfoldable pub deep_line : List ℕ
deep_line = text "{\"a\":[[[[[[[[[[[[[[[[]]]]]]]]]]]]]]]]}"

unfoldable pub two_line : List ℕ
two_line = text "{}{}"

pub zero_no_line : rfc.line zero_line [] → ⊥
unfolding zero_line text quoted unwritable any is_writable
zero_no_line =
    no_first_value zero_line refl 8 48 refl
    (let n : string (drop 1 zero_line) (drop 8 zero_line) = string_quoted (text "label") (text ":07}") refl in
    record { from = omega arith; within = omega arith; is = n; only = λ r p z. alone_string _ _ _ p n })
    refl refl (omega arith) (spare_zero_lem zero_line 9 refl (omega arith) (omega arith) 15)

pub deep_no_line : rfc.line deep_line [] → ⊥
unfolding deep_line text quoted unwritable any is_writable
deep_no_line =
    no_first_value deep_line refl 4 91 refl
    (let n : string (drop 1 deep_line) (drop 4 deep_line) = string_quoted (text "a") (text ":[[[[[[[[[[[[[[[[]]]]]]]]]]]]]]]]}") refl in
    record { from = omega arith; within = omega arith; is = n; only = λ r p z. alone_string _ _ _ p n })
    refl refl (omega arith) (too_deep 15 deep_line 5 (refl, (refl, (refl, (refl, (refl, (refl, (refl, (refl, (refl, (refl, (refl, (refl, (refl, (refl, (refl, refl))))))))))))))))

pub two_no_line : rfc.line two_line [] → ⊥
unfolding two_line text
two_no_line = no_second two_line refl 123 refl refl (omega arith)
