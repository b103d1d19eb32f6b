-- A hash as a string: where its bytes say that one stands, and where they don't. Assumes nothing.
use mathlib.Core.Bool.{Bool, true, false, ◌&&◌}
use mathlib.Core.List.{List, [], ◌∷◌}
use mathlib.Core.Logic.{◌⊎◌, inl, inr}
use Rattle.std.specs.Prelude.{Option, None, Some}
use mathlib.Core.Path.{◌≡◌, refl, sym, ap, ◌∙◌, subst}
use Prim.Native.Nat.{ℕ, suc, ◌+◌, ◌-◌, ◌≤◌, ◌<◌}
use native.Mathlib.Omega.{arith}
use borrow.Author.Tests.{eq-eqb, ne_eqb, le-leb, lt-leb, eqb-true, eqb-false, leb-true}
use lib.Dec.{eqb, leb}
use lib.ListN.{length, take, drop, get_or, length-append, length-take, length-drop}
use lib.Seq.{drop-drop, drop_at}
use Rattle.rules.specs.Choice.{pick}
use Rattle.rules.specs.Replica.{Hash}
use Rattle.json_text.specs.Members.{plain, Json, value_of}
use Rattle.json_text.specs.Grammar.{string}
use Rattle.json_text.specs.Skips.{OnlyAt}
use Rattle.values.specs.Reading.{ItemAt}
use Rattle.values.proofs.ReadingLaws.{reads_value}
use Rattle.values.proofs.TextLaws.{value_text}
use Rattle.values.proofs.FirstLaws.{string_item, plain_string_at, PlainByte, PlainBytes}
use Rattle.lines.specs.Said.{all, is_hex_digit, of_string, read_hash}
use Rattle.lines.proofs.SaidLaws.{and_left, and_right, hash_is, hex_digit_range}
use Rattle.takes.specs.Spots.{ValueAt}
use Rattle.takes.specs.Path.{hash_in}
use Rattle.takes.proofs.ValueLaws.{is_string, string_said, no_string}

-- ---- by its bytes

pub record HashParts (s : List ℕ) (i : ℕ) (h : Hash) : Type 0 where
  pub within : i + 34 ≤ length s
  pub opens : get_or s i 0 ≡ 34
  pub closes : get_or s (i + 33) 0 ≡ 34
  pub hash : read_hash (take 32 (drop (i + 1) s)) ≡ Some h

module _ (s : List ℕ) (i : ℕ) where
  pub hash_parts : (h : Hash) → hash_in s i ≡ Some h → HashParts s i h
  unfolding hash_in
  hash_parts h e = go (leb (i + 34) (length s)) (eqb (get_or s i 0) 34) (eqb (get_or s (i + 33) 0) 34) refl refl refl e
    where
      no : ◌≡◌ {A = Option Hash} None (Some h) → ⊥
      no k = let z : ◌≡◌ {A = ℕ} 0 1 = cc in omega arith

      go : (a b c : Bool) → leb (i + 34) (length s) ≡ a → eqb (get_or s i 0) 34 ≡ b → eqb (get_or s (i + 33) 0) 34 ≡ c
          → pick (a && (b && c)) (read_hash (take 32 (drop (i + 1) s))) None ≡ Some h → HashParts s i h
      go true true true p q r f =
          record { within = leb-true (i + 34) (length s) p; opens = eqb-true (get_or s i 0) 34 q; closes = eqb-true (get_or s (i + 33) 0) 34 r; hash = f }
      go true true false p q r f = absurd (no f)
      go true false c p q r f = absurd (no f)
      go false b c p q r f = absurd (no f)

  pub hash_in_lem : i + 34 ≤ length s → get_or s i 0 ≡ 34 → get_or s (i + 33) 0 ≡ 34 → hash_in s i ≡ read_hash (take 32 (drop (i + 1) s))
  unfolding hash_in
  hash_in_lem p q r = rw (le-leb (i + 34) (length s) p, eq-eqb (get_or s i 0) 34 q, eq-eqb (get_or s (i + 33) 0) 34 r)

  pub hash_short : length s < i + 34 → hash_in s i ≡ None
  unfolding hash_in
  hash_short p = rw (lt-leb (i + 34) (length s) p)

  and_false : (a b : Bool) → (a && (b && false)) ≡ false
  and_false true true = refl
  and_false true false = refl
  and_false false b = refl

  false_and : (a b : Bool) → (a && (false && b)) ≡ false
  false_and true b = refl
  false_and false b = refl

  pub hash_open : (get_or s i 0 ≡ 34 → ⊥) → hash_in s i ≡ None
  unfolding hash_in
  hash_open f = rw (ne_eqb (get_or s i 0) 34 f, false_and (leb (i + 34) (length s)) (eqb (get_or s (i + 33) 0) 34))

  pub hash_close : (get_or s (i + 33) 0 ≡ 34 → ⊥) → hash_in s i ≡ None
  unfolding hash_in
  hash_close f = rw (ne_eqb (get_or s (i + 33) 0) 34 f, and_false (leb (i + 34) (length s)) (eqb (get_or s i 0) 34))

  -- ---- as an item of an array

  hex_plain : (t : List ℕ) → all is_hex_digit t ≡ true → PlainBytes t
  unfolding all
  hex_plain [] e = tt
  hex_plain (c ∷ t) e = (one (hex_digit_range c (and_left (is_hex_digit c) (all is_hex_digit t) e)), hex_plain t (and_right (is_hex_digit c) (all is_hex_digit t) e))
    where
      one : ((48 ≤ c) × (c ≤ 57)) ⊎ ((97 ≤ c) × (c ≤ 102)) → PlainByte c
      one (inl h) = let a = h.0 in let b = h.1 in record { low = omega arith; high = omega arith; «no_quote» = λ z. omega arith; «no_escape» = λ z. omega arith }
      one (inr h) = let a = h.0 in let b = h.1 in record { low = omega arith; high = omega arith; «no_quote» = λ z. omega arith; «no_escape» = λ z. omega arith }

  pub record HashItem (d : ℕ) (h : Hash) : Type 0 where
    pub value : Json (suc d)
    pub item : ItemAt (value_of (suc d)) value s i (i + 34)
    pub said : of_string read_hash value ≡ Some h

  pub hash_item : (d : ℕ) (h : Hash) → HashParts s i h → HashItem d h
  hash_item d h p =
      let w = p.within in
      let a : i + 34 - 1 ≡ i + 33 = omega arith in
      let b : i + 34 - 1 - (i + 1) ≡ 32 = omega arith in
      let c : take (i + 34 - 1 - (i + 1)) (drop (i + 1) s) ≡ take 32 (drop (i + 1) s) = ap (λ (n : ℕ). take n (drop (i + 1) s)) b in
      let digits : PlainBytes (take (i + 34 - 1 - (i + 1)) (drop (i + 1) s)) = rw c (hex_plain (take 32 (drop (i + 1) s)) (hash_is (take 32 (drop (i + 1) s)) p.hash).1.0) in
      let closes : get_or s (i + 34 - 1) 0 ≡ 34 = rw a p.closes in
      let only : OnlyAt string s i (i + 34) = plain_string_at s i (i + 34) (omega arith) w p.opens closes digits in
      let it = string_item d only in
      record {
        value = plain (take (i + 34 - i) (drop i s));
        item = it;
        said = string_said read_hash (plain (take (i + 34 - i) (drop i s))) (record { from = it.from; within = it.within; is = it.is }) p.opens ∙ (ap read_hash c ∙ p.hash);
      }

  -- where a value ends
  record Place (d : ℕ) (j : Json d) (r : List ℕ) : Type 0 where
    end : ℕ
    at : ValueAt d j s i end

  place : (d : ℕ) (j : Json d) (r : List ℕ) → i ≤ length s → value_of d j (drop i s) r → Place d j r
  place d j r h p =
      let t = value_text d (drop i s) r (reads_value d j (drop i s) r p) in
      let n : length s - i ≡ length t.text + length r = simp (length-append, length-drop) at (ap length t.is) in
      let e : drop (i + length t.text) s ≡ r = sym (drop-drop (length t.text) i s) ∙ (ap (drop (length t.text)) t.is ∙ drop_at t.text r (length t.text) refl) in
      record { end = i + length t.text; at = record { from = omega arith; within = omega arith; is = subst (value_of d j (drop i s)) (sym e) p } }

  pub no_hash : (d : ℕ) (j : Json (suc d)) (r : List ℕ) → i ≤ length s → hash_in s i ≡ None → value_of (suc d) j (drop i s) r → of_string read_hash j ≡ None
  no_hash d j r h none_here p = go (eqb (get_or s i 0) 34) refl
    where
      go : (b : Bool) → eqb (get_or s i 0) 34 ≡ b → of_string read_hash j ≡ None
      go false q = no_string read_hash j (place (suc d) j r h p).at (eqb-false (get_or s i 0) 34 q)
      go true q =
          let x = place (suc d) j r h p in
          let o = eqb-true (get_or s i 0) 34 q in
          string_said read_hash j x.at o ∙ end x.end x.at.within (is_string j x.at o).quotes.wide (is_string j x.at o).quotes.closes o
        where
          end : (e : ℕ) → e ≤ length s → i + 2 ≤ e → get_or s (e - 1) 0 ≡ 34 → get_or s i 0 ≡ 34 → read_hash (take (e - 1 - (i + 1)) (drop (i + 1) s)) ≡ None
          end e a b c o = is (read_hash (take (e - 1 - (i + 1)) (drop (i + 1) s))) refl
            where
              is : (x : Option Hash) → read_hash (take (e - 1 - (i + 1)) (drop (i + 1) s)) ≡ x → x ≡ None
              is None f = refl
              is (Some g) f =
                  let n : length (take (e - 1 - (i + 1)) (drop (i + 1) s)) ≡ 32 = (hash_is (take (e - 1 - (i + 1)) (drop (i + 1) s)) f).0 in
                  let m : e ≡ i + 34 = omega (arith, simp (length-take, length-drop) at n) in
                  let u : e - 1 ≡ i + 33 = omega arith in
                  let v : e - 1 - (i + 1) ≡ 32 = omega arith in
                  let k : get_or s (i + 33) 0 ≡ 34 = ap (λ (y : ℕ). get_or s y 0) (sym u) ∙ c in
                  let z : read_hash (take 32 (drop (i + 1) s)) ≡ Some g = ap (λ (y : ℕ). read_hash (take y (drop (i + 1) s))) (sym v) ∙ f in
                  sym z ∙ (sym (hash_in_lem (omega arith) o k) ∙ none_here)
