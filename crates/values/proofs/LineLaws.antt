-- What a whole line holds, from the places of its object. Assumes nothing.
use mathlib.Core.Path.{◌≡◌}
use mathlib.Core.List.{List, []}
use Prim.Native.Nat.{ℕ, ◌≤◌, ◌<◌}
use native.Mathlib.Omega.{arith}
use lib.ListN.{length, get_or, drop, drop_of_length-le}
use Rattle.json_text.specs.Grammar.{◌then◌, ws}
use Rattle.json_text.specs.Tight.{object, value}
use Rattle.json_text.specs.Rfc.{line}
use Rattle.json_text.specs.Members.{Json, object_of, value_of, line_of}
use Rattle.json_text.specs.Skips.{WsTo, EndsAt, NoText}
use Rattle.values.specs.Reading.{ListAt, NoList}
use Rattle.values.proofs.ValueLaws.{line_no_brace, line_no_object, line_more}
use Rattle.values.proofs.RfcLaws.{line_from_rfc}
use Rattle.values.proofs.ItemLaws.{object_text, no_object_text}

-- i is the place of the object's bracket, after white space
module _ {s : List ℕ} {i : ℕ} (w : WsTo s 0 i) where
  pub no_brace : (get_or s i 0 ≡ 123 → ⊥) → line s [] → ⊥
  no_brace f l = line_no_brace s i w f (line_from_rfc s [] l)

  pub no_object : NoList (object_of (value_of 15)) s i → line s [] → ⊥
  unfolding NoText
  no_object f l = line_no_object s i w (λ r p z. no_object_text 15 s i f r p) (line_from_rfc s [] l)

  module _ {ms : List (List ℕ × Json 15)} {e n : ℕ} (o : ListAt (object_of (value_of 15)) ms s i e) (v : WsTo s e n) where
    -- nothing stands after the white space
    pub line_holds : length s ≤ n → line_of ms s
    unfolding line_of ◌then◌ ws
    line_holds h = (drop i s, (w.is, (drop e s, (o.is, rw (drop_of_length-le s h) at v.is))))

    -- something does
    pub no_end : n < length s → line s [] → ⊥
    no_end h l = line_more s i w e n ends v h (line_from_rfc s [] l)
      where
        ends : EndsAt (object (value 15)) s i e
        ends = let t = object_text 15 o in record { from = le t.from; within = t.within; is = t.is; only = λ r p z. t.only r p }
          where
            le : i < e → i ≤ e
            le k = omega arith
