-- A line by the productions of `Tight` is one by those of `Rfc`, and the other way round: where
-- white space is told to belong makes no difference to the texts. Assumes nothing.
use mathlib.Core.List.{List}
use mathlib.Core.Logic.{inl, inr}
use Prim.Native.Nat.{ℕ, zero, suc}
use Rattle.json_text.specs.Grammar.{Rule, byte, ◌then◌, ◌or◌, option, many, none, more, white, ws, string, scalar}
use Rattle.json_text.specs.Tight.{member, array, object, value, line, value_separator, name_separator, begin_array, end_array, begin_object, end_object}
use Rattle.json_text.specs.Rfc as rfc
use Rattle.json_text.proofs.WsLaws.{many_join}
use Rattle.json_text.proofs.ListLaws.{Listed}

-- items between brackets with white space on both sides
unfoldable RListed : ℕ → ℕ → Rule → Rule
RListed left close v = (ws then (byte left then ws)) then (option (v then many (value_separator then v)) then (ws then (byte close then ws)))

many_map : (P Q : Rule) → ((a b : List ℕ) → P a b → Q a b) → {a b : List ℕ} → many P a b → many Q a b
many_map P Q f none = none
many_map P Q f (more p m) = more (f _ _ p) (many_map P Q f m)

after_map : (S P Q : Rule) → ((a b : List ℕ) → P a b → Q a b) → (a b : List ℕ) → (S then P) a b → (S then Q) a b
unfolding ◌then◌
after_map S P Q f a b (m, (s, p)) = (m, (s, f m b p))

to_listed : (left close : ℕ) (v u : Rule) → ((a b : List ℕ) → v a b → u a b) → (a b : List ℕ) → Listed left close v a b → RListed left close u a b
unfolding Listed RListed ◌then◌ option ws byte
to_listed left close v u f a b (x, ((y, (e, w)), (n, (inl o, (k, (t, g)))))) = (x, ((a, (none, (y, (e, w)))), (n, (inl o, (k, (t, (b, (g, none))))))))
to_listed left close v u f a b (x, ((y, (e, w)), (n, (inr (z, (p, m)), (k, (t, g)))))) =
    (x, ((a, (none, (y, (e, w)))), (n, (inr (z, (f x z p, many_map (value_separator then v) (value_separator then u) (after_map value_separator v u f) m)), (k, (t, (b, (g, none))))))))

to_value : (d : ℕ) (a b : List ℕ) → value d a b → rfc.value d a b
unfolding value rfc.value ◌or◌ array object rfc.array rfc.object Listed RListed begin_array end_array begin_object end_object rfc.begin_array rfc.end_array rfc.begin_object rfc.end_object rfc.value_separator value_separator member rfc.member name_separator rfc.name_separator
to_value zero a b p = p
to_value (suc d) a b (inl p) = inl p
to_value (suc d) a b (inr (inl p)) =
    inr (inl (to_listed 123 125 (member (value d)) (rfc.member (rfc.value d))
    (λ x y q. after_map string (name_separator then value d) (name_separator then rfc.value d)
    (after_map name_separator (value d) (rfc.value d) (to_value d)) x y q) a b p))
to_value (suc d) a b (inr (inr p)) = inr (inr (to_listed 91 93 (value d) (rfc.value d) (to_value d) a b p))

-- a text of v with white space on both sides
record Wide (v : Rule) (a b : List ℕ) : Type 0 where
  start : List ℕ
  end : List ℕ
  before : many white a start
  is : v start end
  after : many white end b

-- items after the first, with white space before them
record Others (v : Rule) (m n : List ℕ) : Type 0 where
  end : List ℕ
  is : many (value_separator then v) m end
  after : many white end n

module _ (v u : Rule) (f : (a b : List ℕ) → u a b → Wide v a b) where
  others : (m : List ℕ) {k n : List ℕ} → many white m k → many (value_separator then u) k n → Others v m n
  unfolding value_separator ◌then◌ ws
  others m w none = record { end = m; is = none; after = w }
  others m w (more (x, ((q, (s, (r, (e, t)))), p)) l) =
      let g = f x _ p in
      let o = others g.end g.after l in
      record { end = o.end; is = more (g.start, ((q, (many_join w s, (r, (e, many_join t g.before)))), g.is)) o.is; after = o.after }

  from_listed : (left close : ℕ) (a b : List ℕ) → RListed left close u a b → Wide (Listed left close v) a b
  unfolding Listed RListed ◌then◌ option ws byte
  from_listed left close a b (x, ((h, (i, (y, (e, w)))), (n, (inl o, (k, (t, (c, (g, z)))))))) =
      record { start = h; end = c; before = i; is = (x, ((y, (e, w)), (n, (inl o, (k, (t, g)))))); after = z }
  from_listed left close a b (x, ((h, (i, (y, (e, w)))), (n, (inr (m, (p, l)), (k, (t, (c, (g, z)))))))) =
      let q = f x m p in
      let o = others q.end q.after l in
      record {
        start = h;
        end = c;
        before = i;
        after = z;
        is = (q.start, ((y, (e, many_join w q.before)), (o.end, (inr (q.end, (q.is, o.is)), (k, (many_join o.after t, g))))));
      }

wide : (v : Rule) (a b : List ℕ) → v a b → Wide v a b
wide v a b p = record { start = a; end = b; before = none; is = p; after = none }

wide_map : (v u : Rule) → ((a b : List ℕ) → v a b → u a b) → (a b : List ℕ) → Wide v a b → Wide u a b
wide_map v u f a b p = record { start = p.start; end = p.end; before = p.before; is = f p.start p.end p.is; after = p.after }

from_member : (v u : Rule) → ((a b : List ℕ) → u a b → Wide v a b) → (a b : List ℕ) → rfc.member u a b → Wide (member v) a b
unfolding member rfc.member name_separator rfc.name_separator ◌then◌ ws
from_member v u f a b (m, (s, (x, ((q, (t, (r, (e, w)))), p)))) =
    let g = f x b p in
    record { start = a; end = g.end; before = none; is = (m, (s, (g.start, ((q, (t, (r, (e, many_join w g.before)))), g.is)))); after = g.after }

from_value : (d : ℕ) (a b : List ℕ) → rfc.value d a b → Wide (value d) a b
unfolding value rfc.value ◌or◌ array object rfc.array rfc.object Listed RListed begin_array end_array begin_object end_object rfc.begin_array rfc.end_array rfc.begin_object rfc.end_object rfc.value_separator value_separator
from_value zero a b p = wide scalar a b p
from_value (suc d) a b (inl p) = wide_map scalar (value (suc d)) (λ x y q. inl q) a b (wide scalar a b p)
from_value (suc d) a b (inr (inl p)) =
    wide_map (object (value d)) (value (suc d)) (λ x y q. inr (inl q)) a b
    (from_listed (member (value d)) (rfc.member (rfc.value d)) (from_member (value d) (rfc.value d) (from_value d)) 123 125 a b p)
from_value (suc d) a b (inr (inr p)) =
    wide_map (array (value d)) (value (suc d)) (λ x y q. inr (inr q)) a b
    (from_listed (value d) (rfc.value d) (from_value d) 91 93 a b p)

-- The theorem.
pub line_to_rfc : (a b : List ℕ) → line a b → rfc.line a b
unfolding line rfc.line ◌then◌ object rfc.object Listed RListed begin_object end_object rfc.begin_object rfc.end_object rfc.value_separator value_separator rfc.member member name_separator rfc.name_separator
line_to_rfc a b (x, (w, (y, (p, z)))) = (
  x,
  (
    w,
    (
      y,
      (
        to_listed 123 125 (member (value 15)) (rfc.member (rfc.value 15))
            (λ m n q. after_map string (name_separator then value 15) (name_separator then rfc.value 15)
            (after_map name_separator (value 15) (rfc.value 15) (to_value 15)) m n q) x y p,
        z,
      ),
    ),
  ),
)

pub line_from_rfc : (a b : List ℕ) → rfc.line a b → line a b
unfolding line rfc.line ◌then◌ ws object rfc.object Listed RListed begin_object end_object rfc.begin_object rfc.end_object rfc.value_separator value_separator
line_from_rfc a b (x, (w, (y, (p, z)))) =
    let g = from_listed (member (value 15)) (rfc.member (rfc.value 15)) (from_member (value 15) (rfc.value 15) (from_value 15)) 123 125 x y p in
    (g.start, (many_join w g.before, (g.end, (g.is, many_join g.after z))))
