-- What the first dash parts, and what a revision's two parts make of it. Assumes nothing.
use mathlib.Core.Path.{◌≡◌, refl, sym, ap, ◌∙◌}
use mathlib.Core.Bool.{Bool, true, false, not, cond}
use mathlib.Core.List.{List, [], ◌∷◌}
use Rattle.std.specs.Prelude.{Option, None, Some}
use Rattle.std.specs.List.{position, position_or_len}
use Prim.Native.Nat.{ℕ, suc, ◌+◌, ◌-◌, ◌≤◌, ◌<◌}
use native.Mathlib.Numerals.{add-one}
use native.Mathlib.Omega.{arith}
use lib.Dec.{eqb, ltb}
use lib.ListN.{length, take, drop, drop_of_length-le, length-drop}
use lib.Seq.{take_all}
use borrow.Author.Tests.{ltb-true, ltb-false}
use Rattle.rules.specs.Choice.{pick}
use Rattle.rules.specs.Replica.{Hash, revision}
use Rattle.rules.specs.Room.{number_most}
use Rattle.rules.proofs.MapLaws.{none≢some, some_inj}
use Rattle.lines.specs.Said.{both, read_number, read_hash, dash_byte, before_dash, after_dash, read_rev}

-- ---- the first dash

abbrev pub is_dash : ℕ → Bool
is_dash c = eqb c dash_byte

before_at : (t : List ℕ) → before_dash t ≡ take (position_or_len is_dash t) t
unfolding before_dash
before_at [] = refl
before_at (c ∷ t) = go (is_dash c) (before_at t)
  where
    go : (b : Bool) → before_dash t ≡ take (position_or_len is_dash t) t
        → pick b [] (c ∷ before_dash t) ≡ take (cond (not b) (1 + position_or_len is_dash t) 0) (c ∷ t)
    go true e = refl
    go false e = let n : 1 + position_or_len is_dash t ≡ suc (position_or_len is_dash t) = omega arith in rw n (ap (λ (l : List ℕ). c ∷ l) e)

after_at : (t : List ℕ) → after_dash t ≡ drop (suc (position_or_len is_dash t)) t
unfolding after_dash
after_at [] = refl
after_at (c ∷ t) = go (is_dash c) (after_at t)
  where
    go : (b : Bool) → after_dash t ≡ drop (suc (position_or_len is_dash t)) t
        → pick b t (after_dash t) ≡ drop (suc (cond (not b) (1 + position_or_len is_dash t) 0)) (c ∷ t)
    go true e = refl
    go false e = let n : 1 + position_or_len is_dash t ≡ suc (position_or_len is_dash t) = omega arith in rw n e

-- i is the place of the first dash
pub record DashAt (t : List ℕ) (i : ℕ) : Type 0 where
  pub within : i < length t
  pub before : before_dash t ≡ take i t
  pub after : after_dash t ≡ drop (i + 1) t

pub a_dash : (t : List ℕ) (i : ℕ) → position is_dash t ≡ Some i → DashAt t i
a_dash t i e = go (ltb (position_or_len is_dash t) (length t)) refl
  where
    go : (b : Bool) → ltb (position_or_len is_dash t) (length t) ≡ b → DashAt t i
    go true q =
        let n : position_or_len is_dash t ≡ i = some_inj (rw q at e) in
        let h = ltb-true _ _ q in
        record { within = rw (sym n) h; before = rw (sym n) (before_at t); after = rw (sym n, add-one) (after_at t) }
    go false q = absurd (none≢some (rw q at e))

-- ---- a revision or none

no_dash_past : (t : List ℕ) → length t ≤ position_or_len is_dash t → read_rev t ≡ None
unfolding read_rev
no_dash_past t h =
    let k : length t ≤ suc (position_or_len is_dash t) = omega arith in
    let e : after_dash t ≡ [] = after_at t ∙ drop_of_length-le t k in
    rw e (nothing (read_number number_most (before_dash t)))
  where
    nothing : (n : Option ℕ) → both revision n (read_hash []) ≡ None
    nothing None = refl
    nothing (Some n) = unfold read_hash in refl

pub no_dash : (t : List ℕ) → position is_dash t ≡ None → read_rev t ≡ None
no_dash t e = go (ltb (position_or_len is_dash t) (length t)) refl
  where
    go : (b : Bool) → ltb (position_or_len is_dash t) (length t) ≡ b → read_rev t ≡ None
    go true q = absurd (none≢some (sym (rw q at e)))
    go false q = no_dash_past t (ltb-false _ _ q)

module _ (t : List ℕ) (i : ℕ) (d : DashAt t i) where
  pub no_number : read_number number_most (take i t) ≡ None → read_rev t ≡ None
  unfolding read_rev
  no_number e = rw (d.before, e) refl

  pub no_hash : {n : ℕ} → read_number number_most (take i t) ≡ Some n → read_hash (drop (i + 1) t) ≡ None → read_rev t ≡ None
  unfolding read_rev
  no_hash e f = rw (d.before, d.after, e, f) refl

  pub a_rev : {n : ℕ} {h : Hash} → read_number number_most (take i t) ≡ Some n → read_hash (drop (i + 1) t) ≡ Some h → read_rev t ≡ Some (revision n h)
  unfolding read_rev
  a_rev e f = rw (d.before, d.after, e, f) refl

-- all that is left of a text
pub left_whole : (t : List ℕ) (k : ℕ) → drop k t ≡ take (length t - k) (drop k t)
left_whole t k = sym (take_all (length t - k) (drop k t) (simp length-drop (omega arith)))
