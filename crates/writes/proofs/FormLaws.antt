-- The refusals of a write's form: what each test is of the bytes, and what a good form gives. Assumes nothing.
use mathlib.Core.Path.{◌≡◌, refl, sym, ap, ◌∙◌}
use mathlib.Core.Bool.{true, false, not, ◌||◌}
use mathlib.Core.List.{List}
use Rattle.std.specs.Prelude.{None, Some}
use Prim.Native.Nat.{ℕ, ◌/◌, ◌%◌, ◌≤◌}
use native.Mathlib.Omega.{arith}
use lib.Dec.{eqb, ltb}
use lib.ListN.{length}
use borrow.Author.Tests.{eq-eqb, ne_eqb, eqb-true, eqb-false, ltb-false, not-false}
use Rattle.rules.specs.declared.Refusal.TheVariants.{BadId, BadPath, LowNumber}
use Rattle.rules.specs.declared.RevNumber.{RevNumber}
use Rattle.rules.specs.Choice.{first_that}
use Rattle.rules.specs.Room.{hash_size, hashes_most, id_most}
use Rattle.rules.specs.Write.{Write, hashes, bad_id, bad_path, low_number, form_refusals}
use Rattle.rules.proofs.ByteLaws.{length-pieces}
use Rattle.rules.proofs.ChoiceLaws.{or_left, or_right, none_holds, holds_none}
use Rattle.writes.specs.Path.{count_of, GoodForm}

pub length-hashes : (w : Write) → length (hashes w) ≡ count_of w.path
unfolding hashes count_of
length-hashes w = length-pieces (length w.path / hash_size) hash_size w.path

-- ---- the tests, of the bytes that a write's path are

module _ (w : Write) where
  path_test : bad_path w ≡ (not (eqb (length w.path % hash_size) 0) || (eqb (count_of w.path) 0 || ltb hashes_most (count_of w.path)))
  unfolding bad_path
  path_test = ap (λ (n : ℕ). not (eqb (length w.path % hash_size) 0) || (eqb n 0 || ltb hashes_most n)) (length-hashes w)

  number_test : low_number w ≡ ltb w.number.0 (count_of w.path)
  unfolding low_number
  number_test = ap (ltb w.number.0) (length-hashes w)

  module _ (path : List ℕ) (e : w.path ≡ path) where
    path_is : bad_path w ≡ (not (eqb (length path % hash_size) 0) || (eqb (length path / hash_size) 0 || ltb hashes_most (length path / hash_size)))
    unfolding count_of
    path_is = path_test ∙ rw e refl

    pub part-hash : (length path % hash_size ≡ 0 → ⊥) → true ≡ bad_path w
    part-hash n = sym (path_is ∙ rw (ne_eqb (length path % hash_size) 0 n) refl)

    module _ (whole : length path % hash_size ≡ 0) where
      pub no_hashes : length path / hash_size ≡ 0 → true ≡ bad_path w
      no_hashes n = sym (path_is ∙ rw (eq-eqb (length path % hash_size) 0 whole, eq-eqb (length path / hash_size) 0 n) refl)

      pub some_hashes : (length path / hash_size ≡ 0 → ⊥) → ltb hashes_most (length path / hash_size) ≡ bad_path w
      some_hashes n = sym (path_is ∙ rw (eq-eqb (length path % hash_size) 0 whole, ne_eqb (length path / hash_size) 0 n) refl)

    pub number_is : (number : RevNumber) → w.number ≡ number → ltb number.0 (length path / hash_size) ≡ low_number w
    unfolding count_of
    number_is number f = sym (number_test ∙ rw (e, f) refl)

-- ---- the first that holds

module _ (w : Write) where
  pub form_1 : bad_id w.id ≡ true → first_that (form_refusals w) ≡ Some BadId
  unfolding first_that
  form_1 i = rw i refl

  pub form_2 : bad_id w.id ≡ false → bad_path w ≡ true → first_that (form_refusals w) ≡ Some BadPath
  unfolding first_that
  form_2 i p = rw (i, p) refl

  pub form_3 : bad_id w.id ≡ false → bad_path w ≡ false → low_number w ≡ true → first_that (form_refusals w) ≡ Some LowNumber
  unfolding first_that
  form_3 i p n = rw (i, p, n) refl

  pub form_clear : bad_id w.id ≡ false → bad_path w ≡ false → low_number w ≡ false → first_that (form_refusals w) ≡ None
  form_clear i p n = holds_none (form_refusals w) (i, (p, (n, tt)))

-- ---- a good form

pub positive : (k : ℕ) → (k ≡ 0 → ⊥) → 1 ≤ k
positive k h = omega arith

pub good_form : (w : Write) → first_that (form_refusals w) ≡ None → GoodForm w
unfolding bad_id count_of
good_form w e =
    let a = none_holds (form_refusals w) e in
    let p = sym (path_test w) ∙ a.1.0 in
    let x = eqb-true (length w.path % hash_size) 0 (not-false _ (or_left (not (eqb (length w.path % hash_size) 0)) _ p)) in
    let q = or_right (not (eqb (length w.path % hash_size) 0)) _ p in
    let y = eqb-false (count_of w.path) 0 (or_left (eqb (count_of w.path) 0) _ q) in
    let z = ltb-false hashes_most (count_of w.path) (or_right (eqb (count_of w.path) 0) _ q) in
    let n = ltb-false w.number.0 (count_of w.path) (sym (number_test w) ∙ a.1.1.0) in
    let u = eqb-false (length w.id) 0 (or_left (eqb (length w.id) 0) _ a.0) in
    let v = ltb-false id_most (length w.id) (or_right (eqb (length w.id) 0) _ a.0) in
    record {
      size = omega arith;
      least = positive (count_of w.path) y;
      most = z;
      deep = n;
      id_least = positive (length w.id) u;
      id_at_most = v;
    }
