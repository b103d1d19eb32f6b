-- What a read answers and leaves, by the first refusal that holds. Assumes nothing.
use mathlib.Core.Path.{◌≡◌, refl, sym, ap, ◌∙◌}
use Rattle.std.specs.Prelude.{Ok, Err}
use mathlib.Core.Bool.{Bool, true, false}
use mathlib.Core.List.{List, [], ◌∷◌, ◌++◌, append_assoc}
use Rattle.std.specs.Prelude.{None, Some}
use Prim.Native.Nat.{ℕ, ◌≤◌, ◌<◌}
use native.Mathlib.Nat.{zero-add}
use borrow.Author.Tests.{lt-ltb, le-ltb}
use lib.ListN.{length}
use Rattle.rules.specs.declared.Refusal.{Refusal}
use Rattle.rules.specs.declared.Refusal.TheVariants.{ShortBuffer}
use Rattle.rules.specs.Choice.{first_that}
use Rattle.rules.specs.Outcome.{Does}
use Rattle.rules.specs.Read.{front, short_buffer, lend, reads}
use Rattle.rules.proofs.MapLaws.{none≢some}
use Rattle.octets.specs.Splice.{splice}

-- ---- the first condition that holds

pub first_past : {A : Type 0} (ts us : List (Bool × A)) → first_that ts ≡ None → first_that (ts ++ us) ≡ first_that us
unfolding first_that
first_past [] us e = refl
first_past ((true, x) ∷ ts) us e = absurd (none≢some (sym e))
first_past ((false, x) ∷ ts) us e = first_past ts us e

pub first_some : {A : Type 0} (ts us : List (Bool × A)) (x : A) → first_that ts ≡ Some x → first_that (ts ++ us) ≡ Some x
unfolding first_that
first_some [] us x e = absurd (none≢some e)
first_some ((true, y) ∷ ts) us x e = e
first_some ((false, y) ∷ ts) us x e = first_some ts us x e

-- ---- a buffer that is long enough, or not

-- bytes written at the front
pub front_splice : (bytes out : List ℕ) → splice out 0 bytes ≡ front bytes out
unfolding splice front
front_splice bytes out = rw (zero-add (length bytes))

module _ {A : Type 0} (refused : Refusal → A) (answer : A) (bytes out : List ℕ) where
  pub lend_short : length out < length bytes → Does (lend refused out answer bytes (first_that (short_buffer bytes out ∷ []))) (refused ShortBuffer) out
  unfolding first_that short_buffer
  lend_short h = rw (lt-ltb _ _ h) (record { answers = refl; left = refl })

  pub lend_answers : (x : A) (after : List ℕ) → length bytes ≤ length out → x ≡ answer → after ≡ splice out 0 bytes
      → Does (lend refused out answer bytes (first_that (short_buffer bytes out ∷ []))) x after
  unfolding first_that short_buffer
  lend_answers x after h e w = rw (le-ltb _ _ h) (record { answers = e; left = w ∙ front_splice bytes out })

module _ (ts us : List (Bool × Refusal)) (n : ℕ) (bytes out : List ℕ) where
  -- what was tested before and does not hold
  pub reads_past : first_that ts ≡ None → reads (ts ++ us) n bytes out ≡ reads us n bytes out
  unfolding reads
  reads_past e = rw (append_assoc ts us (short_buffer bytes out ∷ []), first_past ts (us ++ (short_buffer bytes out ∷ [])) e)

  pub reads_refused : (x : Refusal) → first_that ts ≡ Some x → Does (reads (ts ++ us) n bytes out) (Err x) out
  unfolding reads
  reads_refused x e =
      rw (append_assoc ts us (short_buffer bytes out ∷ []), first_some ts (us ++ (short_buffer bytes out ∷ [])) x e)
      (record { answers = refl; left = refl })

module _ (n : ℕ) (bytes out : List ℕ) where
  pub reads_short : length out < length bytes → Does (reads [] n bytes out) (Err ShortBuffer) out
  unfolding reads
  reads_short h = lend_short Err (Ok n) bytes out h

  pub reads_answers : (m : ℕ) (after : List ℕ) → length bytes ≤ length out → m ≡ n → after ≡ splice out 0 bytes → Does (reads [] n bytes out) (Ok m) after
  unfolding reads
  reads_answers m after h e w = lend_answers Err (Ok n) bytes out (Ok m) after h (ap Ok e) w
