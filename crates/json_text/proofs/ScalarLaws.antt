-- Laws of strings, numbers and literal names. Assumes nothing.
use mathlib.Core.Path.{◌≡◌, ◌∙◌}
use Rattle.std.specs.Prelude.{Option, None, Some}
use mathlib.Core.List.{List, ◌∷◌}
use mathlib.Core.Logic.{inl, inr}
use Prim.Native.Nat.{ℕ, ◌≤◌, ◌<◌}
use native.Mathlib.Omega.{arith}
use lib.ListN.{get_or, drop}
use Rattle.json_text.specs.Grammar.{Rule, byte, range, option, ◌then◌, ◌or◌, scalar, string, number, int, literal}
use Rattle.json_text.specs.Skips.{NoText, Skips}
use Rattle.json_text.proofs.WsLaws.{byte_at}
use Rattle.json_text.proofs.ListLaws.{Dark}

-- a byte that begins a value which is neither an object nor an array
pub record Plain (c : ℕ) : Type 0 where
  pub dark : Dark c
  pub no91 : c ≡ 91 → ⊥
  pub no93 : c ≡ 93 → ⊥
  pub no123 : c ≡ 123 → ⊥
  pub no125 : c ≡ 125 → ⊥

-- what begins so
pub record Starts (a : List ℕ) : Type 0 where
  pub first : ℕ
  pub after : List ℕ
  pub is : a ≡ first ∷ after
  pub plain : Plain first

-- a list that begins with a byte from lo to hi
pub record First (lo hi : ℕ) (a : List ℕ) : Type 0 where
  pub first : ℕ
  pub after : List ℕ
  pub is : a ≡ first ∷ after
  pub low : lo ≤ first
  pub high : first ≤ hi

pub first_at : (lo hi : ℕ) (s : List ℕ) (at : ℕ) → First lo hi (drop at s) → (lo ≤ get_or s at 0) × (get_or s at 0 ≤ hi)
first_at lo hi s at f = let e : get_or s at 0 ≡ f.first = byte_at s at f.first f.after f.is in (omega arith, omega arith)

plain_low : (c : ℕ) → 33 ≤ c → c ≤ 90 → Plain c
plain_low c l h =
    record {
      dark = record {
        space = λ e. omega arith;
        tab = λ e. omega arith;
        feed = λ e. omega arith;
        return = λ
            e. omega arith;
      };
      no91 = λ e. omega arith;
      no93 = λ e. omega arith;
      no123 = λ e. omega arith;
      no125 = λ e. omega
          arith;
    }

plain_high : (c : ℕ) → 94 ≤ c → c ≤ 122 → Plain c
plain_high c l h =
    record {
      dark = record {
        space = λ e. omega arith;
        tab = λ e. omega arith;
        feed = λ e. omega arith;
        return = λ
            e. omega arith;
      };
      no91 = λ e. omega arith;
      no93 = λ e. omega arith;
      no123 = λ e. omega arith;
      no125 = λ e. omega
          arith;
    }

pub string_first : (a b : List ℕ) → string a b → First 34 34 a
unfolding string ◌then◌ byte
string_first a b (n, (e, f)) = record { first = 34; after = n; is = e; low = omega arith; high = omega arith }

pub literal_first : (a b : List ℕ) → literal a b → First 102 116 a
unfolding literal ◌or◌ ◌then◌ byte
literal_first a b (inl (n, (e, f))) = record { first = 102; after = n; is = e; low = omega arith; high = omega arith }
literal_first a b (inr (inl (n, (e, f)))) = record { first = 110; after = n; is = e; low = omega arith; high = omega arith }
literal_first a b (inr (inr (n, (e, f)))) = record { first = 116; after = n; is = e; low = omega arith; high = omega arith }

pub int_first : (a b : List ℕ) → int a b → First 48 57 a
unfolding int ◌or◌ ◌then◌ byte range
int_first a b (inl e) = record { first = 48; after = b; is = e; low = omega arith; high = omega arith }
int_first a b (inr (n, ((c, (l, (h, e))), m))) = record { first = c; after = n; is = e; low = omega arith; high = h }

pub number_first : (a b : List ℕ) → number a b → First 45 57 a
unfolding number ◌then◌ byte option
number_first a b (n, (inl e, (m, (i, p)))) = let f = int_first n m i in record { first = f.first; after = f.after; is = e ∙ f.is; low = omega arith; high = f.high }
number_first a b (n, (inr e, p)) = record { first = 45; after = n; is = e; low = omega arith; high = omega arith }

pub scalar_starts : (a b : List ℕ) → scalar a b → Starts a
unfolding scalar ◌or◌
scalar_starts a b (inl p) = let f = literal_first a b p in record { first = f.first; after = f.after; is = f.is; plain = plain_high f.first (omega arith) (omega arith) }
scalar_starts a b (inr (inl p)) = let f = number_first a b p in record { first = f.first; after = f.after; is = f.is; plain = plain_low f.first (omega arith) (omega arith) }
scalar_starts a b (inr (inr p)) = let f = string_first a b p in record { first = f.first; after = f.after; is = f.is; plain = plain_low f.first (omega arith) (omega arith) }

pub string_starts : (a b : List ℕ) → string a b → Starts a
string_starts a b p = let f = string_first a b p in record { first = f.first; after = f.after; is = f.is; plain = plain_low f.first (omega arith) (omega arith) }

-- two rules that are the same here have the same answer
pub skips_same : (P Q : Rule) (s : List ℕ) (at : ℕ) → ((r : List ℕ) → P (drop at s) r → Q (drop at s) r)
    → ((r : List ℕ) → Q (drop at s) r → P (drop at s) r) → (x : Option ℕ) → Skips P s at x → Skips Q s at x
unfolding NoText
skips_same P Q s at f g (Some e) h = record { from = h.from; within = h.within; is = f _ h.is; only = λ r q z. h.only r (g r q) z }
skips_same P Q s at f g None h = λ r q z. h r (g r q) z

module _ (s : List ℕ) (at : ℕ) where
  pub scalar_string : get_or s at 0 ≡ 34 → (x : Option ℕ) → Skips string s at x → Skips scalar s at x
  unfolding scalar ◌or◌
  scalar_string e x h = skips_same string scalar s at (λ r p. inr (inr p)) (λ r p. go r p) x h
    where
      go : (r : List ℕ) → scalar (drop at s) r → string (drop at s) r
      go r (inl p) = let f = first_at 102 116 s at (literal_first _ r p) in absurd (omega arith)
      go r (inr (inl p)) = let f = first_at 45 57 s at (number_first _ r p) in absurd (omega arith)
      go r (inr (inr p)) = p

  pub scalar_literal : 97 ≤ get_or s at 0 → (x : Option ℕ) → Skips literal s at x → Skips scalar s at x
  unfolding scalar ◌or◌
  scalar_literal e x h = skips_same literal scalar s at (λ r p. inl p) (λ r p. go r p) x h
    where
      go : (r : List ℕ) → scalar (drop at s) r → literal (drop at s) r
      go r (inl p) = p
      go r (inr (inl p)) = let f = first_at 45 57 s at (number_first _ r p) in absurd (omega arith)
      go r (inr (inr p)) = let f = first_at 34 34 s at (string_first _ r p) in absurd (omega arith)

  pub scalar_number : (get_or s at 0 ≡ 34 → ⊥) → get_or s at 0 < 97 → (x : Option ℕ) → Skips number s at x → Skips scalar s at x
  unfolding scalar ◌or◌
  scalar_number n e x h = skips_same number scalar s at (λ r p. inr (inl p)) (λ r p. go r p) x h
    where
      go : (r : List ℕ) → scalar (drop at s) r → number (drop at s) r
      go r (inl p) = let f = first_at 102 116 s at (literal_first _ r p) in absurd (omega arith)
      go r (inr (inl p)) = p
      go r (inr (inr p)) = let f = first_at 34 34 s at (string_first _ r p) in absurd (n (omega arith))
