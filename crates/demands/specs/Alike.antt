-- What no call to another document changes: the answers of the reads of one document.
use Rattle.std.specs.Prelude.{◌≡◌, List, ℕ, suc, ◌≤◌, length, take}
use Rattle.rules.specs.declared.Revision.{Revision}
use Rattle.rules.specs.declared.Seq.{Seq}
use Rattle.rules.specs.Bytes.{value, part}
use Rattle.rules.specs.Read.{front}
use Rattle.rules.specs.Replica.{Id}
use Rattle.refile.specs.Decode.{value_in}
use Rattle.demands.specs.Calls as C
use Rattle.demands.specs.Calls.{IsAccepted, Called}

-- what refile_changes answers: four numbers of four bytes each
abbrev pub change_size : ℕ
change_size = 16

-- refile_changes came to the document j: it wrote its id, and as the first number of its answer the length of it
pub record ComesTo (j : Id) (out : List ℕ) (r : ℕ) (left answered : List ℕ) : Type 0 where
  pub accepted : IsAccepted r
  pub more : value_in r ≡ 1
  pub id : left ≡ front j out
  pub size : value (part 0 4 answered) ≡ length j

-- calls that read the document j in the bytes s and in the bytes t, with the same arguments otherwise, give
-- the same result and leave the same bytes
pub record AnswerAlike (j : Id) (s t : List ℕ) : Type 0 where
  pub winner : (out : List ℕ) (x y : ℕ) (m n : List ℕ) → Called C.winner (s, j, out) x m → Called C.winner (t, j, out) y n → (x ≡ y) × (m ≡ n)
  pub leaves : (out : List ℕ) (x y : ℕ) (m n : List ℕ) → Called C.leaves (s, j, out) x m → Called C.leaves (t, j, out) y n → (x ≡ y) × (m ≡ n)
  pub path : (v : Revision) (out : List ℕ) (x y : ℕ) (m n : List ℕ) → Called C.path (s, j, v.number.0, v.hash, out) x m → Called C.path (t, j, v.number.0, v.hash, out) y n → (x ≡ y) × (m ≡ n)
  pub missing : (asked out : List ℕ) (x y : ℕ) (m n : List ℕ) → Called C.missing (s, j, asked, out) x m → Called C.missing (t, j, asked, out) y n → (x ≡ y) × (m ≡ n)
  -- whatever sequence it is asked after, refile_changes says the same of j where it comes to it
  pub changes : (p q : Seq) (out out' answer answer' : List ℕ) (x y : ℕ) (m n a b : List ℕ)
      → Called C.changes (s, p, out, answer) x (m, a) → Called C.changes (t, q, out', answer') y (n, b) → ComesTo j out x m a → ComesTo j out' y n b → take change_size a ≡ take change_size b
  -- and it still comes to it: where it told j's own sequence in s, asked in t after the one below that, with
  -- room for what it says
  pub comes : (p q : Seq) (out out' answer answer' : List ℕ) (x y : ℕ) (m n a b : List ℕ)
      → Called C.changes (s, p, out, answer) x (m, a) → ComesTo j out x m a → Called C.changes (t, q, out', answer') y (n, b)
      → suc q.0 ≡ value (part 4 4 a) → length j ≤ length out' → change_size ≤ length answer' → ComesTo j out' y n b
