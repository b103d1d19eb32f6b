-- A write whose path is hashes put together: its hashes are those, and refusal 2 asks only how many. Assumes nothing.
use mathlib.Core.Path.{◌≡◌, refl, ap, ap₂, ◌∙◌}
use mathlib.Core.Bool.{false}
use mathlib.Core.List.{List}
use Prim.Native.Nat.{ℕ, ◌*◌, ◌/◌, ◌%◌, ◌≤◌}
use native.Mathlib.Omega.{arith}
use lib.ListN.{length}
use borrow.Author.Tests.{le-ltb, eq-eqb, ne_eqb}
use Rattle.rules.specs.Bytes.{pieces, join}
use Rattle.rules.specs.Replica.{Hash}
use Rattle.rules.specs.Room.{hash_size, hashes_most}
use Rattle.rules.specs.Write.{Write, hashes, bad_path}
use Rattle.rules.proofs.ByteLaws.{Sized, length-join, pieces_join_all}

module _ (w : Write) (hs : List Hash) (e : w.path ≡ join hs) (s : Sized hash_size hs) where
  path_length : length w.path ≡ length hs * hash_size
  path_length = ap length e ∙ length-join hash_size hs s

  pub hashes_join : hashes w ≡ hs
  unfolding hashes
  hashes_join =
      let n : length w.path / hash_size ≡ length hs = (let t = path_length in omega arith) in
      ap₂ (λ (k : ℕ) (b : List ℕ). pieces k hash_size b) n e ∙ pieces_join_all hash_size hs s

  pub path_good : 1 ≤ length hs → length hs ≤ hashes_most → bad_path w ≡ false
  unfolding bad_path
  path_good least most =
      let r : length w.path % hash_size ≡ 0 = (let t = path_length in omega arith) in
      rw (eq-eqb (length w.path % hash_size) 0 r, hashes_join, ne_eqb (length hs) 0 (λ z. omega arith), le-ltb hashes_most (length hs) most) refl
