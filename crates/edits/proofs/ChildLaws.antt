-- The path of an edit in a scratch place, and the path write that is answered as an edit. Assumes nothing.
use mathlib.Core.Path.{◌≡◌, refl, sym, ap, ◌∙◌, subst}
use Rattle.rules.specs.declared.Refusal.{Refusal}
use Rattle.rules.specs.declared.Outcome.{Outcome}
use Rattle.std.specs.Prelude.{Result}
use Rattle.std.specs.Prelude.{Option, None, Some}
use mathlib.Core.List.{List, ◌++◌, append-nil}
use Prim.Native.Nat.{ℕ, ◌*◌}
use native.Mathlib.Omega.{arith}
use lib.ListN.{length, take, length-append}
use lib.Seq.{take_all}
use Rattle.rules.specs.declared.Content.{Content}
use Rattle.rules.specs.declared.Revision.{Revision}
use Rattle.rules.specs.declared.RevNumber.{RevNumber}
use Rattle.rules.specs.Bytes.{part}
use Rattle.rules.specs.Replica.{Id, Hash}
use Rattle.rules.specs.Room.{hash_size}
use Rattle.octets.specs.Octets.{HashPut}
use Rattle.octets.specs.Splice.{splice}
use Rattle.octets.proofs.SpliceLaws.{length-splice, splice_whole, chain, part_splice_at}
use Rattle.writes.specs.Judge.{Wrote}
use Rattle.writes.specs.Path.{write_of}
use Rattle.edits.specs.Edit.{child_path, PathPut, answer_of, ChildWritten}

-- ---- the path in a place for two hashes

module _ (s : List ℕ) (h : Hash) (parent : Option Revision) (a : List ℕ) (room : length s ≡ 2 * hash_size) (first : HashPut s 0 h a) where
  length-first : length a ≡ 2 * hash_size
  length-first = let z = first.size in ap length first.is ∙ (length-splice s 0 h (omega arith) ∙ room)

  -- with no parent, it is the new hash
  pub path_one : parent ≡ None → PathPut h parent hash_size a
  unfolding part
  path_one e =
      let z = first.size in
      let l = length-first in
      record {
        within = omega arith;
        path = ap (take hash_size) first.is ∙ (part_splice_at s 0 h hash_size (omega arith) (sym z) ∙ rw e (sym (append-nil h)));
      }

  -- with a parent, its hash comes second
  pub path_two : (v : Revision) (b : List ℕ) → parent ≡ Some v → HashPut a hash_size v.hash b → PathPut h parent (2 * hash_size) b
  path_two v b e second =
      let p = v.hash in
      let y = first.size in
      let z = second.size in
      let l : length (h ++ p) ≡ 2 * hash_size = length-append h p ∙ omega arith in
      let w : b ≡ h ++ p =
      second.is ∙ (ap (λ (x : List ℕ). splice x hash_size p) first.is ∙ (chain s h p 0 hash_size (omega arith) (omega arith) ∙ splice_whole s (h ++ p) (l ∙ sym room))) in
      let m : length b ≡ 2 * hash_size = ap length w ∙ l in
      record {
        within = omega arith;
        path = ap (take (2 * hash_size)) w ∙ (take_all (2 * hash_size) (h ++ p) (omega arith) ∙ rw e refl);
      }

-- ---- the write

pub child_written : {s : List ℕ} {i : Id} {n : RevNumber} {h : Hash} {parent : Option Revision} {c : Content} {m : ℕ} {q : List ℕ} {o : Result Outcome Refusal} {r : Result RevNumber Refusal} {after : List ℕ}
    → PathPut h parent m q → Wrote s (write_of i n (take m q) c) o after → r ≡ answer_of n o
    → ChildWritten s (write_of i n (child_path h parent) c) n r after
child_written {s} {i} {n} {h} {parent} {c} {m} {q} {o} {r} {after} put wrote e =
    let w = subst (λ (x : List ℕ). Wrote s (write_of i n x c) o after) put.path wrote in
    record { answer = e ∙ ap (answer_of n) w.answer; left = w.left; means = w.means; is = w.is }
