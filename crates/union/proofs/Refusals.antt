-- The refusals of a write as facts: what none of them says, and that where each fails the write is not refused. Assumes nothing.
use mathlib.Core.Path.{◌≡◌, refl, sym, ap}
use mathlib.Core.Bool.{Bool, true, false, not, ◌||◌, true≢false}
use mathlib.Core.Logic.{inl, inr}
use Rattle.std.specs.Prelude.{None, Some}
use Prim.Native.Nat.{◌%◌}
use native.Mathlib.Omega.{arith}
use lib.Dec.{eqb, ltb}
use lib.ListN.{length}
use Rattle.rules.specs.declared.Refusal.{Refusal}
use Rattle.rules.specs.declared.Refusal.TheVariants.{BadId, BadPath, LowNumber, OtherParent, OtherContent, DocumentsFull, RevisionsFull, SequenceSpent}
use Rattle.rules.specs.Choice.{any, first_that}
use Rattle.rules.specs.Refusal.{refusal_number}
use Rattle.rules.specs.Replica.{Replica, tree_of}
use Rattle.rules.specs.Room.{hashes_most, hash_size}
use Rattle.rules.specs.Union.{In}
use Rattle.rules.specs.Write.{Write, hashes, gives, other_parent, other_content, bad_id, bad_path, low_number, documents_full, revisions_full, sequence_spent, form_refusals, room_refusals, write_refusals}
use Rattle.rules.proofs.ChoiceLaws.{none_holds, first_holds}

-- 1 to 3 do not refuse
pub record Well (w : Write) : Type 0 where
  pub id_ok : bad_id w.id ≡ false
  pub path_ok : bad_path w ≡ false
  pub number_ok : low_number w ≡ false

pub well : (w : Write) → first_that (form_refusals w) ≡ None → Well w
well w e = let (one, (two, (three, end))) = none_holds (form_refusals w) e in record { id_ok = one; path_ok = two; number_ok = three }

-- the three parts of refusal 2
path_tests : (a b c : Bool) → (not a || (b || c)) ≡ false → (a ≡ true) × (b ≡ false) × (c ≡ false)
path_tests true true c e = absurd (true≢false e)
path_tests true false c e = (refl, refl, e)
path_tests false b c e = absurd (true≢false e)

pub path_parts : (w : Write) → bad_path w ≡ false
    → (eqb (length w.path % hash_size) 0 ≡ true) × (eqb (length (hashes w)) 0 ≡ false) × (ltb hashes_most (length (hashes w)) ≡ false)
unfolding bad_path
path_parts w e = path_tests (eqb (length w.path % hash_size) 0) (eqb (length (hashes w)) 0) (ltb hashes_most (length (hashes w))) e

-- 1 to 8 do not refuse
pub record Passed (r : Replica) (w : Write) : Type 0 where
  pub form : Well w
  pub four : any (other_parent (tree_of r w.id)) (gives w) ≡ false
  pub five : any (other_content (tree_of r w.id)) (gives w) ≡ false
  pub six : documents_full r w.id ≡ false
  pub seven : revisions_full r w ≡ false
  pub eight : sequence_spent r w ≡ false

pub passed : (r : Replica) (w : Write) → first_that (write_refusals r w) ≡ None → Passed r w
unfolding write_refusals room_refusals
passed r w e =
    let (one, (two, (three, (four, (five, (six, (seven, (eight, end)))))))) = none_holds (write_refusals r w) e in
    record {
      form = record { id_ok = one; path_ok = two; number_ok = three };
      four = four;
      five = five;
      six = six;
      seven = seven;
      eight = eight;
    }

pub unrefused : (r : Replica) (w : Write) → Passed r w → first_that (write_refusals r w) ≡ None
unfolding write_refusals room_refusals first_that
unrefused r w p = rw (p.form.id_ok, p.form.path_ok, p.form.number_ok, p.four, p.five, p.six, p.seven, p.eight) refl

-- 8 is answered only where the sequence is spent
pub spent_only : (r : Replica) (w : Write) → first_that (write_refusals r w) ≡ Some SequenceSpent → sequence_spent r w ≡ true
unfolding write_refusals room_refusals
spent_only r w e = go (first_holds (write_refusals r w) SequenceSpent e)
  where
    other : (b : Bool) (n : Refusal) → ◌≡◌ {A = Bool × Refusal} (true, SequenceSpent) (b, n) → refusal_number n ≡ 8
    other b n q = ap (λ (t : Bool × Refusal). refusal_number t.1) (sym q)

    go : In (true, SequenceSpent) (write_refusals r w) → sequence_spent r w ≡ true
    go (inl q) = absurd (let n = other (bad_id w.id) BadId q in omega arith)
    go (inr (inl q)) = absurd (let n = other (bad_path w) BadPath q in omega arith)
    go (inr (inr (inl q))) = absurd (let n = other (low_number w) LowNumber q in omega arith)
    go (inr (inr (inr (inl q)))) = absurd (let n = other (any (other_parent (tree_of r w.id)) (gives w)) OtherParent q in omega arith)
    go (inr (inr (inr (inr (inl q))))) = absurd (let n = other (any (other_content (tree_of r w.id)) (gives w)) OtherContent q in omega arith)
    go (inr (inr (inr (inr (inr (inl q)))))) = absurd (let n = other (documents_full r w.id) DocumentsFull q in omega arith)
    go (inr (inr (inr (inr (inr (inr (inl q))))))) = absurd (let n = other (revisions_full r w) RevisionsFull q in omega arith)
    go (inr (inr (inr (inr (inr (inr (inr (inl q)))))))) = ap (λ (t : Bool × Refusal). t.0) (sym q)
    go (inr (inr (inr (inr (inr (inr (inr (inr q)))))))) = absurd q
