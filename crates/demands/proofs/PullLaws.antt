-- The counts in a pull's answer, and an accepted pull as what pull promises. Assumes nothing.
use mathlib.Core.Path.{◌≡◌, sym, ap, ◌∙◌}
use mathlib.Core.List.{List, [], ◌++◌, append_assoc}
use Prim.Native.Nat.{ℕ, ◌<◌, ◌≤◌}
use native.Mathlib.Omega.{arith}
use lib.ListN.{length, drop}
use Rattle.rules.specs.declared.Counts.{Counts}
use Rattle.rules.specs.declared.Seq.{Seq}
use Rattle.rules.specs.Bytes.{be, value, part}
use Rattle.rules.specs.Pull.{pull}
use Rattle.rules.specs.Read.{front}
use Rattle.rules.specs.Replica.{Replica, IsReplica}
use Rattle.rules.specs.Room.{revisions_most}
use Rattle.rules.proofs.ByteLaws.{length-be, value_be, part-front, part-past}
use Rattle.union.specs.Said.{total}
use Rattle.union.proofs.Demand3 as union
use Rattle.union.proofs.Pulls.{offers_most}
use Rattle.store.specs.Storage.{replica_of}
use Rattle.pulls.specs.Pulls.{Pulled}
use Rattle.refile.specs.Boundary.{numbers, count_bytes}
use Rattle.demands.specs.Runs.{counts_in, Pulls}
use Rattle.demands.proofs.CallLaws.{pull_source, pull_does}

-- three numbers of four bytes each, read back
counts_read : (c : Counts) (answer : List ℕ) → c.changed < 4294967296 → c.unchanged < 4294967296 → c.refused < 4294967296 → counts_in (front (count_bytes c) answer) ≡ c
unfolding front count_bytes numbers
counts_read c answer h k l = λ i. record { changed = x i; unchanged = y i; refused = z i }
  where
    rest : List ℕ
    rest = drop (length (be 4 c.changed ++ (be 4 c.unchanged ++ (be 4 c.refused ++ [])))) answer

    all : List ℕ
    all = (be 4 c.changed ++ (be 4 c.unchanged ++ (be 4 c.refused ++ []))) ++ rest

    flat : all ≡ be 4 c.changed ++ (be 4 c.unchanged ++ (be 4 c.refused ++ ([] ++ rest)))
    flat = simp append_assoc

    x : value (part 0 4 all) ≡ c.changed
    x = ap value (ap (part 0 4) flat ∙ part-front (be 4 c.changed) _ 4 (length-be 4 c.changed)) ∙ value_be 4 c.changed (omega arith)

    y : value (part 4 4 all) ≡ c.unchanged
    y =
        ap value (ap (part 4 4) flat ∙ (part-past (be 4 c.changed) _ 4 0 4 (length-be 4 c.changed) ∙ part-front (be 4 c.unchanged) _ 4 (length-be 4 c.unchanged)))
        ∙ value_be 4 c.unchanged (omega arith)

    z : value (part 8 4 all) ≡ c.refused
    z =
        ap value (ap (part 8 4) flat
        ∙ (part-past (be 4 c.changed) _ 4 4 4 (length-be 4 c.changed)
        ∙ (part-past (be 4 c.unchanged) _ 4 0 4 (length-be 4 c.unchanged) ∙ part-front (be 4 c.refused) _ 4 (length-be 4 c.refused))))
        ∙ value_be 4 c.refused (omega arith)

-- there are no more offers than revisions, so four bytes hold each count
counts_small : (q : Seq) (s t : Replica) → IsReplica s → total (pull q s t).0 ≤ revisions_most
counts_small q s t k =
    let a = union.counts_offers q s t in
    let b = offers_most q s in
    let c = k.revisions_at_most in
    omega arith

module _ {source : List ℕ} {q : Seq} {target : List ℕ} {c : Counts} {left : List ℕ} (k : Pulls source q target c left) where
  -- an accepted pull does as pull promises, of the counts that its answer holds
  pub pulls_does : Pulled q source target c left
  pulls_does =
      let d = pull_does k.pull k.accepted in
      let s = pull_source k.pull k.accepted in
      let n = (pull q (replica_of source) (replica_of target)).0 in
      let m = counts_small q (replica_of source) (replica_of target) s.replica in
      let e : counts_in k.answered ≡ n = ap counts_in d.1 ∙ counts_read n k.answer (omega arith) (omega arith) (omega arith) in
      record { counts = sym k.counts ∙ e; bytes = d.0.bytes; means = d.0.means; is_stored = d.0.is }
