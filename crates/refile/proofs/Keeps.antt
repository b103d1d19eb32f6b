-- What may be lent as a replica. Assumes nothing.
use mathlib.Core.Path.{◌≡◌, refl, sym, ap, ◌∙◌, subst}
use mathlib.Core.Bool.{Bool}
use mathlib.Core.List.{List, ◌++◌}
use Rattle.std.specs.Prelude.{None}
use Prim.Native.Nat.{ℕ}
use lib.ListN.{length, replicate}
use Rattle.rules.specs.Bytes.{be, value, value_from, part}
use Rattle.rules.specs.Choice.{first_that}
use Rattle.rules.specs.Layout.{head_of}
use Rattle.rules.specs.Outcome.{Call}
use Rattle.rules.specs.Replica.{Replica, IsReplica, fresh}
use Rattle.union.proofs.Demand3.{fresh_is_replica}
use Rattle.reads.proofs.AnswerLaws.{first_past}
use Rattle.store.specs.Storage.{store_size, stored_head, stored, replica_of, IsStored}
use Rattle.store.proofs.FitLaws.{stored_laid}
use Rattle.store.proofs.StoredLaws.{size_laid, stored_back, fresh_fits, fresh_stored}
use Rattle.refile.specs.Boundary.{Lent, lent_house}
use Rattle.refile.proofs.CallLaws.{none_first, lent_fine}
use Rattle.refile.proofs.about.refile_is_replica.Kinds as isC
use Rattle.refile.proofs.about.refile_is_replica.Reads as isC'

-- ---- a replica is never refused by 100 or 106

starts : (r : Replica) → (head_of (stored r)).edition ≡ 0
unfolding stored stored_head head_of part value value_from be
starts r = refl

pub replica_passes : (s : List ℕ) → IsStored s → first_that (lent_house s) ≡ None
replica_passes s is =
    none_first (lent_house s)
    (lent_fine s (size_laid s (stored_laid s is)) (ap (λ (b : List ℕ). (head_of b).edition) is.same ∙ starts (replica_of s)))
    refl

-- nor with house refusals besides that do not hold
pub replica_past : (s : List ℕ) (us : List (Bool × ℕ)) → IsStored s → first_that us ≡ None → first_that (lent_house s ++ us) ≡ None
replica_past s us is e = first_past (lent_house s) us (replica_passes s is) ∙ e

-- a buffer of zeros is a fresh replica, without a call
pub zeros_are_fresh : IsStored (replicate store_size 0) × (replica_of (replicate store_size 0) ≡ fresh)
zeros_are_fresh =
    let back : replica_of (replicate store_size 0) ≡ fresh = ap replica_of (sym fresh_stored) ∙ stored_back fresh fresh_fits in
    (record { same = sym fresh_stored ∙ ap stored (sym back); replica = subst IsReplica (sym back) fresh_is_replica }, back)

-- of bytes that have another size, or another start, nothing is required: they are refused by 100 or 106
pub other_size_lends : (s : List ℕ) → (length s ≡ store_size → ⊥) → Lent s
other_size_lends s other = λ size start. absurd (other size)

pub other_start_lends : (s : List ℕ) → ((head_of s).edition ≡ 0 → ⊥) → Lent s
other_start_lends s other = λ size start. absurd (other start)

-- any bytes of which refile_is_replica says that they are a replica's may be lent as one
pub told_lends : (c : Call _ isC.ps isC.r isC'.Asked isC'.Learnt) → c.result ≡ 1 → Lent c.args.0.now
told_lends c e = λ size start. c.promise.yes e
