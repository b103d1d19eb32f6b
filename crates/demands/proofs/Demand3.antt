-- Demand 3 of refile_fresh, refile_write and refile_pull. Assumes nothing.
use mathlib.Core.Path.{◌≡◌, refl, sym, ◌∙◌, subst}
use mathlib.Core.List.{List, [], ◌∷◌, ◌++◌}
use mathlib.Core.Logic.{◌↔◌}
use Prim.Native.Nat.{ℕ}
use Rattle.rules.specs.declared.Counts.{Counts}
use Rattle.rules.specs.declared.Seq.{Seq}
use Rattle.rules.specs.Pull.{offers}
use Rattle.rules.specs.Read.{winner, documents_after}
use Rattle.rules.specs.Replica.{Id, fresh, tree_of}
use Rattle.rules.specs.Union.{In, given, held, both, IsUnion, SameButSeq, WellFormed, Compatible, Fits, Within, write_all, SeqSuffices, all_from}
use Rattle.rules.specs.Write.{Write, write}
use Rattle.union.specs.Said.{total, leaf_count, answers, CountsEach}
use Rattle.union.proofs.Demand3 as union
use Rattle.store.specs.Storage.{replica_of, stored, IsStored}
use Rattle.writes.specs.Calls as writes
use Rattle.writes.specs.Judge.{Wrote}
use Rattle.pulls.specs.BothWays as ways
use Rattle.pulls.proofs.Demand3 as pulls
use Rattle.demands.specs.Calls.{WriteCall}
use Rattle.demands.specs.Runs.{WriteCalls, NoneRefused, Made, Pulls, BothWays}
use Rattle.demands.proofs.CallLaws.{accepted_if, fresh_does, write_does, pull_source, pull_target}
use Rattle.demands.proofs.PullLaws.{pulls_does}

-- ---- what calls of refile_write do is what write promises

wrote : {s : List ℕ} {w : Write} {r : ℕ} {left : List ℕ} → IsStored s → WriteCall s w r left → Wrote s w (write (replica_of s) w).0 left
wrote i k = let d = (write_does k i).1 in record { answer = refl; left = d.bytes; means = d.means; is = d.is }

all_wrote : (ws : List Write) (s left : List ℕ) → IsStored s → WriteCalls ws s left → writes.WriteCalls ws s left
all_wrote [] s left i calls = calls
all_wrote (w ∷ ws) s left i calls =
    let d = wrote i calls.2 in ((write (replica_of s) w).0, calls.1, d, all_wrote ws calls.1 left d.is calls.3)

none_refused_if : (ws : List Write) (s left : List ℕ) (i : IsStored s) (calls : WriteCalls ws s left)
    → writes.NoneRefused ws s left (all_wrote ws s left i calls) → NoneRefused ws s left calls
unfolding all_wrote
none_refused_if [] s left i calls h = tt
none_refused_if (w ∷ ws) s left i calls h = (
  accepted_if calls.0 (write (replica_of s) w).0 (write_does calls.2 i).0 h.0,
  none_refused_if ws calls.1 left (wrote i calls.2).is calls.3 h.1,
)

-- ---- "its revisions and parents are all of those, its leaves are the revisions with no child in it, each
-- with the content it was given"

module _ {ws : List Write} {left : List ℕ} (m : Made ws left) where
  made_is : IsStored m.made
  made_is = (fresh_does m.fresh m.accepted).is

  made_fresh : m.made ≡ stored fresh
  made_fresh = (fresh_does m.fresh m.accepted).bytes

  made_wrote : writes.WriteCalls ws m.made left
  made_wrote = all_wrote ws m.made left made_is m.writes

  pub left_is : replica_of left ≡ write_all ws fresh
  left_is = pulls.left_is ws m.made left made_fresh made_wrote

  -- well-formed writes that agree and fit are none of them refused, and the bytes left hold exactly the union
  pub union_of_writes : ((w : Write) → In w ws → WellFormed w) → Compatible (given ws) → Fits (given ws)
      → NoneRefused ws m.made left m.writes × IsUnion (replica_of left) (given ws)
  unfolding made_wrote
  union_of_writes k c f =
      let u = pulls.union_of_writes ws m.made left made_fresh made_wrote k c f in
      (none_refused_if ws m.made left made_is m.writes u.0, u.1)

-- the same writes in any order and with any repeats leave the same but for sequences, and so the same winners
pub any_order : {ws vs : List Write} {a b : List ℕ} → Made ws a → Made vs b → ((w : Write) → In w ws ↔ In w vs)
    → ((w : Write) → In w ws → WellFormed w) → Compatible (given ws) → Fits (given ws)
    → SameButSeq (replica_of a) (replica_of b) × ((i : Id) → winner (tree_of (replica_of a) i) ≡ winner (tree_of (replica_of b) i))
any_order {ws} {vs} {a} {b} m n same k c f =
    rw (left_is m, left_is n) (union.any_order ws vs same k c f)

-- ---- pulls both ways

both_ways : {a b a' b' : List ℕ} {c d : Counts} → BothWays a b a' b' c d → ways.BothWays a b a' b' c d
both_ways k = record { forth = pulls_does k.forth; back = pulls_does k.back }

module _ {a b a' b' : List ℕ} {c d : Counts} (k : BothWays a b a' b' c d) where
  source : IsStored a
  source = pull_source k.forth.pull k.forth.accepted

  target : IsStored b
  target = pull_target k.forth.pull k.forth.accepted

  -- what a clerk relies on, whatever the replicas hold: where the third number of both answers is 0, both
  -- hold the same but for sequences, and it is the union of what they held
  pub none_refused : c.refused ≡ 0 → d.refused ≡ 0 → ways.BothHold a b a' b' c d
  none_refused e f = pulls.none_refused a b a' b' c d (both_ways k) source target e f

  -- of replicas that hold only what writes give that agree and fit, where no offer is answered 8: nothing is
  -- refused, and both hold the union of what they held
  pub two_way : (ws : List Write) → Compatible (given ws) → Fits (given ws) → Within (held (replica_of a)) (given ws) → Within (held (replica_of b)) (given ws)
      → SeqSuffices (offers all_from (replica_of a)) (replica_of b) → SeqSuffices (offers all_from (replica_of b')) (replica_of a) → ways.BothHold a b a' b' c d
  two_way ws g f wa wb p q = pulls.two_way a b a' b' c d (both_ways k) ws source target g f wa wb p q

  -- where writes made both from fresh, no sequence is asked for
  pub two_way_made : {us vs : List Write} → Made us a → Made vs b
      → ((w : Write) → In w (us ++ vs) → WellFormed w) → Compatible (given (us ++ vs)) → Fits (given (us ++ vs)) → ways.BothHold a b a' b' c d
  two_way_made {us} {vs} m n w g f =
      let same : n.made ≡ m.made = made_fresh n ∙ sym (made_fresh m) in
      pulls.two_way_made us vs w g f m.made a b a' b' c d
      (record {
        is_fresh = made_fresh m;
        into_a = made_wrote m;
        into_b = subst (λ (z : List ℕ). writes.WriteCalls vs z b) same (made_wrote n);
      })
      (both_ways k)

-- ---- one pull

module _ {s : List ℕ} {q : Seq} {t : List ℕ} {c : Counts} {left : List ℕ} (k : Pulls s q t c left) where
  -- "They add up to the leaves of the source documents after that sequence."
  pub counts_add_up : total c ≡ leaf_count (documents_after q (replica_of s).documents)
  counts_add_up = pulls.counts_add_up s q t c left (pulls_does k)

  -- "each count is that of the offers one by one"
  pub counts_each : CountsEach c (answers (replica_of t) (offers q (replica_of s)))
  counts_each = pulls.counts_each s q t c left (pulls_does k)

-- a pull of all that refused no offer leaves the union of what both held
pub pull_unites : {a b b' : List ℕ} {c : Counts} → Pulls a all_from b c b' → c.refused ≡ 0
    → IsUnion (replica_of b') (both (held (replica_of a)) (held (replica_of b)))
pull_unites {a} {b} {b'} {c} k e =
    pulls.pull_unites a b b' c (pull_source k.pull k.accepted) (pull_target k.pull k.accepted) (pulls_does k) e

-- both pulled from copies of the other as it was, and neither answer counts a refused offer: they are the same
-- but for sequences
pub crossed_agree : {a b a' b' : List ℕ} {c d : Counts} → Pulls a all_from b c b' → Pulls b all_from a d a' → c.refused ≡ 0 → d.refused ≡ 0
    → SameButSeq (replica_of b') (replica_of a')
crossed_agree {a} {b} {a'} {b'} {c} {d} k l e f =
    pulls.crossed_agree a b a' b' c d (pull_source k.pull k.accepted) (pull_target k.pull k.accepted) (pulls_does k) (pulls_does l) e f
