-- Pulling all of one replica into another and back leaves both with the union of what they held. Assumes nothing.
use mathlib.Core.List.{List, ◌++◌}
use native.Mathlib.Omega.{arith}
use Rattle.rules.specs.Pull.{offers}
use Rattle.rules.specs.Replica.{Replica, fresh, IsReplica}
use Rattle.rules.specs.Union.{In, Things, given, held, both, IsUnion, SameButSeq, WellFormed, Compatible, Fits, Within, write_all, SeqSuffices, all_from}
use Rattle.rules.specs.Write.{Write}
use Rattle.union.specs.Said.{there, back, Agreed}
use Rattle.union.proofs.Lists.{in_left, in_right}
use Rattle.union.proofs.Sets.{both_within, compatible_within, fits_within, within_all, within_left}
use Rattle.union.proofs.Unions.{one_union, same_winner, union_again, union_within}
use Rattle.union.proofs.Sequence.{seq_twice, suffices_room}
use Rattle.union.proofs.Orders.{union_of_writes, made, part}
use Rattle.union.proofs.Pulls.{pull_keeps, offers_most, pull_accepted, pull_union}

module _ (g : Things) (c : Compatible g) (f : Fits g) (a b : Replica) (ka : IsReplica a) (kb : IsReplica b) (wa : Within (held a) g) (wb : Within (held b) g)
    (q : SeqSuffices (offers all_from a) b) (p : SeqSuffices (offers all_from (there a b)) a) where
  union_there : IsUnion (there a b) (both (held a) (held b))
  union_there = pull_union g c f a b ka kb wa wb q

  keeps_there : IsReplica (there a b)
  keeps_there = pull_keeps all_from a b ka kb

  within_there : Within (held (there a b)) g
  within_there =
      within_all (held (there a b)) (both (held a) (held b)) g (union_within (there a b) (both (held a) (held b)) union_there)
      (both_within (held a) (held b) g wa wb)

  union_back : IsUnion (back a b) (both (held a) (held b))
  union_back =
      union_again (there a b) (back a b) (both (held a) (held b)) (held a) union_there (within_left (held a) (held b))
      (pull_union g c f (there a b) a keeps_there ka within_there wa p)

  same : SameButSeq (there a b) (back a b)
  same = one_union (there a b) (back a b) (both (held a) (held b)) keeps_there (pull_keeps all_from (there a b) a keeps_there ka) union_there union_back

  pub two_way : Agreed a b
  two_way = record {
    accepted_there = pull_accepted g c f a b ka kb wa wb q;
    accepted_back = pull_accepted g c f (there a b) a keeps_there ka within_there wa p;
    union_there = union_there;
    union_back = union_back;
    same = same;
    winners = same_winner (there a b) (back a b) same;
  }

-- ---- replicas that writes made from fresh

module _ (all : List Write) (k : (w : Write) → In w all → WellFormed w) (c : Compatible (given all)) (f : Fits (given all))
    (ws : List Write) (sub : (w : Write) → In w ws → In w all) where
  pub sound : IsReplica (write_all ws fresh)
  sound = made ws (λ w m. k w (sub w m))

  pub sound_within : Within (held (write_all ws fresh)) (given all)
  sound_within =
      let p = part ws all sub in
      let u = union_of_writes ws (λ w m. k w (sub w m)) (compatible_within (given ws) (given all) p c) (fits_within (given ws) (given all) p f) in
      within_all (held (write_all ws fresh)) (given ws) (given all) (union_within (write_all ws fresh) (given ws) u.1) p

  -- its sequence has room for all the offers of any replica
  sound_room : (r : Replica) → IsReplica r → SeqSuffices (offers all_from r) (write_all ws fresh)
  sound_room r kr =
      suffices_room (offers all_from r) (write_all ws fresh)
      (let s = seq_twice ws in let n = offers_most all_from r in let x = sound.revisions_at_most in let y = kr.revisions_at_most in omega arith)

pub two_way_made : (us vs : List Write) → ((w : Write) → In w (us ++ vs) → WellFormed w) → Compatible (given (us ++ vs)) → Fits (given (us ++ vs))
    → Agreed (write_all us fresh) (write_all vs fresh)
two_way_made us vs k c f =
    two_way (given (us ++ vs)) c f a b (sound all k c f us left) (sound all k c f vs right) (sound_within all k c f us left) (sound_within all k c f vs right)
    (sound_room all k c f vs right a (sound all k c f us left))
    (sound_room all k c f us left (there a b) (pull_keeps all_from a b (sound all k c f us left) (sound all k c f vs right)))
  where
    all : List Write
    all = us ++ vs

    a : Replica
    a = write_all us fresh

    b : Replica
    b = write_all vs fresh

    left : (w : Write) → In w us → In w (us ++ vs)
    left w m = in_left w us vs m

    right : (w : Write) → In w vs → In w (us ++ vs)
    right w m = in_right w us vs m
