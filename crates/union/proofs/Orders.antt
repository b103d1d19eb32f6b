-- Writes from fresh, in any order and with any repeats, leave their union. Assumes nothing.
use mathlib.Core.Path.{◌≡◌}
use mathlib.Core.List.{List}
use mathlib.Core.Logic.{◌↔◌}
use Rattle.rules.specs.Read.{winner}
use Rattle.rules.specs.Replica.{Id, fresh, tree_of, IsReplica}
use Rattle.rules.specs.Union.{In, given, IsUnion, SameButSeq, WellFormed, Compatible, Fits, Within, write_all, AllAccepted}
use Rattle.rules.specs.Write.{Write}
use Rattle.union.proofs.Sets.{GivenBy, closed_given, compatible_within, fits_within, within_sub}
use Rattle.union.proofs.Refusals.{Well, well}
use Rattle.union.proofs.Fold.{holds_all}
use Rattle.union.proofs.Unions.{alike, one_union, same_winner, union, union_alike}
use Rattle.union.proofs.Sequence.{suffices_fresh}
use Rattle.union.proofs.Keeps.{fresh_is_replica, writes_keep}

module _ (ws : List Write) (k : (w : Write) → In w ws → WellFormed w) where
  pub made : IsReplica (write_all ws fresh)
  made = writes_keep ws (λ w m. (k w m).write) fresh fresh_is_replica

  formed : (w : Write) → In w ws → Well w
  formed w m = well w (k w m).form

  pub union_of_writes : Compatible (given ws) → Fits (given ws) → AllAccepted ws fresh × IsUnion (write_all ws fresh) (given ws)
  union_of_writes g f =
      let t = holds_all ws formed g f (suffices_fresh ws formed g f) in (t.0, union (write_all ws fresh) (GivenBy ws) t.1 (closed_given ws))

-- writes among others give a part of what those give
pub part : (ws vs : List Write) → ((w : Write) → In w ws → In w vs) → Within (given ws) (given vs)
part ws vs h = within_sub (GivenBy ws) (GivenBy vs) (λ i x m. (m.0, h m.0 m.1, m.2, m.3))

pub any_order : (ws vs : List Write) → ((w : Write) → In w ws ↔ In w vs)
    → ((w : Write) → In w ws → WellFormed w) → Compatible (given ws) → Fits (given ws)
    → SameButSeq (write_all ws fresh) (write_all vs fresh)
    × ((i : Id) → winner (tree_of (write_all ws fresh) i) ≡ winner (tree_of (write_all vs fresh) i))
any_order ws vs h k g f = (same, same_winner (write_all ws fresh) (write_all vs fresh) same)
  where
    there : Within (given ws) (given vs)
    there = part ws vs (λ w. (h w).0)

    over : Within (given vs) (given ws)
    over = part vs ws (λ w. (h w).1)

    kv : (w : Write) → In w vs → WellFormed w
    kv w m = k w ((h w).1 m)

    uv : IsUnion (write_all vs fresh) (given ws)
    uv =
        union_alike (write_all vs fresh) (given vs) (given ws) (alike (given vs) (given ws) over there)
        (union_of_writes vs kv (compatible_within (given vs) (given ws) over g) (fits_within (given vs) (given ws) over f)).1

    same : SameButSeq (write_all ws fresh) (write_all vs fresh)
    same = one_union (write_all ws fresh) (write_all vs fresh) (given ws) (made ws k) (made vs kv) (union_of_writes ws k g f).1 uv
