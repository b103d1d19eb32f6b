-- What the result of every call tells, and what every call keeps. Assumes nothing.
use mathlib.Core.Path.{◌≡◌, refl, ap, subst, transport}
use mathlib.Core.Bool.{Bool, true, false}
use mathlib.Core.List.{List, []}
use Rattle.std.specs.Prelude.{Option, None}
use Prim.Native.Nat.{ℕ, ◌*◌, ◌^◌, ◌<◌, ◌≤◌}
use native.Mathlib.Omega.{arith}
use borrow.Author.Tests.{ltb-true, ltb-false}
use lib.Dec.{ltb}
use Rattle.rules.specs.Choice.{first_that}
use Rattle.rules.specs.Image.{save}
use Rattle.rules.specs.Read.{leaves, read_winner, read_leaves, read_missing}
use Rattle.rules.specs.Replica.{tree_of}
use Rattle.store.specs.Storage.{replica_of, IsStored}
use Rattle.refile.specs.Boundary.{refused_from, Calls, Lent, lent_house, fresh_call, load_call, save_call, write_call, edit_call, pull_call, winner_call, leaves_call, missing_call, take_in_call, put_out_call}
use Rattle.refile.specs.Decode.{Told}
use Rattle.refile.proofs.FairLaws.{FairCall, tells, read_fair, leaves_bytes, fresh_fair, load_fair, write_fair, edit_fair, pull_fair, path_fair, changes_fair, sequence_fair, counts_fair, report_fair}
use Rattle.refile.proofs.LineLaws.{take_fair, size_fair}
use Rattle.refile.proofs.Keeps.{replica_passes}
use Rattle.lines.specs.Put.{put_out}
use Rattle.lines.specs.Take.{Members, Holds}
use Rattle.demands.specs.Calls as C
use Rattle.demands.specs.Calls.{Exported, CallOf, Called, Tells, Kept}

-- ---- what C can pass: a slice fits into memory, and a number of four bytes is below 2^32

small : (n : ℕ) → (n < 2 ^ 64) × (n * 1 < 2 ^ 63) → n < refused_from
small n h = omega arith

low : {A : Type 0} (n : ℕ) → A × (n < 2 ^ 32) → n < 4294967296
low n h = omega (arith, h.1)

-- ---- the law of every call: from its promise, and that what it means is fair

module _ (f : Exported) where
  law : ((c : CallOf f) → Calls (f.means (f.given c)) c.result (f.left c)) → ((c : CallOf f) → FairCall (f.means (f.given c))) → Tells f
  law calls fair = record {
    told = λ k.
        transport (λ j. Told (f.means (k.gives j)) (k.answers j) (k.left j)) (tells (fair k.call) (calls k.call));
  }

pub fresh_tells : Tells C.fresh
fresh_tells = law C.fresh (λ c. c.promise.calls) (λ c. fresh_fair _)

pub load_tells : Tells C.load
load_tells = law C.load (λ c. c.promise.calls) (λ c. load_fair _ _)

pub save_tells : Tells C.save
unfolding save_call save
save_tells = law C.save (λ c. c.promise) (λ c. let l = small _ c.in_range.1.0 in read_fair _ [] _ _ _ _ tt (λ h. omega arith))

pub write_tells : Tells C.write
write_tells = law C.write (λ c. c.promise.calls) (λ c. write_fair _ _ _ _ _ _ c.asks)

pub take_in_tells : Tells C.take_in
take_in_tells = law C.take_in (λ c. c.promise.keeps.calls) (λ c. take_fair _ _ c.asks)

pub edit_tells : Tells C.edit
edit_tells = law C.edit (λ c. c.promise.calls) (λ c. edit_fair _ _ _ _ _ _ _ _ c.asks (low _ c.in_range.1.1.1.1.1.1.0))

pub pull_tells : Tells C.pull
pull_tells = law C.pull (λ c. c.promise.calls) (λ c. pull_fair _ _ _ _)

pub winner_tells : Tells C.winner
unfolding winner_call read_winner
winner_tells = law C.winner (λ c. c.promise) (λ c. let l = small _ c.in_range.1.1.0 in read_fair _ [] _ _ _ _ tt (λ h. omega arith))

pub leaves_tells : Tells C.leaves
unfolding leaves_call read_leaves
leaves_tells =
    law C.leaves (λ c. c.promise)
    (λ c. let l = small _ c.in_range.1.1.0 in read_fair _ [] _ _ _ _ tt (λ h. omega (arith, leaves_bytes (leaves (tree_of (replica_of c.args.0.now) c.args.1.0.now)))))

pub path_tells : Tells C.path
path_tells = law C.path (λ c. c.promise) (λ c. path_fair _ _ _ _ _ (low _ c.in_range.1.1.0))

pub missing_tells : Tells C.missing
unfolding missing_call read_missing
missing_tells = law C.missing (λ c. c.promise) (λ c. let l = small _ c.in_range.1.1.1.0 in read_fair _ [] _ _ _ _ tt (λ h. omega arith))

pub put_out_tells : Tells C.put_out
unfolding put_out_call put_out
put_out_tells = law C.put_out (λ c. c.promise) (λ c. let l = small _ c.in_range.1.1.0 in read_fair _ [] _ _ _ _ tt (λ h. omega arith))

pub put_out_size_tells : Tells C.put_out_size
put_out_size_tells = law C.put_out_size (λ c. c.promise) (λ c. size_fair _ _ c.asks)

pub changes_tells : Tells C.changes
changes_tells = law C.changes (λ c. c.promise) (λ c. changes_fair _ _ _ _)

pub sequence_tells : Tells C.sequence
sequence_tells = law C.sequence (λ c. c.promise) (λ c. sequence_fair _ c.asks)

pub counts_tells : Tells C.counts
counts_tells = law C.counts (λ c. c.promise) (λ c. counts_fair _ _)

pub report_tells : Tells C.report
report_tells = law C.report (λ c. c.promise) (λ c. report_fair _ _ (small _ c.in_range.1.0))

-- ---- "Replicas are only what this tool's calls make, from fresh or from an image; that each call leaves
-- one is proved."

kept : (before : List ℕ) (r : ℕ) (after : List ℕ) → (r < refused_from → IsStored after) → (refused_from ≤ r → after ≡ before) → Kept before r after
kept before r after stands refused = record { stands = stands; lends = go (ltb r refused_from) refl }
  where
    go : (b : Bool) → ltb r refused_from ≡ b → Lent before → Lent after
    go true e l = λ size start. stands (ltb-true r refused_from e)
    go false e l = rw (refused (ltb-false r refused_from e)) l

-- what a call asks, and that it leaves a replica where it accepts, of what it was given and of what it left
module _ (f : Exported) where
  asked : (needs : f.Given → Type 0) → ((c : CallOf f) → needs (f.given c)) → {given : f.Given} {r : ℕ} {buffers : f.Left} → Called f given r buffers → needs given
  asked needs h k = subst needs k.gives (h k.call)

  stands : (replica : f.Left → List ℕ) → ((c : CallOf f) → c.result < refused_from → IsStored (replica (f.left c)))
      → {given : f.Given} {r : ℕ} {buffers : f.Left} → Called f given r buffers → r < refused_from → IsStored (replica buffers)
  stands replica h k = transport (λ j. k.answers j < refused_from → IsStored (replica (k.left j))) (h k.call)

pub save_lent : {s out : List ℕ} {r : ℕ} {left : List ℕ} → Called C.save (s, out) r left → Lent s
save_lent = asked C.save (λ g. Lent g.0) (λ c. c.asks)

pub write_lent : {given : (C.write).Given} {r : ℕ} {left : List ℕ} → Called C.write given r left → Lent given.0
write_lent = asked C.write (λ g. Lent g.0) (λ c. c.asks)

pub take_in_lent : {given : (C.take_in).Given} {r : ℕ} {left : List ℕ} → Called C.take_in given r left → Lent given.0
take_in_lent = asked C.take_in (λ g. Lent g.0) (λ c. c.asks)

-- past the house refusals the text of the line holds what the promise says
pub take_in_holds : {s l : List ℕ} {ms : Option Members} {r : ℕ} {left : List ℕ} → Called C.take_in (s, l, ms) r left → IsStored s → Holds l ms
take_in_holds {s} k i = asked C.take_in (λ g. first_that (lent_house g.0) ≡ None → Holds g.1 g.2) (λ c. c.promise.holds) k (replica_passes s i)

pub put_out_lent : {given : (C.put_out).Given} {r : ℕ} {left : List ℕ} → Called C.put_out given r left → Lent given.0
put_out_lent = asked C.put_out (λ g. Lent g.0) (λ c. c.asks)

pub put_out_size_lent : {given : (C.put_out_size).Given} {r : ℕ} → Called C.put_out_size given r tt → Lent given.0
put_out_size_lent = asked C.put_out_size (λ g. Lent g.0) (λ c. c.asks)

pub edit_lent : {given : (C.edit).Given} {r : ℕ} {left : List ℕ} → Called C.edit given r left → Lent given.0
edit_lent = asked C.edit (λ g. Lent g.0) (λ c. c.asks)

pub pull_lent : {given : (C.pull).Given} {r : ℕ} {left : (C.pull).Left} → Called C.pull given r left → Lent given.0 × Lent given.1
pull_lent = asked C.pull (λ g. Lent g.0 × Lent g.1) (λ c. c.asks)

pub fresh_kept : {s : List ℕ} {r : ℕ} {left : List ℕ} → Called C.fresh s r left → Kept s r left
unfolding fresh_call
fresh_kept k = kept _ _ _ (stands C.fresh (λ l. l) (λ c. c.promise.stands) k) (fresh_tells.told k).refused

pub load_kept : {given : (C.load).Given} {r : ℕ} {left : List ℕ} → Called C.load given r left → Kept given.0 r left
unfolding load_call
load_kept k = kept _ _ _ (stands C.load (λ l. l) (λ c. c.promise.stands) k) (load_tells.told k).refused

pub write_kept : {given : (C.write).Given} {r : ℕ} {left : List ℕ} → Called C.write given r left → Kept given.0 r left × Lent left
unfolding write_call
write_kept k =
    let d = kept _ _ _ (stands C.write (λ l. l) (λ c. c.promise.stands) k) (write_tells.told k).refused in (d, d.lends (write_lent k))

pub take_in_kept : {given : (C.take_in).Given} {r : ℕ} {left : List ℕ} → Called C.take_in given r left → Kept given.0 r left × Lent left
unfolding take_in_call
take_in_kept k =
    let d = kept _ _ _ (stands C.take_in (λ l. l) (λ c. c.promise.keeps.stands) k) (take_in_tells.told k).refused in (d, d.lends (take_in_lent k))

pub edit_kept : {given : (C.edit).Given} {r : ℕ} {left : List ℕ} → Called C.edit given r left → Kept given.0 r left × Lent left
unfolding edit_call
edit_kept k =
    let d = kept _ _ _ (stands C.edit (λ l. l) (λ c. c.promise.stands) k) (edit_tells.told k).refused in (d, d.lends (edit_lent k))

pub pull_kept : {given : (C.pull).Given} {r : ℕ} {left : (C.pull).Left} → Called C.pull given r left → Kept given.0 r left.0 × Lent left.0
unfolding pull_call
pull_kept k =
    let d = kept _ _ _ (stands C.pull (λ l. l.0) (λ c. c.promise.stands) k) (λ h. ap (λ (l : (C.pull).Left). l.0) ((pull_tells.told k).refused h)) in
    (d, d.lends (pull_lent k).0)
