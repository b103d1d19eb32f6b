-- The fourteen cases of the C calls: what is seen is what the definitions show, and so the table. Assumes nothing.
use mathlib.Core.Path.{◌≡◌, ap, ap₂, ◌∙◌}
use mathlib.Core.List.{List, [], ◌∷◌}
use Rattle.std.specs.Prelude.{None, Some}
use Prim.Native.Nat.{ℕ}
use lib.ListN.{replicate}
use Rattle.rules.specs.Choice.{maybe}
use Rattle.rules.specs.Examples.{lot, Step, Seen, then, anew, fresh_saved, wrote, saved, short, shorts, look, play, table, steps_of, seen_of}
use Rattle.rules.specs.Image.{save}
use Rattle.rules.specs.Answer.{answered_number}
use Rattle.rules.specs.Read.{leaves, winner}
use Rattle.rules.specs.Replica.{Replica, tree_of}
use Rattle.rules.specs.Write.{Write, write}
use Rattle.rules.proofs.Examples as rules
use Rattle.store.specs.Storage.{replica_of, IsStored}
use Rattle.refile.specs.Decode.{decode}
use Rattle.demands.specs.Played.{Reads, seen_in, Fresh, Writes, Plays}
use Rattle.demands.proofs.CallLaws.{Holding, fresh_does, save_does, write_does}
use Rattle.demands.proofs.ReadLaws.{winner_does, leaves_does, sequence_does}
use Rattle.demands.proofs.LeafLaws.{leaves_read, winner_read}

-- the reads see what the replica holds
looked : (x : ℕ) (s : List ℕ) → IsStored s → (k : Reads s) → seen_in x s k ≡ wrote (decode x) (replica_of s).seq.0 (shorts (leaves (tree_of (replica_of s) lot)))
    (maybe None (λ a. Some (short a)) (winner (tree_of (replica_of s) lot)))
looked x s i k =
    let l = leaves_does k.asks_leaves i in
    let w = winner_does k.asks_winner i in
    let p = sequence_does k.asks_sequence i in
    let q = leaves_read (replica_of s) i.replica k.out k.room k.count k.leaves l.0 l.1 in
    let v = winner_read (replica_of s) i.replica k.out k.room k.size k.winner w.0 w.1 in
    λ j. wrote (decode x) (p j) (q j) (v j)

-- a step that writes
write_step : (s : List ℕ) (w : Write) (m : List ℕ) (o : Seen) → IsStored s → Writes s w m o → (o ≡ look (write (replica_of s) w)) × Holding (write (replica_of s) w).1 m
unfolding look
write_step s w m o i k =
    let d = write_does k.write i in
    let e = d.1.means in (
      k.sees
          ∙ (looked k.result m d.1.is k.reads
          ∙ λ j. wrote (d.0 j) (e j).seq.0 (shorts (leaves (tree_of (e j) lot))) (maybe None (λ a. Some (short a)) (winner (tree_of (e j) lot)))),
      d.1,
    )

-- any calls that keep their promises show, step by step, what the definitions do
pub plays : (steps : List Step) (s : List ℕ) (seen : List Seen) → IsStored s → Plays steps s seen → seen ≡ play (replica_of s) steps
unfolding play
plays [] s seen i p = p
plays (then w ∷ steps) s seen i p =
    let d = write_step s w p.2 p.0 i p.3 in
    p.5
    ∙ ap₂ (λ (o : Seen) (os : List Seen). o ∷ os) d.0
    (plays steps p.2 p.1 d.1.is p.4 ∙ ap (λ (r : Replica). play r steps) d.1.means)
plays (anew w ∷ steps) s seen i p =
    let f = fresh_does p.4.fresh p.4.accepted in
    let d = write_step p.2 w p.3 p.0 f.is p.5 in
    p.7
    ∙ ap₂ (λ (o : Seen) (os : List Seen). o ∷ os) (d.0 ∙ ap (λ (r : Replica). look (write r w)) f.means)
    (plays steps p.3 p.1 d.1.is p.6
    ∙ ap (λ (r : Replica). play r steps) (d.1.means ∙ ap (λ (r : Replica). (write r w).1) f.means))
plays (fresh_saved ∷ steps) s seen i p =
    let f = fresh_does p.3.fresh p.3.accepted in
    let d = save_does p.4.save f.is in
    let e = f.means in
    p.6
    ∙ ap₂ (λ (o : Seen) (os : List Seen). o ∷ os)
    (p.4.sees
    ∙ ((λ j. saved (d.0 j) (d.1 j))
    ∙ ap (λ (r : Replica). saved (answered_number (save r (replicate 16 0xee)).0) (save r (replicate 16 0xee)).1) e))
    (plays steps p.2 p.1 f.is p.5 ∙ ap (λ (r : Replica). play r steps) e)

-- "The fourteen examples above are proved as a single table under a single statement": run by calls from what
-- refile_fresh made, the table's steps show the table's outcomes
pub fourteen : (b s : List ℕ) (seen : List Seen) → Fresh b s → Plays (steps_of table) s seen → seen ≡ seen_of table
fourteen b s seen f p =
    let h = fresh_does f.fresh f.accepted in
    plays (steps_of table) s seen h.is p ∙ (ap (λ (r : Replica). play r (steps_of table)) h.means ∙ rules.fourteen)
